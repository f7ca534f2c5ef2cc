-- Laws of the rows of a pair as they are found, and of scratch that is emptied again.
use Rattle.std.specs.Prelude.{◌≡◌, Bool, List, ◌⊎◌, ℕ, ◌+◌, ◌-◌, ◌*◌, ◌<◌, ◌≤◌, length, get_or, set}
use Rattle.std.proofs.Math.Path.{refl, ap, ap₂}
use Rattle.std.proofs.Common.{sym, subst, ◌∙◌, inl, inr, ⊎_elim, arith, le-ltb, get_or-set_same, get_or-set_other}
use Rattle.std.proofs.Math.Bool.{true, false, not, ◌&&◌}
use Rattle.std.proofs.Math.Decide.{dec_lt, ℕ_discrete}
use Rattle.std.proofs.Math.Dec.{ltb}
use Rattle.rules.specs.Images.{Plane, row_bytes}
use Rattle.rules.specs.Planning.{shadow, seeds}
use Rattle.laws.specs.Tests.{split, clash}
use Rattle.image.specs.Rows.{packed, Clean}
use Rattle.words.specs.Words.{word_bit, row_part}
use Rattle.planes.specs.PlaneLaws.{row_bit_lem}
use Rattle.planes.specs.Scratch.{Sizes, Pixel, Ready, Drawn, row_bit, RowPut}
use Rattle.waves.specs.RowLaws.{put_bits, upto_row, gap_none, none_before, none_behind}
use Rattle.waves.specs.Rows.{Aheads, Room, Upto}
use Rattle.rings.specs.ByteLaws.{row_column, bits_at, bits_off, drawn_bits}
use Rattle.rings.specs.NearRings.{pixel_bits}
use Rattle.pair.specs.Found.{FoundRow, Below, AheadFrom, Empty}

pub empty_ready : (w h : ℕ) (l : List ℕ) → Empty l → Ready w h l
empty_ready w h l E = record { long = E.long; framed = λ j u. clash u (E.none j) }

pub empty_room : (w h : ℕ) (ahead l : List ℕ) → Empty l → Room w h ahead l
empty_room w h ahead l E = record { ready = empty_ready w h l E; sparse = λ k j a b c. E.none j }

-- planes row by row, upward ------------------------------------------------------------------------------------------------

module _ (w h : ℕ) (z : Sizes w h) (f : Plane) (was : List ℕ) (R : Ready w h was) where
  off : (j : ℕ) → (Pixel w h j → ⊥) → word_bit was j ≡ pixel_bits w h f j
  off j n = split (word_bit was j) (λ u. absurd (n (R.framed j u))) (λ u. u ∙ sym (bits_off w h f j n))

  pub below_start : Below h (pixel_bits w h f) was was
  below_start = record { inner = λ j x. off j (λ P. omega (arith, P.here, P.row_in, P.column_in, z.w_max)); outer = λ j x. refl }

  pub below_row : (y : ℕ) (x : ℕ → Bool) (mid now : List ℕ) → y < h → ((c : ℕ) → c < 256 → x c ≡ (ltb c w && f (y * w + c))) → RowPut (y + 33) x mid now → Below (y + 1) (pixel_bits w h f) was mid →
      Below y (pixel_bits w h f) was now
  below_row y x mid now ly X P B =
      let W = put_bits (y + 33) x (pixel_bits w h f) mid now (λ c l. X c l ∙ sym (bits_at w h f y c ly (omega arith))) P in
      record {
        inner = λ j a. elim (dec_lt j ((y + 33) * 320 + 256)) [
          | yes b ↦ W.inner j a b
          | no b ↦ W.behind j (omega arith) ∙ elim (dec_lt j ((y + 1 + 33) * 320)) [
            | yes d ↦ B.outer j d ∙ off j (λ P. omega (arith, P.here, P.column_in, z.w_max))
            | no d ↦ B.inner j (omega arith)
          ]
        ];
        outer = λ j a. W.before j a ∙ B.outer j (omega arith);
      }

  pub below_all : (now : List ℕ) → length now ≡ length was → Below 0 (pixel_bits w h f) was now → Drawn w h f now
  below_all now e B = drawn_bits w h f z now (e ∙ R.long) (λ j. elim (dec_lt j (33 * 320)) [
    | yes a ↦ B.outer j (omega arith) ∙ off j (λ P. omega (arith, P.here))
    | no a ↦ B.inner j (omega arith)
  ])

-- rows that have shadow
pub ahead_start : (w h : ℕ) → Sizes w h → (f : Plane) (ahead : List ℕ) → h < length ahead → AheadFrom h h (pixel_bits w h f) (set ahead h h)
ahead_start w h z f ahead l = record {
  on = λ k a b. let e : k ≡ h = omega arith in rw (e, get_or-set_same ahead h h 0 l) (omega arith, omega arith);
  off = λ k j a b x y. bits_off w h f j (λ P. let e : k ≡ h = omega arith in omega (arith, P.here, P.row_in, P.column_in, z.w_max));
}

pub ahead_more : (h y r : ℕ) (g : ℕ → Bool) (ahead : List ℕ) → y < h → y < length ahead →
    (r ≡ y) ⊎ ((r ≡ get_or ahead (y + 1) 0) × ((j : ℕ) → (y + 33) * 320 ≤ j → j < (y + 1 + 33) * 320 → g j ≡ false))
    → AheadFrom h (y + 1) g ahead → AheadFrom h y g (set ahead y r)
ahead_more h y r g ahead ly ll c A = record {
  on = λ k a b. elim (ℕ_discrete k y) [
    | yes e ↦ rw (e, get_or-set_same ahead y r 0 ll) (⊎_elim (λ (q : r ≡ y). (omega arith, omega arith))
        (λ (q, n). let o = A.on (y + 1) (omega arith) (omega arith) in (omega (arith, o.0), omega (arith, o.1))) c)
    | no e ↦ rw (get_or-set_other ahead y k r 0 e) (A.on k (omega arith) b)
  ];
  off = λ k j a b lo hi. elim (ℕ_discrete k y) [
    | yes e ↦ here j (subst (λ (i : ℕ). (i + 33) * 320 ≤ j) e lo) (subst (λ (i : ℕ). j < (i + 33) * 320) (ap (λ (i : ℕ). get_or (set ahead y r) i 0) e ∙ get_or-set_same ahead y r 0 ll) hi) c
    | no e ↦ A.off k j (omega arith) b lo (subst (λ (i : ℕ). j < (i + 33) * 320) (get_or-set_other ahead y k r 0 e) hi)
  ];
}
  where
    here : (j : ℕ) → (y + 33) * 320 ≤ j → j < (r + 33) * 320 → (r ≡ y) ⊎ ((r ≡ get_or ahead (y + 1) 0) × ((j : ℕ) → (y + 33) * 320 ≤ j → j < (y + 1 + 33) * 320 → g j ≡ false)) → g j ≡ false
    here j lo hi (inl q) = absurd (omega arith)
    here j lo hi (inr (q, n)) = elim (dec_lt j ((y + 1 + 33) * 320)) [
      | yes d ↦ n j lo d
      | no d ↦ A.off (y + 1) j (omega arith) (omega arith) (omega arith) (subst (λ (i : ℕ). j < (i + 33) * 320) q hi)
    ]

pub ahead_all : (h : ℕ) (g : ℕ → Bool) (ahead : List ℕ) → length ahead ≡ 257 → AheadFrom h 0 g ahead → Aheads h ahead
ahead_all h g ahead e A = record { long = e; on = λ k l. A.on k (omega arith) l }

pub found_room : (w h : ℕ) (f : Plane) (ahead was l : List ℕ) → Ready w h l → AheadFrom h 0 (pixel_bits w h f) ahead → Below 0 (pixel_bits w h f) was l → Room w h ahead l
found_room w h f ahead was l R A B = record { ready = R; sparse = λ k j a lo hi. B.inner j (omega arith) ∙ A.off k j (omega arith) a lo hi }

-- one row of a pair ---------------------------------------------------------------------------------------------------------

module _ (w h n y : ℕ) (low up : List ℕ) (z : Sizes w h) (en : n ≡ row_bytes w) (cl : Clean w h low) (cu : Clean w h up) (ly : y < h) where
  pub seed_columns : (c : ℕ) → (row_part low (y * n) n c && row_part up (y * n) n c) ≡ (ltb c w && seeds (packed w low) (packed w up) (y * w + c))
  unfolding seeds
  seed_columns c =
      ap₂ ◌&&◌ (row_column w h n y low z en cl ly (row_part low (y * n) n) (λ c. refl) c) (row_column w h n y up z en cu ly (row_part up (y * n) n) (λ c. refl) c)
      ∙ fold (ltb c w) (packed w low (y * w + c)) (packed w up (y * w + c))
    where
      fold : (a b d : Bool) → ((a && b) && (a && d)) ≡ (a && (b && d))
      fold true b d = refl
      fold false b d = refl

  pub shadow_columns : (c : ℕ) → (row_part up (y * n) n c && not (row_part low (y * n) n c)) ≡ (ltb c w && shadow (packed w low) (packed w up) (y * w + c))
  unfolding shadow
  shadow_columns c =
      ap₂ (λ (a b : Bool). a && not b) (row_column w h n y up z en cu ly (row_part up (y * n) n) (λ c. refl) c) (row_column w h n y low z en cl ly (row_part low (y * n) n) (λ c. refl) c)
      ∙ fold (ltb c w) (packed w up (y * w + c)) (packed w low (y * w + c))
    where
      fold : (a b d : Bool) → ((a && b) && not (a && d)) ≡ (a && (b && not d))
      fold true b d = refl
      fold false b d = refl

  -- where a row has no shadow, it has no bit of the shadow
  pub no_shadow_row : ((c : ℕ) → (row_part up (y * n) n c && not (row_part low (y * n) n c)) ≡ false) → (j : ℕ) → (y + 33) * 320 ≤ j → j < (y + 1 + 33) * 320 →
      pixel_bits w h (shadow (packed w low) (packed w up)) j ≡ false
  no_shadow_row e j lo hi =
      let c : ℕ = j - (y + 33) * 320 in
      let q : (y + 33) * 320 + c ≡ j = omega arith in
      subst (λ (i : ℕ). pixel_bits w h (shadow (packed w low) (packed w up)) i ≡ false) q (bits_at w h (shadow (packed w low) (packed w up)) y c ly (omega arith) ∙ sym (shadow_columns c) ∙ e c)

named : (k : ℕ) (f g : ℕ → Bool) (was now : List ℕ) → ((c : ℕ) → f c ≡ g c) → RowPut k f was now → RowPut k g was now
named k f g was now e W = record { inner = λ j x y. W.inner j x y ∙ e (j - k * 320); before = W.before; behind = W.behind }

-- `find_row`, from its parts
pub found : (y n last : ℕ) (low up left left' seed seed' : List ℕ) (u l b s : ℕ → Bool) → ((c : ℕ) → u c ≡ row_part up (y * n) n c) → ((c : ℕ) → l c ≡ row_part low (y * n) n c) →
    ((c : ℕ) → b c ≡ (l c && u c))
    → ((c : ℕ) → s c ≡ (u c && not (l c))) → RowPut (y + 33) b seed seed' → RowPut (y + 33) s left left' → FoundRow y n last y low up left left' seed seed'
found y n last low up left left' seed seed' u l b s U L B S P Q = record {
  seed_row = named (y + 33) b _ seed seed' (λ c. B c ∙ ap₂ ◌&&◌ (L c) (U c)) P;
  left_row = λ e. named (y + 33) s _ left left' (λ c. S c ∙ ap₂ (λ (x y : Bool). x && not y) (U c) (L c)) Q;
  at = inl refl;
}

pub found_none : (y n last : ℕ) (low up left seed seed' : List ℕ) (u l b s : ℕ → Bool) → ((c : ℕ) → u c ≡ row_part up (y * n) n c) → ((c : ℕ) → l c ≡ row_part low (y * n) n c) →
    ((c : ℕ) → b c ≡ (l c && u c))
    → ((c : ℕ) → s c ≡ (u c && not (l c))) → RowPut (y + 33) b seed seed' → ((c : ℕ) → s c ≡ false) → FoundRow y n last last low up left left seed seed'
found_none y n last low up left seed seed' u l b s U L B S P e = record {
  seed_row = named (y + 33) b _ seed seed' (λ c. B c ∙ ap₂ ◌&&◌ (L c) (U c)) P;
  left_row = λ q. record {
    inner = λ j x y'. let z : (y + 33) * 320 + (j - (y + 33) * 320) ≡ j = omega arith in
        ap (word_bit left) (sym z) ∙ sym (row_bit_lem left (y + 33) (j - (y + 33) * 320) (omega arith)) ∙ q (j - (y + 33) * 320) ∙ sym (none (j - (y + 33) * 320));
    before = λ j x. refl;
    behind = λ j x. refl;
  };
  at = inr (refl, none);
}
  where
    none : (c : ℕ) → (row_part up (y * n) n c && not (row_part low (y * n) n c)) ≡ false
    none c = sym (S c ∙ ap₂ (λ (x y : Bool). x && not y) (U c) (L c)) ∙ e c

-- the loop: a row more
module _ (w h n y last r : ℕ) (low up left0 left left' seed0 seed seed' : List ℕ) (z : Sizes w h) (en : n ≡ row_bytes w) (cl : Clean w h low) (cu : Clean w h up) (ly : y < h)
    (F : FoundRow y n last r low up left left' seed seed') where
  pub seed_more : Ready w h seed0 → Below (y + 1) (pixel_bits w h (seeds (packed w low) (packed w up))) seed0 seed → Below y (pixel_bits w h (seeds (packed w low) (packed w up))) seed0 seed'
  seed_more R B = below_row w h z (seeds (packed w low) (packed w up)) seed0 R y _ seed seed' ly (λ c l. seed_columns w h n y low up z en cl cu ly c) F.seed_row B

  pub left_more : Empty left0 → Below (y + 1) (pixel_bits w h (shadow (packed w low) (packed w up))) left0 left → Below y (pixel_bits w h (shadow (packed w low) (packed w up))) left0 left'
  unfolding row_bit
  left_more E B = below_row w h z (shadow (packed w low) (packed w up)) left0 (empty_ready w h left0 E) y _ left left' ly (λ c l. shadow_columns w h n y low up z en cl cu ly c)
      (F.left_row (λ c. elim (dec_lt c 256) [
        | yes l ↦ ap (λ (b : Bool). ltb c 256 && b) (B.outer ((y + 33) * 320 + c) (omega arith) ∙ E.none ((y + 33) * 320 + c)) ∙ Rattle.laws.specs.Tests.and_false (ltb c 256)
        | no l ↦ ap (λ (b : Bool). b && word_bit left ((y + 33) * 320 + c)) (le-ltb c 256 (omega arith))
      ])) B

  pub ahead_next : (ahead : List ℕ) → last ≡ get_or ahead (y + 1) 0 → y < length ahead → AheadFrom h (y + 1) (pixel_bits w h (shadow (packed w low) (packed w up))) ahead →
      AheadFrom h y (pixel_bits w h (shadow (packed w low) (packed w up))) (set ahead y r)
  ahead_next ahead e l A = ahead_more h y r (pixel_bits w h (shadow (packed w low) (packed w up))) ahead ly l
      (⊎_elim (λ q. inl q) (λ (q, s). inr (q ∙ e, no_shadow_row w h n y low up z en cl cu ly s)) F.at) A

-- emptied again -------------------------------------------------------------------------------------------------------------

module _ (w h : ℕ) (ahead l : List ℕ) (z : Sizes w h) (R : Room w h ahead l) where
  pub empty_start : Upto (get_or ahead 0 0) (λ j. false) l l
  empty_start = record { inner = λ j x. none_before w h j ahead l z R x; outer = λ j x. refl }

  pub empty_more : (y y' : ℕ) (x : ℕ → Bool) (mid now : List ℕ) → y < h → y < y' → y' ≡ get_or ahead (y + 1) 0 → ((c : ℕ) → x c ≡ false) → RowPut (y + 33) x mid now → Upto y (λ j. false) l mid →
      Upto y' (λ j. false) l now
  empty_more y y' x mid now ly lt e X P U =
      upto_row y y' (λ j. false) (λ j. false) l mid now (put_bits (y + 33) x (λ j. false) mid now (λ c a. X c) P) (λ j a b. refl) U (λ j a b. sym (gap_none w h y y' j ahead l z R ly e a b)) lt

  pub empty_all : (y : ℕ) (now : List ℕ) → length now ≡ length l → h ≤ y → Upto y (λ j. false) l now → Empty now
  empty_all y now e hy U = record {
    long = e ∙ R.ready.long;
    none = λ j. elim (dec_lt j ((y + 33) * 320)) [
      | yes a ↦ U.inner j a
      | no a ↦ U.outer j (omega arith) ∙ none_behind w h j l z R.ready (omega arith)
    ];
  }
