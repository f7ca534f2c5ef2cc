-- Laws of telling: what stays and what falls, and that growing goes on.
use Rattle.std.specs.Prelude.{◌≡◌, ℕ, ◌+◌, ◌-◌, ◌*◌, ◌/◌, ◌%◌, ◌<◌, ◌≤◌, Bool, true, false, not, ◌&&◌, ◌⊎◌, List, length, ◌==◌, ◌≢◌, bit_and, nat_lt, slice_index, slice_index_or}
use mathlib.Core.Path.{refl, sym, ap, subst, ◌∙◌}
use Rattle.std.proofs.Common.{inl, inr, ⊎_elim, div-add-mod', arith, lt-ltb, ne_eqb, length-set, get_or-set_same, get_or-set_other}
use Rattle.std.proofs.Math.Decide.{ℕ_discrete}
use Rattle.rules.specs.Images.{Plane}
use Rattle.rules.specs.Planning.{touch}
use Rattle.laws.specs.Tests.{split, clash, and_l, and_r, and_in, not_in}
use Rattle.words.specs.Words.{word_bit, bit_of_word, place}
use Rattle.words.specs.Digits.{place_and, place_zero}
use Rattle.words.specs.WordLaws.{flat_here}
use Rattle.planes.specs.PlaneLaws.{pixel_row, seen_is}
use Rattle.planes.specs.Scratch.{spot, Sizes, seen}
use Rattle.sweeps.specs.Marks.{Lit, Grows}
use Rattle.sweeps.specs.Relaxing.{lowered, level_pos, sum_set}
use Rattle.sweeps.specs.Rings.{level, sum_by, later}
use Rattle.sweeps.specs.Telling.{Lowers, none, more, Told, Meant, Aimed}

module _ {at : ℕ → ℕ} {v : ℕ} {B : ℕ → Bool} where
  pub lowers_then : {r0 m0 g0 r1 m1 g1 r2 m2 g2 : List ℕ} → Lowers at v B r0 m0 g0 r1 m1 g1 → Lowers at v B r1 m1 g1 r2 m2 g2 → Lowers at v B r0 m0 g0 r2 m2 g2
  lowers_then A none = A
  lowers_then A (more L j p b e lo lm lg) = more (lowers_then A L) j p b e lo lm lg

  module _ {ring marks got : List ℕ} where
    pub lowers_long : {r m g : List ℕ} → Lowers at v B ring marks got r m g → length r ≡ length ring
    lowers_long none = refl
    lowers_long (more {r = r} L j p b e lo lm lg) = length-set r p (v + 1) ∙ lowers_long L

    -- what has at most that ring stays
    pub lowers_same : {r m g : List ℕ} → Lowers at v B ring marks got r m g → (x : ℕ) → level (slice_index ring x) ≤ v + 1 → slice_index r x ≡ slice_index ring x
    lowers_same none x h = refl
    lowers_same (more {r = r} L j p b e lo lm lg) x h =
        let s = lowers_same L x h in
        get_or-set_other r p x (v + 1) 0 (λ (a : x ≡ p). let z : level (slice_index r p) ≤ v + 1 = subst (λ (y : ℕ). level y ≤ v + 1) (sym s ∙ ap (λ (y : ℕ). slice_index r y) a) h in omega arith) ∙ s

    -- rings fall, or all stays
    pub lowers_sum : {r m g : List ℕ} → ((j : ℕ) → B j ≡ true → at j < length ring) → Lowers at v B ring marks got r m g
        → (sum_by level r < sum_by level ring) ⊎ ((r ≡ ring) × (m ≡ marks))
    lowers_sum inn none = inr (refl, refl)
    lowers_sum inn (more {r = r} L j p b e lo lm lg) =
        let lp : p < length r = omega (arith, inn j b, e, lowers_long L) in
        let s = sum_set level r p (v + 1) lp in
        let u = level_pos (v + 1) (omega arith) in
        inl (⊎_elim (λ (a : sum_by level r < sum_by level ring). omega arith) (λ a. omega (arith, ap (sum_by level) a.0)) (lowers_sum inn L))

    pub lowers_marks : {r m g : List ℕ} → Lowers at v B ring marks got r m g → (j : ℕ) → word_bit m j ≡ true → (word_bit marks j ≡ true) ⊎ (B j ≡ true)
    lowers_marks none j u = inl u
    lowers_marks (more L i p b e lo lm lg) j u = elim (ℕ_discrete j i) [
      | yes a ↦ inr (subst (λ (y : ℕ). B y ≡ true) (sym a) b)
      | no a ↦ lowers_marks L j (sym (lm.same j a) ∙ u)
    ]

    pub lowers_got : {r m g : List ℕ} → Lowers at v B ring marks got r m g → (j : ℕ) → word_bit g j ≡ true → (word_bit got j ≡ true) ⊎ (B j ≡ true)
    lowers_got none j u = inl u
    lowers_got (more L i p b e lo lm lg) j u = elim (ℕ_discrete j i) [
      | yes a ↦ inr (subst (λ (y : ℕ). B y ≡ true) (sym a) b)
      | no a ↦ lowers_got L j (sym (lg.same j a) ∙ u)
    ]

    pub lowers_keep : {r m g : List ℕ} → Lowers at v B ring marks got r m g → (j : ℕ) → word_bit marks j ≡ true → word_bit m j ≡ true
    lowers_keep none j u = u
    lowers_keep (more {m' = m'} L i p b e lo lm lg) j u = elim (ℕ_discrete j i) [
      | yes a ↦ subst (λ (y : ℕ). word_bit m' y ≡ true) (sym a) lm.on
      | no a ↦ lm.same j a ∙ lowers_keep L j u
    ]

    -- pixels that were told stay told
    pub told_still : {r m g : List ℕ} (i mask : ℕ) (cand : List ℕ) → Lowers at v B ring marks got r m g → Told at i mask v cand ring → Told at i mask v cand r
    told_still i mask cand L T k M = subst (λ (y : ℕ). level y ≤ v + 1) (sym (lowers_same L (at (i * 64 + k)) (T k M))) (T k M)

-- one word told, bit after bit ----------------------------------------------------------------------------------------------

-- the bits of `left` are still to be told
pub record TellingWord (i mask x less v : ℕ) (cand : List ℕ) (left : ℕ) (ring marks got ring' marks' got' : List ℕ) : Type 0 where
  pub rings_long : length ring' ≡ length ring
  pub marks_long : length marks' ≡ length marks
  pub got_long : length got' ≡ length got
  pub among : (k : ℕ) → k < 64 → bit_of_word left k ≡ true → Meant i mask cand k
  pub lowers : (at : ℕ → ℕ) (B : ℕ → Bool) → Aimed at B i mask x less cand → Lowers at v B ring marks got ring' marks' got'
  pub told : (at : ℕ → ℕ) (B : ℕ → Bool) → Aimed at B i mask x less cand → (k : ℕ) → Meant i mask cand k → bit_of_word left k ≡ false → level (slice_index ring' (at (i * 64 + k))) ≤ v + 1

-- bit k of the candidates in the mask
meant_is : (i mask : ℕ) (cand : List ℕ) (k : ℕ) → k < 64 → bit_of_word (bit_and (slice_index cand i) mask) k ≡ (word_bit cand (i * 64 + k) && bit_of_word mask k)
unfolding bit_of_word
meant_is i mask cand k lk = place_and (slice_index cand i) mask (63 - k) ∙ ap (λ (b : Bool). b && place mask (63 - k)) (sym (flat_here 64 cand i (63 - k) k (omega arith)))

pub telling_none : (i mask x less v : ℕ) (cand ring marks got : List ℕ) → TellingWord i mask x less v cand (bit_and (slice_index cand i) mask) ring marks got ring marks got
telling_none i mask x less v cand ring marks got = record {
  rings_long = refl;
  marks_long = refl;
  got_long = refl;
  among = λ k lk u. let e = sym (meant_is i mask cand k lk) ∙ u in record { in_word = lk; in_mask = and_r (word_bit cand (i * 64 + k)) _ e; in_cand = and_l (word_bit cand (i * 64 + k)) _ e };
  lowers = λ at B A. none;
  told = λ at B A k M u. clash (meant_is i mask cand k M.in_word ∙ and_in _ _ M.in_cand M.in_mask) u;
}

pub telling_more : (i mask x less v : ℕ) (cand : List ℕ) (left k left' : ℕ) (ring marks got r1 m1 g1 r2 m2 g2 : List ℕ) → k < 64 → bit_of_word left k ≡ true
    → ((j : ℕ) → j < 64 → bit_of_word left' j ≡ (bit_of_word left j && not (j == k))) → TellingWord i mask x less v cand left ring marks got r1 m1 g1
    → ((at : ℕ → ℕ) (B : ℕ → Bool) → B (i * 64 + k) ≡ true → at (i * 64 + k) ≡ x + k - less → Lowers at v B r1 m1 g1 r2 m2 g2) → level (slice_index r2 (x + k - less)) ≤ v + 1
    → length r2 ≡ length r1 → length m2 ≡ length m1 → length g2 ≡ length g1 → TellingWord i mask x less v cand left' ring marks got r2 m2 g2
telling_more i mask x less v cand left k left' ring marks got r1 m1 g1 r2 m2 g2 lk u w T L lo lr lm lg = record {
  rings_long = lr ∙ T.rings_long;
  marks_long = lm ∙ T.marks_long;
  got_long = lg ∙ T.got_long;
  among = λ j lj e. T.among j lj (and_l (bit_of_word left j) _ (sym (w j lj) ∙ e));
  lowers = λ at B A. lowers_then (T.lowers at B A) (here at B A);
  told = λ at B A j M e. elim (ℕ_discrete j k) [
    | yes q ↦ subst (λ (y : ℕ). level (slice_index r2 y) ≤ v + 1) (sym (spot_of at B A) ∙ ap (λ (y : ℕ). at (i * 64 + y)) (sym q)) lo
    | no q ↦
        let e' : bit_of_word left j ≡ false =
        split (bit_of_word left j) (λ a. clash (w j M.in_word ∙ and_in _ _ a (not_in _ (ne_eqb j k q))) e) (λ a. a) in
        let t = T.told at B A j M e' in
        subst (λ (y : ℕ). level y ≤ v + 1) (sym (lowers_same (here at B A) (at (i * 64 + j)) t)) t
  ];
}
  where
    spot_of : (at : ℕ → ℕ) (B : ℕ → Bool) → Aimed at B i mask x less cand → at (i * 64 + k) ≡ x + k - less
    spot_of at B A = omega (arith, (A k (T.among k lk u)).1)

    here : (at : ℕ → ℕ) (B : ℕ → Bool) → Aimed at B i mask x less cand → Lowers at v B r1 m1 g1 r2 m2 g2
    here at B A = L at B (A k (T.among k lk u)).0 (spot_of at B A)

pub telling_all : {i mask x less v left : ℕ} {cand ring marks got r m g : List ℕ} → left ≡ 0 → TellingWord i mask x less v cand left ring marks got r m g → (at : ℕ → ℕ) (B : ℕ → Bool) →
    Aimed at B i mask x less cand → Lowers at v B ring marks got r m g × Told at i mask v cand r
unfolding bit_of_word
telling_all {left = left} e T at B A = (T.lowers at B A, λ k M. T.told at B A k M (ap (λ (y : ℕ). place y (63 - k)) e ∙ place_zero (63 - k)))

-- no bit is meant by an empty mask
pub meant_none : {i mask k : ℕ} {cand : List ℕ} → mask ≡ 0 → Meant i mask cand k → ⊥
unfolding bit_of_word
meant_none {k = k} e M = clash M.in_mask (ap (λ (y : ℕ). place y (63 - k)) e ∙ place_zero (63 - k))

-- growing goes on while a pixel q of ring v tells those that touch it -----------------------------------------------------

module _ (w h : ℕ) (z : Sizes w h) (free seed known : Plane) (cand : List ℕ) (at : ℕ → ℕ) (v : ℕ) (B : ℕ → Bool) (q : ℕ) (lq : q < h * w) (pos : 0 < v)
    (bits : (j : ℕ) → B j ≡ true → (at j < h * w) × (touch w (at j) q ≡ true) × (word_bit cand j ≡ true) × (j ≡ spot (at j / w) (at j % w))) where
  -- the bit of another pixel is another
  spot_other : (x y : ℕ) → x < h * w → y < h * w → (x ≢ y) → spot (x / w) (x % w) ≢ spot (y / w) (y % w)
  spot_other x y lx ly n e =
      let (a, b) = pixel_row w h z x lx in
      let (a', b') = pixel_row w h z y ly in
      let er : x / w ≡ y / w = omega (arith, z.w_max) in
      let ec : x % w ≡ y % w = omega (arith, z.w_max) in
      n (sym (div-add-mod' x w) ∙ mathlib.Core.Path.ap₂ (λ (u v : ℕ). u * w + v) er ec ∙ div-add-mod' y w)

  lit_here : (j p : ℕ) (m' m : List ℕ) → j ≡ spot (p / w) (p % w) → Lit j m' m → seen w m' p ≡ true
  lit_here j p m' m e li = seen_is w h z m' p ∙ ap (word_bit m') (sym e) ∙ li.on

  lit_other : (j p : ℕ) (m' m : List ℕ) → p < h * w → j ≡ spot (p / w) (p % w) → Lit j m' m → (x : ℕ) → x < h * w → (x ≢ p) → seen w m' x ≡ seen w m x
  lit_other j p m' m lp e li x lx n = seen_is w h z m' x ∙ li.same (spot (x / w) (x % w)) (λ u. spot_other x p lx lp n (u ∙ e)) ∙ sym (seen_is w h z m x)

  pub lowers_grows : {ring marks got r m g : List ℕ} → slice_index ring q ≡ v → Grows w h free seed known ring marks got cand → Lowers at v B ring marks got r m g → Grows w h free seed known r m g cand
  lowers_grows vq G none = G
  lowers_grows {ring = ring} vq G (more {r = r} {m = m} {g = g} {m' = m'} {g' = g'} L j p b e lo lm lg) =
      let E = lowers_grows vq G L in
      let (lj, tj, cj, sj) = bits j b in
      let lp : p < h * w = omega arith in
      let tp : touch w p q ≡ true = subst (λ (x : ℕ). touch w x q ≡ true) e tj in
      let sp : j ≡ spot (p / w) (p % w) = subst (λ (x : ℕ). j ≡ spot (x / w) (x % w)) e sj in
      let rq : slice_index_or r q 0 ≡ v = lowers_same L q (omega (arith, ap level vq ∙ level_pos v pos)) ∙ vq in
      let la : later free known p ≡ true = sym (E.cands p lp) ∙ seen_is w h z cand p ∙ ap (word_bit cand) (sym sp) ∙ cj in
      record {
        frame = E.frame;
        sweeping = lowered w h free seed known E.frame r (seen w m) E.sweeping p q v lp lq tp rq pos la lo (seen w m')
            (λ x lx u. elim (ℕ_discrete x p) [
              | yes a ↦ clash (subst (λ (y : ℕ). seen w m' y ≡ true) (sym a) (lit_here j p m' m sp lm)) u
              | no a ↦ (a, sym (lit_other j p m' m lp sp lm x lx a) ∙ u)
            ])
            (λ x lx u. elim (ℕ_discrete x p) [ yes a ↦ inl a | no a ↦ inr (sym (lit_other j p m' m lp sp lm x lx a) ∙ u) ]);
        cands = E.cands;
        gots = λ x lx. elim (ℕ_discrete x p) [
          | yes a ↦ rw a (lit_here j p g' g sp lg ∙ sym (ap (nat_lt 0) (get_or-set_same r p (v + 1) 0 (omega (arith, E.sweeping.long))) ∙ lt-ltb 0 (v + 1) (omega arith)))
          | no a ↦ lit_other j p g' g lp sp lg x lx a ∙ E.gots x lx ∙ ap (nat_lt 0) (sym (get_or-set_other r p x (v + 1) 0 a))
        ];
      }
