-- Laws of waves by rows: one row of a wave, then the next one that has something, until all rows are done.
use Rattle.std.specs.Prelude.{◌≡◌, refl, Bool, true, false, not, ◌&&◌, ◌||◌, cond, List, [], ◌∷◌, ℕ, ◌+◌, ◌-◌, ◌*◌, ◌/◌, ◌%◌, ◌<◌, ◌≤◌, get_or}
use Rattle.std.proofs.Common.{sym, ap, ap₂, subst, ◌∙◌, arith}
use native.Mathlib.Nat.{mod-lt, div-add-mod', div-lt_iff_lt-mul}
use Rattle.std.proofs.Math.Decide.{dec_lt, dec_le}
use Rattle.std.proofs.Math.Arith.{digits_div, digits_mod, digits_lt}
use Rattle.laws.specs.Tests.{split, clash, and_true, or_false}
use Rattle.words.specs.Words.{word_bit, beside, bit_of_word, Numbered}
use Rattle.words.specs.WordLaws.{flat_here}
use Rattle.planes.specs.Scratch.{Sizes, Framed, Ready, fresh, spot, row_bit, stacked, RowPut}
use Rattle.planes.specs.PlaneLaws.{fresh_none, row_fits, row_bit_lem, framed_row}
use Rattle.waves.specs.Rows.{Room, RowBits, RowNumbers, RowWave, Upto, WaveTo, Waving}

-- rows put by columns ---------------------------------------------------------------------------------------------------

pub put_bits : (k : ℕ) (f g : ℕ → Bool) (was now : List ℕ) → ((c : ℕ) → c < 256 → f c ≡ g (k * 320 + c)) → RowPut k f was now → RowBits k g was now
put_bits k f g was now e W = record {
  inner = λ j x y.
      let z : k * 320 + (j - k * 320) ≡ j = omega arith in
      W.inner j x y ∙ e (j - k * 320) (omega arith) ∙ ap g z;
  before = W.before;
  behind = W.behind;
}

pub kept_bits : (k : ℕ) (g : ℕ → Bool) (l : List ℕ) → ((c : ℕ) → c < 256 → g (k * 320 + c) ≡ word_bit l (k * 320 + c)) → RowBits k g l l
kept_bits k g l e = record {
  inner = λ j x y. let z : k * 320 + (j - k * 320) ≡ j = omega arith in sym (subst (λ (i : ℕ). g i ≡ word_bit l i) z (e (j - k * 320) (omega arith)));
  before = λ j x. refl;
  behind = λ j x. refl;
}

pub numbers_none : (at v : ℕ) (f : ℕ → Bool) (l : List ℕ) → ((c : ℕ) → c < 256 → f c ≡ false) → RowNumbers at v f l l
numbers_none at v f l e = record {
  here = λ c h. sym (ap (λ (b : Bool). cond b v (get_or l (at + c) 0)) (e c h));
  before = λ p h. refl;
  behind = λ p h. refl;
}

-- a row without a pixel left: nothing is done but that `to` is emptied there
module _ (w y v : ℕ) (from to to' left got ring : List ℕ) (own : ℕ → Bool) (O : (c : ℕ) → own c ≡ row_bit left (y + 33) c) where
  none_left : ((c : ℕ) → own c ≡ false) → (c : ℕ) → c < 256 → word_bit left ((y + 33) * 320 + c) ≡ false
  none_left e c h = sym (row_bit_lem left (y + 33) c h) ∙ sym (O c) ∙ e c

  nothing_new : ((c : ℕ) → c < 256 → fresh from left ((y + 33) * 320 + c) ≡ false) → (more : Bool) → (more ≡ false → (c : ℕ) → c < 256 → word_bit left ((y + 33) * 320 + c) ≡ false)
      → RowBits (y + 33) (fresh from left) to to' → RowWave w y v false more from to to' left left got got ring ring
  nothing_new e more m T = record {
    to_row = T;
    left_row = kept_bits (y + 33) (λ j. word_bit left j && not (fresh from left j)) left
        (λ c h. ap (λ (b : Bool). word_bit left ((y + 33) * 320 + c) && not b) (e c h) ∙ and_true (word_bit left ((y + 33) * 320 + c)));
    got_row = kept_bits (y + 33) (λ j. word_bit got j || fresh from left j) got
        (λ c h. ap (λ (b : Bool). word_bit got ((y + 33) * 320 + c) || b) (e c h) ∙ or_false (word_bit got ((y + 33) * 320 + c)));
    ring_row = numbers_none (y * w) v (λ c. fresh from left ((y + 33) * 320 + c)) ring e;
    none_new = λ z. e;
    no_more = m;
  }

  pub row_done : (none : ℕ → Bool) → ((c : ℕ) → none c ≡ false) → ((c : ℕ) → own c ≡ false) → RowPut (y + 33) none to to' → RowWave w y v false false from to to' left left got got ring ring
  row_done none n e T =
      let f : (c : ℕ) → c < 256 → fresh from left ((y + 33) * 320 + c) ≡ false = λ c h. fresh_none from left ((y + 33) * 320 + c) (none_left e c h) in
      nothing_new f false (λ z. none_left e) (put_bits (y + 33) none (fresh from left) to to' (λ c h. n c ∙ sym (f c h)) T)

  pub row_kept : (now : ℕ → Bool) → ((c : ℕ) → c < 256 → now c ≡ fresh from left ((y + 33) * 320 + c)) → ((c : ℕ) → now c ≡ false) → RowPut (y + 33) now to to'
      → RowWave w y v false true from to to' left left got got ring ring
  row_kept now N e T =
      nothing_new (λ c h. sym (N c h) ∙ e c) true (λ z. clash refl z) (put_bits (y + 33) now (fresh from left) to to' N T)

  pub row_waved : (now rest all had : ℕ → Bool) (left' got' ring' : List ℕ) (more : Bool) → ((c : ℕ) → c < 256 → now c ≡ fresh from left ((y + 33) * 320 + c)) → RowPut (y + 33) now to to'
      → ((c : ℕ) → rest c ≡ (own c && not (now c))) → RowPut (y + 33) rest left left' → ((c : ℕ) → had c ≡ row_bit got (y + 33) c) → ((c : ℕ) → all c ≡ (had c || now c)) →
      RowPut (y + 33) all got got'
      → RowNumbers (y * w) v now ring ring' → (more ≡ false → (c : ℕ) → rest c ≡ false) → RowWave w y v true more from to to' left left' got got' ring ring'
  row_waved now rest all had left' got' ring' more N T R L H A G S M = record {
    to_row = put_bits (y + 33) now (fresh from left) to to' N T;
    left_row = rest_row;
    got_row = put_bits (y + 33) all (λ j. word_bit got j || fresh from left j) got got' (λ c h. A c ∙ ap₂ ◌||◌ (H c ∙ row_bit_lem got (y + 33) c h) (N c h)) G;
    ring_row = record { here = λ c h. S.here c h ∙ ap (λ (b : Bool). cond b v (get_or ring (y * w + c) 0)) (N c h); before = S.before; behind = S.behind };
    none_new = λ z. clash refl z;
    no_more = λ z c h. rest_row.inner ((y + 33) * 320 + c) (omega arith) (omega arith) ∙ sym (rest_is c h) ∙ M z c;
  }
    where
      rest_is : (c : ℕ) → c < 256 → rest c ≡ (word_bit left ((y + 33) * 320 + c) && not (fresh from left ((y + 33) * 320 + c)))
      rest_is c h = R c ∙ ap₂ (λ (a b : Bool). a && not b) (O c ∙ row_bit_lem left (y + 33) c h) (N c h)

      rest_row : RowBits (y + 33) (λ j. word_bit left j && not (fresh from left j)) left left'
      rest_row = put_bits (y + 33) rest (λ j. word_bit left j && not (fresh from left j)) left left' rest_is L

-- numbers written word by word -------------------------------------------------------------------------------------------

-- bit k of word q is a column
pub word_column : (a b c d q x k : ℕ) → (x ≡ get_or (a ∷ b ∷ c ∷ d ∷ []) q 0) × (q < 4) → k < 64 → word_bit (a ∷ b ∷ c ∷ d ∷ []) (q * 64 + k) ≡ bit_of_word x k
unfolding bit_of_word
word_column a b c d q x k (e, l) h = flat_here 64 (a ∷ b ∷ c ∷ d ∷ []) q (63 - k) k (omega arith) ∙ ap (λ (n : ℕ). Rattle.words.specs.Words.place n (63 - k)) (sym e)

-- the places of word q are within the list
pub word_room : (a b c d at n m q x : ℕ) → (x ≡ get_or (a ∷ b ∷ c ∷ d ∷ []) q 0) × (q < 4) → ((k : ℕ) → word_bit (a ∷ b ∷ c ∷ d ∷ []) k ≡ true → at + k < n) → m ≡ n
    → (k : ℕ) → k < 64 → bit_of_word x k ≡ true → at + q * 64 + k < m
word_room a b c d at n m q x e room z k l on = omega (arith, room (q * 64 + k) (word_column a b c d q x k e l ∙ on))

pub four_numbers : (at v a b c d : ℕ) (l0 l1 l2 l3 l4 : List ℕ) → Numbered at a v l0 l1 → Numbered (at + 64) b v l1 l2 → Numbered (at + 128) c v l2 l3 → Numbered (at + 192) d v l3 l4
    → RowNumbers at v (word_bit (a ∷ b ∷ c ∷ d ∷ [])) l0 l4
four_numbers at v a b c d l0 l1 l2 l3 l4 A B C D = record {
  here = λ k h. elim (dec_lt k 64) [
    | yes p ↦ D.before (at + k) (omega arith) ∙ C.before (at + k) (omega arith) ∙ B.before (at + k) (omega arith) ∙ A.here k p
        ∙ ap (λ (t : Bool). cond t v (get_or l0 (at + k) 0)) (sym (let z : k ≡ 0 * 64 + k = omega arith in ap (word_bit (a ∷ b ∷ c ∷ d ∷ [])) z ∙ word_column a b c d 0 a k (refl, omega arith) p))
    | no p ↦ elim (dec_lt k 128) [
      | yes q ↦ D.before (at + k) (omega arith) ∙ C.before (at + k) (omega arith) ∙ word 1 b 64 k refl (omega arith) (omega arith) l1 l2 B
          ∙ old (A.behind (at + k) (omega arith)) (word_bit (a ∷ b ∷ c ∷ d ∷ []) k)
      | no q ↦ elim (dec_lt k 192) [
        | yes r ↦ D.before (at + k) (omega arith) ∙ word 2 c 128 k refl (omega arith) (omega arith) l2 l3 C
            ∙ old (B.behind (at + k) (omega arith) ∙ A.behind (at + k) (omega arith)) (word_bit (a ∷ b ∷ c ∷ d ∷ []) k)
        | no r ↦ word 3 d 192 k refl (omega arith) (omega arith) l3 l4 D
            ∙ old (C.behind (at + k) (omega arith) ∙ B.behind (at + k) (omega arith) ∙ A.behind (at + k) (omega arith)) (word_bit (a ∷ b ∷ c ∷ d ∷ []) k)
      ]
    ]
  ];
  before = λ p h. D.before p (omega arith) ∙ C.before p (omega arith) ∙ B.before p (omega arith) ∙ A.before p h;
  behind = λ p h. D.behind p (omega arith) ∙ C.behind p (omega arith) ∙ B.behind p (omega arith) ∙ A.behind p (omega arith);
}
  where
    old : {x y : ℕ} → x ≡ y → (t : Bool) → cond t v x ≡ cond t v y
    old e t = ap (cond t v) e

    word : (q x e k : ℕ) → x ≡ get_or (a ∷ b ∷ c ∷ d ∷ []) q 0 → (e ≡ q * 64) × (q < 4) → (e ≤ k) × (k < e + 64) → (was now : List ℕ) → Numbered (at + e) x v was now
        → get_or now (at + k) 0 ≡ cond (word_bit (a ∷ b ∷ c ∷ d ∷ []) k) v (get_or was (at + k) 0)
    word q x e k ex (ee, lq) (lo, hi) was now N =
        let z : at + e + (k - e) ≡ at + k = omega arith in
        let y : q * 64 + (k - e) ≡ k = omega arith in
        subst (λ (i : ℕ). get_or now i 0 ≡ cond (word_bit (a ∷ b ∷ c ∷ d ∷ []) k) v (get_or was i 0)) z
        (N.here (k - e) (omega arith) ∙ ap (λ (t : Bool). cond t v (get_or was (at + e + (k - e)) 0))
        (sym (ap (word_bit (a ∷ b ∷ c ∷ d ∷ [])) (sym y) ∙ word_column a b c d q x (k - e) (ex, lq) (omega arith))))

-- from row to row --------------------------------------------------------------------------------------------------------

-- nothing is between row y and the next one that is gone to
pub gap_none : (w h y y' j : ℕ) (ahead l : List ℕ) → Sizes w h → Room w h ahead l → y < h → y' ≡ get_or ahead (y + 1) 0 → (y + 33) * 320 + 256 ≤ j → j < (y' + 33) * 320 → word_bit l j ≡ false
gap_none w h y y' j ahead l z R ly e lo hi = elim (dec_lt j ((y + 34) * 320)) [
  | yes a ↦ split (word_bit l j)
      (λ u. let P = R.ready.framed j u in absurd (omega (arith, P.here, P.column_in, z.w_max)))
      (λ u. u)
  | no a ↦ R.sparse (y + 1) j (omega arith) (omega arith) (rw (← e) hi)
]

pub none_before : (w h j : ℕ) (ahead l : List ℕ) → Sizes w h → Room w h ahead l → j < (get_or ahead 0 0 + 33) * 320 → word_bit l j ≡ false
none_before w h j ahead l z R hi = elim (dec_lt j (33 * 320)) [
  | yes a ↦ split (word_bit l j) (λ u. let P = R.ready.framed j u in absurd (omega (arith, P.here))) (λ u. u)
  | no a ↦ R.sparse 0 j (omega arith) (omega arith) hi
]

pub none_behind : (w h j : ℕ) (l : List ℕ) → Sizes w h → Ready w h l → (h + 33) * 320 ≤ j → word_bit l j ≡ false
none_behind w h j l z R lo = split (word_bit l j) (λ u. let P = R.framed j u in absurd (omega (arith, P.here, P.column_in, P.row_in, z.w_max))) (λ u. u)

pub upto_row : (y y' : ℕ) (g g' : ℕ → Bool) (was mid now : List ℕ) → RowBits (y + 33) g' mid now → ((j : ℕ) → (y + 33) * 320 ≤ j → j < (y + 33) * 320 + 256 → g' j ≡ g j) → Upto y g was mid
    → ((j : ℕ) → (y + 33) * 320 + 256 ≤ j → j < (y' + 33) * 320 → g j ≡ word_bit was j) → y < y' → Upto y' g was now
upto_row y y' g g' was mid now W e U gap l = record {
  inner = λ j x. elim (dec_lt j ((y + 33) * 320)) [
    | yes a ↦ W.before j a ∙ U.inner j a
    | no a ↦ elim (dec_lt j ((y + 33) * 320 + 256)) [
      | yes b ↦ W.inner j (omega arith) b ∙ e j (omega arith) b
      | no b ↦ W.behind j (omega arith) ∙ U.outer j (omega arith) ∙ sym (gap j (omega arith) x)
    ]
  ];
  outer = λ j x. W.behind j (omega arith) ∙ U.outer j (omega arith);
}

-- what is new hangs on what is left at the place alone
pub fresh_same : (from left left' : List ℕ) (j : ℕ) → word_bit left j ≡ word_bit left' j → fresh from left j ≡ fresh from left' j
unfolding fresh
fresh_same from left left' j e = ap (λ (b : Bool). beside 1 (stacked from (j / 320)) (j % 320) && b) e

module _ (w h v : ℕ) (ahead from to left got ring : List ℕ) (z : Sizes w h) (Rt : Room w h ahead to) (Rl : Room w h ahead left) (Rg : Room w h ahead got) where
  quiet : (j : ℕ) → word_bit left j ≡ false → ((word_bit left j && not (fresh from left j)) ≡ false) × ((word_bit got j || fresh from left j) ≡ word_bit got j)
  quiet j e =
      (ap (λ (b : Bool). b && not (fresh from left j)) e, ap (λ (b : Bool). word_bit got j || b) (fresh_none from left j e) ∙ or_false (word_bit got j))

  pub wave_start : (y : ℕ) → y ≡ get_or ahead 0 0 → WaveTo w y v from to to left left got got ring ring
  wave_start y e = record {
    to_done = record { inner = λ j x. none_before w h j ahead to z Rt (rw (← e) x) ∙ sym (fresh_none from left j (off j x)); outer = λ j x. refl };
    left_done = record { inner = λ j x. off j x ∙ sym (quiet j (off j x)).0; outer = λ j x. refl };
    got_done = record { inner = λ j x. sym (quiet j (off j x)).1; outer = λ j x. refl };
    ring_done = λ p x. sym (ap (λ (b : Bool). cond b v (get_or ring p 0)) (fresh_none from left (spot (p / w) (p % w)) (off (spot (p / w) (p % w)) (in_rows p x))));
    ring_rest = λ p x. refl;
  }
    where
      off : (j : ℕ) → j < (y + 33) * 320 → word_bit left j ≡ false
      off j x = none_before w h j ahead left z Rl (rw (← e) x)

      in_rows : (p : ℕ) → p < y * w → spot (p / w) (p % w) < (y + 33) * 320
      in_rows p x = let a : p / w < y = (div-lt_iff_lt-mul z.w_min).1 x in omega (arith, mod-lt p z.w_min, z.w_max)

  pub wave_more : (y y' : ℕ) (new more : Bool) (to1 to2 left1 left2 got1 got2 ring1 ring2 : List ℕ) → y < h → y < y' → y' ≤ h → y' ≡ get_or ahead (y + 1) 0
      → RowWave w y v new more from to1 to2 left1 left2 got1 got2 ring1 ring2 → WaveTo w y v from to to1 left left1 got got1 ring ring1 → WaveTo w y' v from to to2 left left2 got got2 ring ring2
  wave_more y y' new more to1 to2 left1 left2 got1 got2 ring1 ring2 ly lt ly' e S T = record {
    to_done = upto_row y y' (fresh from left) (fresh from left1) to to1 to2 S.to_row (λ j x l. now j x) T.to_done
        (λ j x l. fresh_none from left j (off j x l) ∙ sym (gap_none w h y y' j ahead to z Rt ly e x l)) lt;
    left_done = upto_row y y' (λ j. word_bit left j && not (fresh from left j)) (λ j. word_bit left1 j && not (fresh from left1 j)) left left1 left2 S.left_row
        (λ j x l. ap₂ (λ (a b : Bool). a && not b) (T.left_done.outer j x) (now j x)) T.left_done (λ j x l. (quiet j (off j x l)).0 ∙ sym (off j x l)) lt;
    got_done = upto_row y y' (λ j. word_bit got j || fresh from left j) (λ j. word_bit got1 j || fresh from left1 j) got got1 got2 S.got_row
        (λ j x l. ap₂ ◌||◌ (T.got_done.outer j x) (now j x)) T.got_done (λ j x l. (quiet j (off j x l)).1) lt;
    ring_done = numbers;
    ring_rest = λ p x. after p (omega (arith, row_fits y y' w lt)) ∙ T.ring_rest p (omega (arith, row_fits y y' w lt));
  }
    where
      off : (j : ℕ) → (y + 33) * 320 + 256 ≤ j → j < (y' + 33) * 320 → word_bit left j ≡ false
      off j x l = gap_none w h y y' j ahead left z Rl ly e x l

      now : (j : ℕ) → (y + 33) * 320 ≤ j → fresh from left1 j ≡ fresh from left j
      now j x = fresh_same from left1 left j (T.left_done.outer j x)

      -- behind the row no ring is new: no pixel there is left
      after : (p : ℕ) → y * w + w ≤ p → get_or ring2 p 0 ≡ get_or ring1 p 0
      after p x = elim (dec_lt p (y * w + 256)) [
        | yes a ↦
            let c : ℕ = p - y * w in
            let ec : y * w + c ≡ p = omega arith in
            subst (λ (i : ℕ). get_or ring2 i 0 ≡ get_or ring1 i 0) ec
            (S.ring_row.here c (omega arith)
            ∙ ap (λ (b : Bool). cond b v (get_or ring1 (y * w + c) 0)) (now ((y + 33) * 320 + c) (omega arith) ∙ fresh_none from left ((y + 33) * 320 + c) (outside c (omega arith) (omega arith))))
        | no a ↦ S.ring_row.behind p (omega arith)
      ]
        where
          outside : (c : ℕ) → w ≤ c → c < 256 → word_bit left ((y + 33) * 320 + c) ≡ false
          outside c a b = split (word_bit left ((y + 33) * 320 + c)) (λ u. let P = Rl.ready.framed ((y + 33) * 320 + c) u in absurd (omega (arith, P.here, P.column_in, z.w_max))) (λ u. u)

      numbers : (p : ℕ) → p < y' * w → get_or ring2 p 0 ≡ cond (fresh from left (spot (p / w) (p % w))) v (get_or ring p 0)
      numbers p x = elim (dec_lt p (y * w)) [
        | yes a ↦ S.ring_row.before p a ∙ T.ring_done p a
        | no a ↦ elim (dec_lt p (y * w + w)) [
          | yes b ↦
              let c : ℕ = p - y * w in
              let ec : y * w + c ≡ p = omega arith in
              let lc : c < w = omega arith in
              subst (λ (i : ℕ). get_or ring2 i 0 ≡ cond (fresh from left (spot (i / w) (i % w))) v (get_or ring i 0)) ec
              (S.ring_row.here c (omega (arith, z.w_max)) ∙ ap₂ (λ (t : Bool) (n : ℕ). cond t v n)
              (now ((y + 33) * 320 + c) (omega arith) ∙ sym (ap₂ (λ (r d : ℕ). fresh from left (spot r d)) (digits_div y lc) (digits_mod y lc))) (T.ring_rest (y * w + c) (omega arith)))
          | no b ↦
              let lr : p / w < y' = (div-lt_iff_lt-mul z.w_min).1 x in
              let lm : p % w < w = mod-lt p z.w_min in
              let hr : y < p / w = above p (omega arith) in
              after p (omega arith) ∙ T.ring_rest p (omega arith)
              ∙ sym (ap (λ (t : Bool). cond t v (get_or ring p 0)) (fresh_none from left (spot (p / w) (p % w)) (off (spot (p / w) (p % w)) (omega (arith, z.w_max)) (omega (arith, z.w_max)))))
        ]
      ]
        where
          above : (p : ℕ) → y * w + w ≤ p → y < p / w
          above p l = elim (dec_le (p / w) y) [
            | yes q ↦ absurd (omega (arith, div-add-mod' p w, mod-lt p z.w_min, native.Mathlib.Nat.mul-le-mul_right w q))
            | no q ↦ omega arith
          ]

  pub wave_all : (y : ℕ) (to' left' got' ring' : List ℕ) → h ≤ y → y ≤ h → WaveTo w y v from to to' left left' got got' ring ring' → Waving w h v from to' left left' got got' ring ring'
  wave_all y to' left' got' ring' a b T =
      let e : y ≡ h = omega arith in
      record {
        to_is = λ j. elim (dec_lt j ((y + 33) * 320)) [
          | yes l ↦ T.to_done.inner j l
          | no l ↦ T.to_done.outer j (omega arith) ∙ none_behind w h j to z Rt.ready (omega arith) ∙ sym (fresh_none from left j (off j (omega arith)))
        ];
        left_is = λ j. elim (dec_lt j ((y + 33) * 320)) [
          | yes l ↦ T.left_done.inner j l
          | no l ↦ T.left_done.outer j (omega arith) ∙ off j (omega arith) ∙ sym (quiet j (off j (omega arith))).0
        ];
        got_is = λ j. elim (dec_lt j ((y + 33) * 320)) [
          | yes l ↦ T.got_done.inner j l
          | no l ↦ T.got_done.outer j (omega arith) ∙ sym (quiet j (off j (omega arith))).1
        ];
        ring_is = λ p x. T.ring_done p (rw e x);
      }
    where
      off : (j : ℕ) → (h + 33) * 320 ≤ j → word_bit left j ≡ false
      off j l = none_behind w h j left z Rl.ready l

pub plane_row : (y w : ℕ) → y < 256 → w ≤ 256 → y * w ≤ 65536
plane_row y w a b = let l : y ≤ 256 = omega arith in let m : y * w ≤ 256 * 256 = native.Mathlib.Nat.mul-le-mul l b in omega arith

-- a pixel that is left has its place among the rings
pub row_room : (w h y c : ℕ) (l : List ℕ) → Sizes w h → Framed w h l → y < h → c < 256 → word_bit l ((y + 33) * 320 + c) ≡ true → y * w + c < h * w
row_room w h y c l z fr ly lc u = digits_lt ly (framed_row w h z l (y + 33) c fr (omega arith) u).2

-- rows of one plane put into another
module _ (w h : ℕ) (ahead p to : List ℕ) (z : Sizes w h) (Rp : Room w h ahead p) (Rt : Room w h ahead to) where
  pub copy_start : Upto (get_or ahead 0 0) (word_bit p) to to
  copy_start = record { inner = λ j x. none_before w h j ahead to z Rt x ∙ sym (none_before w h j ahead p z Rp x); outer = λ j x. refl }

  pub copy_more : (y y' : ℕ) (x : ℕ → Bool) (mid now : List ℕ) → y < h → y < y' → y' ≡ get_or ahead (y + 1) 0 → ((c : ℕ) → x c ≡ row_bit p (y + 33) c) → RowPut (y + 33) x mid now
      → Upto y (word_bit p) to mid → Upto y' (word_bit p) to now
  copy_more y y' x mid now ly lt e X P U =
      upto_row y y' (word_bit p) (word_bit p) to mid now (put_bits (y + 33) x (word_bit p) mid now (λ c l. X c ∙ row_bit_lem p (y + 33) c l) P) (λ j a b. refl) U
      (λ j a b. gap_none w h y y' j ahead p z Rp ly e a b ∙ sym (gap_none w h y y' j ahead to z Rt ly e a b)) lt

  pub copy_all : (y : ℕ) (now : List ℕ) → h ≤ y → Upto y (word_bit p) to now → (j : ℕ) → word_bit now j ≡ word_bit p j
  copy_all y now l U j = elim (dec_lt j ((y + 33) * 320)) [
    | yes a ↦ U.inner j a
    | no a ↦ U.outer j (omega arith) ∙ none_behind w h j to z Rt.ready (omega arith) ∙ sym (none_behind w h j p z Rp.ready (omega arith))
  ]
