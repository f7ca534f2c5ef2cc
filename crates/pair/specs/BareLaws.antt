-- Laws of rings set back to 0, row by row.
use Rattle.std.specs.Prelude.{◌≡◌, Bool, true, false, List, ℕ, ◌+◌, ◌-◌, ◌*◌, ◌/◌, ◌%◌, ◌<◌, ◌≤◌, ltb, length, get_or, set}
use Rattle.std.proofs.Common.{sym, subst, ◌∙◌, div-lt_iff_lt-mul, le-div_iff_mul-le, mul-le-mul_right, arith, ltb-false, get_or-set_same, get_or-set_other}
use Rattle.std.proofs.Math.Decide.{dec_lt, ℕ_discrete}
use Rattle.laws.specs.Tests.{split}
use Rattle.words.specs.Words.{word_bit}
use Rattle.planes.specs.PlaneLaws.{pixel_row, row_fits, row_next, seen_is, seen_at, row_bit_lem, framed_row}
use Rattle.planes.specs.TouchLaws.{row_out}
use Rattle.planes.specs.Scratch.{Sizes, seen, spot, row_bit}
use Rattle.waves.specs.RowLaws.{gap_none, none_before}
use Rattle.waves.specs.Rows.{Room, RowNumbers}

-- the places of the columns of f are 0, with place `at` for column 0, and what was 0 still is
pub record Bared (at : ℕ) (f : ℕ → Bool) (was now : List ℕ) : Type 0 where
  pub here : (c : ℕ) → c < 256 → f c ≡ true → get_or now (at + c) 0 ≡ 0
  pub kept : (p : ℕ) → get_or was p 0 ≡ 0 → get_or now p 0 ≡ 0

pub bared_few : (at : ℕ) (f : ℕ → Bool) (was now : List ℕ) → RowNumbers at 0 f was now → Bared at f was now
bared_few at f was now N = record {
  here = λ c l e. N.here c l ∙ rw e;
  kept = λ p z. elim (dec_lt p at) [
    | yes a ↦ N.before p a ∙ z
    | no a ↦ elim (dec_lt p (at + 256)) [
      | yes b ↦
          let x : at + (p - at) ≡ p = omega arith in
          subst (λ (i : ℕ). get_or now i 0 ≡ 0) x (N.here (p - at) (omega arith) ∙ rw (x, z) (split (f (p - at)) (λ t. rw t) (λ t. rw t)))
      | no b ↦ N.behind p (omega arith) ∙ z
    ]
  ];
}

-- a place more
pub stretch_more : (at i : ℕ) (was now : List ℕ) → at + i < length now → ((p : ℕ) → get_or was p 0 ≡ 0 → get_or now p 0 ≡ 0) × ((p : ℕ) → at ≤ p → p < at + i → get_or now p 0 ≡ 0)
    → ((p : ℕ) → get_or was p 0 ≡ 0 → get_or (set now (at + i) 0) p 0 ≡ 0) × ((p : ℕ) → at ≤ p → p < at + (i + 1) → get_or (set now (at + i) 0) p 0 ≡ 0)
stretch_more at i was now l (a, b) = (
  (λ p z. one p (a p z)),
  (λ p lo hi. elim (dec_lt p (at + i)) [
    | yes u ↦ one p (b p lo u)
    | no u ↦ let x : p ≡ at + i = omega arith in subst (λ (k : ℕ). get_or (set now (at + i) 0) k 0 ≡ 0) (sym x) (get_or-set_same now (at + i) 0 0 l)
  ]),
)
  where
    one : (p : ℕ) → get_or now p 0 ≡ 0 → get_or (set now (at + i) 0) p 0 ≡ 0
    one p z = elim (ℕ_discrete p (at + i)) [
      | yes x ↦ subst (λ (k : ℕ). get_or (set now (at + i) 0) k 0 ≡ 0) (sym x) (get_or-set_same now (at + i) 0 0 l)
      | no x ↦ get_or-set_other now (at + i) p 0 0 x ∙ z
    ]

-- the rows before y are 0, and so is what got has no pixel of
pub record BareTo (w h y : ℕ) (got ring : List ℕ) : Type 0 where
  pub done : (p : ℕ) → p < y * w → get_or ring p 0 ≡ 0
  pub rest : (p : ℕ) → p < h * w → seen w got p ≡ false → get_or ring p 0 ≡ 0

module _ (w h : ℕ) (z : Sizes w h) (ahead got : List ℕ) (R : Room w h ahead got) where
  -- the columns of a row of got are those of the image
  pub row_inside : (y : ℕ) (x : ℕ → Bool) → ((c : ℕ) → x c ≡ row_bit got (y + 33) c) → (c : ℕ) → x c ≡ true → c < w
  row_inside y x X c e = let (l, u) = row_out got (y + 33) c (sym (X c) ∙ e) in (framed_row w h z got (y + 33) c R.ready.framed (omega arith) u).2

  -- rows that are passed over have nothing
  skipped : (y y' : ℕ) (ring : List ℕ) → y' ≤ h → ((j : ℕ) → (y + 33) * 320 ≤ j → j < (y' + 33) * 320 → word_bit got j ≡ false) → BareTo w h y got ring → BareTo w h y' got ring
  skipped y y' ring l e B = record {
    done = λ p lp. elim (dec_lt p (y * w)) [
      | yes a ↦ B.done p a
      | no a ↦
          let m : y' * w ≤ h * w = mul-le-mul_right w l in
          let (lr, lc) = pixel_row w h z p (omega arith) in
          let lo : y ≤ p / w = (le-div_iff_mul-le z.w_min).1 (omega arith) in
          let hi : p / w < y' = (div-lt_iff_lt-mul z.w_min).1 lp in
          B.rest p (omega arith) (seen_is w h z got p ∙ e (spot (p / w) (p % w)) (omega arith) (omega (arith, z.w_max)))
    ];
    rest = B.rest;
  }

  pub bare_start : (ring : List ℕ) → get_or ahead 0 0 ≤ h → ((p : ℕ) → p < h * w → seen w got p ≡ ltb 0 (get_or ring p 0)) → BareTo w h (get_or ahead 0 0) got ring
  bare_start ring l e = skipped 0 (get_or ahead 0 0) ring l (λ j lo hi. none_before w h j ahead got z R hi)
      (record { done = λ p lp. absurd (omega arith); rest = λ p lp s. omega (arith, ltb-false 0 (get_or ring p 0) (sym (e p lp) ∙ s)) })

  -- a row more, and those that are passed over behind it
  pub bare_row : (y y' : ℕ) (x : ℕ → Bool) (ring ring' : List ℕ) → y < h → y < y' → y' ≤ h → y' ≡ get_or ahead (y + 1) 0 → ((c : ℕ) → x c ≡ row_bit got (y + 33) c) → Bared (y * w) x ring ring' → BareTo w h y got ring → BareTo w h y' got ring'
  bare_row y y' x ring ring' ly lt l e X D B = skipped (y + 1) y' ring' l (λ j lo hi. gap_none w h y y' j ahead got z R ly e (omega arith) hi) (record {
    done = λ p lp. elim (dec_lt p (y * w)) [
      | yes a ↦ D.kept p (B.done p a)
      | no a ↦
          let ep : y * w + (p - y * w) ≡ p = omega arith in
          let lc : p - y * w < w = omega (arith, row_next y w) in
          let m : p < h * w = omega (arith, row_fits y h w ly, row_next y w) in
          split (x (p - y * w))
          (λ t. subst (λ (i : ℕ). get_or ring' i 0 ≡ 0) ep (D.here (p - y * w) (omega (arith, z.w_max)) t))
          (λ t. D.kept p (B.rest p m (subst (λ (i : ℕ). seen w got i ≡ false) ep
          (seen_at w h z got y (p - y * w) lc ∙ sym (row_bit_lem got (y + 33) (p - y * w) (omega (arith, z.w_max))) ∙ sym (X (p - y * w)) ∙ t))))
    ];
    rest = λ p lp s. D.kept p (B.rest p lp s);
  })
