-- Laws of near by rows: one row of the disc further, and what it comes to at the last one.
use Rattle.std.specs.Prelude.{◌≡◌, Bool, ◌||◌, List, get_or}
use Rattle.std.proofs.Math.Path.{sym, ap, ap₂, subst}
use Rattle.std.proofs.Common.{◌∙◌, mul-le-mul}
use Rattle.std.proofs.Math.Bool.{true}
use Rattle.std.proofs.Math.Logic.{⊎_elim}
use Prim.Native.Nat.{ℕ, suc, ◌+◌, ◌-◌, ◌*◌, ◌<◌, ◌≤◌}
use native.Mathlib.Omega.{arith}
use Rattle.std.proofs.Math.Decide.{dec_lt, dec_le}
use Rattle.rules.specs.Planning.{near}
use Rattle.rules.specs.Reach.{apart, half_width, root, square, most_bound}
use Rattle.laws.specs.Discs.{Halves, half_width_lem, half_small, root_is, root_low, root_most}
use Rattle.laws.specs.Neighbours.{near_is}
use Rattle.laws.specs.Tests.{bool_eq, or_l, or_r, or_out}
use Rattle.words.specs.Words.{word_bit, Widened}
use Rattle.planes.specs.Scratch.{Sizes, Framed, seen, row_bit}
use Rattle.planes.specs.Nearness.{Reaching, NearTo}
use Rattle.planes.specs.PlaneLaws.{seen_at, row_bit_lem}
use Rattle.planes.specs.TouchLaws.{row_out}

-- in its middle row a disc runs as far as it does up and down
pub half_root : (q : ℕ) (half : List ℕ) → Halves q half → get_or half 0 0 ≡ root q
unfolding square
half_root q half H =
    let x : ℕ = get_or half 0 0 in
    let m = H.half 0 (omega arith) in
    root_is q x (omega (arith, m.inside x (omega arith))) (omega (arith, m.outside (suc x) (omega arith)))

-- a column n away from c and a away from x, where the two are at most a + n apart
between : (c x a n : ℕ) → c < 256 → x < 256 → apart c x ≤ a + n → (y : ℕ) × (y < 256) × (c ≤ y + n) × (y ≤ c + n) × (apart y x ≤ a)
unfolding apart
between c x a n lc lx h = elim (dec_le x c) [
  | yes u ↦ elim (dec_le c (x + n)) [ yes v ↦ (x, lx, v, omega arith, omega arith) | no v ↦ (c - n, omega arith, omega arith, omega arith, omega arith) ]
  | no u ↦ elim (dec_le x (c + n)) [ yes v ↦ (x, lx, omega arith, v, omega arith) | no v ↦ (c + n, omega arith, omega arith, omega arith, omega arith) ]
]

-- rows further away are narrower
half_mono : (q d e : ℕ) → d * d ≤ q → e ≤ d → half_width q d ≤ half_width q e
half_mono q d e ld le =
    let lq : e * e ≤ q = omega (arith, mul-le-mul le le) in
    elim (dec_le (half_width q d) (half_width q e)) [
      | yes u ↦ u
      | no u ↦ absurd (omega (arith, (half_width_lem q e lq).outside (half_width q d) (omega arith), (half_width_lem q d ld).inside (half_width q d) (omega arith), mul-le-mul le le))
    ]

pub half_less : (q d : ℕ) → 0 < d → d * d ≤ q → half_width q d ≤ half_width q (d - 1)
half_less q d p l = half_mono q d (d - 1) l (omega arith)

pub half_max : (q d : ℕ) → q ≤ most_bound → half_width q d ≤ 32
half_max = half_small

-- the table of half-widths has them
pub half_is : (q d : ℕ) (l : List ℕ) → Halves q l → d * d ≤ q → get_or l d 0 ≡ half_width q d
half_is q d l H h =
    let A = H.half d h in
    let B = half_width_lem q d h in
    elim (dec_le (get_or l d 0) (half_width q d)) [
      | yes a ↦ elim (dec_le (half_width q d) (get_or l d 0)) [
        | yes b ↦ omega arith
        | no b ↦ absurd (omega (arith, A.outside (half_width q d) (omega arith), B.inside (half_width q d) (omega arith)))
      ]
      | no a ↦ absurd (omega (arith, B.outside (get_or l d 0) (omega arith), A.inside (get_or l d 0) (omega arith)))
    ]

pub before_in : (q d : ℕ) → d * d ≤ q → (d - 1) * (d - 1) ≤ q
before_in q d l = let le : d - 1 ≤ d = omega arith in omega (arith, mul-le-mul le le)

-- the row itself
pub near_own : (q k : ℕ) (low : List ℕ) (f : ℕ → Bool) → ((c : ℕ) → f c ≡ row_bit low k c) → NearTo q k 0 (half_width q 0) low f
unfolding apart
near_own q k low f e = record {
  there = λ c lc R.
      let er : R.row ≡ k = omega (arith, R.down, R.up) in
      let z : apart k R.row ≡ 0 = omega arith in
      let v : apart c R.column + half_width q 0 ≤ half_width q 0 = subst (λ (x : ℕ). apart c R.column + half_width q 0 ≤ half_width q x) z R.within in
      let ec : c ≡ R.column = omega arith in
      e c ∙ row_bit_lem low k c lc ∙ ap₂ (λ (a b : ℕ). word_bit low (a * 320 + b)) (sym er) ec ∙ R.on;
  back = λ c u.
      let (l, v) = row_out low k c (sym (e c) ∙ u) in
      let z : apart k k ≡ 0 = omega arith in
      let s : apart c c ≡ 0 = omega arith in
      (l, record { row = k; column = c; in_row = l; on = v; down = omega arith; up = omega arith; within = rw (z, s) (omega arith) });
}

-- one row further
module _ (q k d : ℕ) (low : List ℕ) (f g u v b t : ℕ → Bool) (pd : 0 < d) (dk : d ≤ k) (lq : d * d ≤ q) (N : NearTo q k (d - 1) (half_width q (d - 1)) low f)
    (W : Widened (half_width q (d - 1) - half_width q d) f g) (W-end : (c : ℕ) → g c ≡ true → c < 256) (U : (c : ℕ) → u c ≡ row_bit low (k - d) c) (Vv : (c : ℕ) → v c ≡ row_bit low (k + d) c)
    (B : (c : ℕ) → b c ≡ (u c || v c)) (T : (c : ℕ) → t c ≡ (g c || b c)) where
  nm : half_width q d ≤ half_width q (d - 1)
  nm = half_less q d pd lq

  -- a pixel of the rows that come now reaches its own column
  own : (c s : ℕ) (R : Reaching q k d (half_width q d) low c) → R.row ≡ s → apart k s ≡ d → c < 256 → row_bit low s c ≡ true
  unfolding apart
  own c s R er ea lc =
      let w : apart c R.column + half_width q d ≤ half_width q d = subst (λ (x : ℕ). apart c R.column + half_width q d ≤ half_width q x) (ap (apart k) er ∙ ea) R.within in
      let ec : c ≡ R.column = omega arith in
      row_bit_lem low s c lc ∙ ap₂ (λ (x y : ℕ). word_bit low (x * 320 + y)) (sym er) ec ∙ R.on

  near_there : (c : ℕ) → c < 256 → Reaching q k d (half_width q d) low c → t c ≡ true
  unfolding apart
  near_there c lc R = T c ∙ elim (dec_lt (R.row + (d - 1)) k) [
    | yes x ↦ or_r (g c) _ (B c ∙ or_l (u c) _ (U c ∙ own c (k - d) R (omega (arith, R.up)) (omega arith) lc))
    | no x ↦ elim (dec_lt (k + (d - 1)) R.row) [
      | yes y ↦ or_r (g c) _ (B c ∙ or_r (u c) _ (Vv c ∙ own c (k + d) R (omega (arith, R.down)) (omega arith) lc))
      | no y ↦
          let e : ℕ = apart k R.row in
          let le : half_width q (d - 1) ≤ half_width q (apart k R.row) = half_mono q (d - 1) (apart k R.row) (before_in q d lq) (omega arith) in
          let (y', ly, a, b', x') = between c R.column (half_width q (apart k R.row) - half_width q (d - 1)) (half_width q (d - 1) - half_width q d) lc R.in_row
          (omega (arith, R.within, nm)) in
          or_l (g c) _ (W.there c y' lc
          (N.there y' ly (record { row = R.row; column = R.column; in_row = R.in_row; on = R.on; down = omega arith; up = omega arith; within = omega arith })) a b')
    ]
  ]

  near_back : (c : ℕ) → t c ≡ true → (c < 256) × Reaching q k d (half_width q d) low c
  unfolding apart
  near_back c e = ⊎_elim from_wide (λ x. ⊎_elim (λ y. from_row (k - d) (omega arith) (row_out low (k - d) c (sym (U c) ∙ y)))
      (λ y. from_row (k + d) (omega arith) (row_out low (k + d) c (sym (Vv c) ∙ y))) (or_out (u c) (v c) (sym (B c) ∙ x)))
      (or_out (g c) (b c) (sym (T c) ∙ e))
    where
      from_wide : g c ≡ true → (c < 256) × Reaching q k d (half_width q d) low c
      from_wide x =
          let (y, o, a, b') = W.back c x in
          let (ly, R) = N.back y o in
          (W-end c x, record { row = R.row; column = R.column; in_row = R.in_row; on = R.on; down = omega (arith, R.down); up = omega (arith, R.up); within = omega (arith, R.within, nm) })

      from_row : (s : ℕ) → (s ≤ k + d) × (k ≤ s + d) × (apart k s ≡ d) → (c < 256) × (word_bit low (s * 320 + c) ≡ true) → (c < 256) × Reaching q k d (half_width q d) low c
      from_row s (x, y, z) (l, o) =
          let ca : apart c c ≡ 0 = omega arith in
          (l, record { row = s; column = c; in_row = l; on = o; down = x; up = y; within = rw (z, ca) (omega arith) })

  pub near_more : NearTo q k d (half_width q d) low t
  near_more = record { there = near_there; back = near_back }

pub reach_in : (q e : ℕ) → e ≤ root q → e * e ≤ q
unfolding square
reach_in q e l = omega (arith, mul-le-mul l l, root_low q)

-- the whole disc, in the columns of the image
module _ (w h q y : ℕ) (low : List ℕ) (f g : ℕ → Bool) (z : Sizes w h) (fr : Framed w h low) (ly : y < h)
    (N : NearTo q (y + 33) (root q) (half_width q (root q)) low f) (W : Widened (half_width q (root q)) f g) where
  near_forth : (c : ℕ) → c < w → g c ≡ true → near w h q (seen w low) (y * w + c) ≡ true
  unfolding apart square
  near_forth c lc e =
      let (x, o, a, b) = W.back c e in
      let R = (N.back x o).1 in
      let P = fr (R.row * 320 + R.column) R.on in
      let es : P.row + 33 ≡ R.row = omega (arith, P.here, P.column_in, z.w_max, R.in_row) in
      let ed : P.column ≡ R.column = omega (arith, P.here, P.column_in, z.w_max, R.in_row) in
      let ea : apart (y + 33) R.row ≡ apart y P.row = omega arith in
      let le : apart y P.row ≤ root q = omega (arith, R.down, R.up) in
      let H = half_width_lem q (apart y P.row) (reach_in q (apart y P.row) le) in
      let d : apart c P.column ≤ half_width q (apart y P.row) = subst (λ (n : ℕ). apart c P.column ≤ half_width q n) ea (omega (arith, R.within)) in
      (near_is w h q (seen w low) y c lc).1
      (P.row, P.column, P.row_in, P.column_in, seen_at w h z low P.row P.column P.column_in ∙ ap (word_bit low) (sym P.here) ∙ R.on, H.inside (apart c P.column) d)

  near_there' : (c : ℕ) → c < w → near w h q (seen w low) (y * w + c) ≡ true → g c ≡ true
  unfolding apart square
  near_there' c lc e = let (s, d, ls, ld, o, x) = (near_is w h q (seen w low) y c lc).0 e in at s d ls ld o x
    where
      at : (s d : ℕ) → s < h → d < w → seen w low (s * w + d) ≡ true → (y - s + (s - y)) * (y - s + (s - y)) + (c - d + (d - c)) * (c - d + (d - c)) ≤ q → g c ≡ true
      at s d ls ld o x =
          let e : ℕ = y - s + (s - y) in
          let le : e ≤ root q = root_most q e (omega arith) in
          let H = half_width_lem q e (omega arith) in
          let lh : c - d + (d - c) ≤ half_width q e = elim (dec_le (c - d + (d - c)) (half_width q e)) [ yes u ↦ u | no u ↦ absurd (omega (arith, H.outside (c - d + (d - c)) (omega arith))) ] in
          let lr : half_width q (root q) ≤ half_width q e = half_mono q (root q) e (omega (arith, root_low q)) le in
          let (x', lx, a, b, v) = between c d (half_width q e - half_width q (root q)) (half_width q (root q)) (omega (arith, z.w_max)) (omega (arith, z.w_max)) (omega arith) in
          let ea : apart (y + 33) (s + 33) ≡ e = omega arith in
          W.there c x' (omega (arith, z.w_max))
          (N.there x' lx (record {
            row = s + 33;
            column = d;
            in_row = omega (arith, z.w_max);
            on = sym (seen_at w h z low s d ld) ∙ o;
            down = omega arith;
            up = omega arith;
            within = rw ea (omega arith);
          })) a b

  pub near_all_lem : (c : ℕ) → c < w → g c ≡ near w h q (seen w low) (y * w + c)
  near_all_lem c lc = bool_eq _ _ (near_forth c lc) (near_there' c lc)
