-- Laws of the pairs of a stack.
use Rattle.std.specs.Prelude.{◌≡◌, refl, true, false, ◌&&◌, List, ℕ, ◌+◌, ◌-◌, ◌*◌, ◌<◌, ◌≤◌, ltb, length, get_or}
use Rattle.std.proofs.Common.{sym, ap, subst, ◌∙◌, mul_assoc, arith, ltb-true, ltb-false}
use Rattle.rules.specs.Images.{row_bytes, padding_set}
use Rattle.laws.specs.Tests.{split, and_l, and_r}
use Rattle.image.specs.Rows.{packed, Clean}
use Rattle.image.specs.Packed.{plane_clean}
use Rattle.places.specs.Search.{bad_here, unheld_here}
use Rattle.places.specs.Planes.{cut, bad_plane, unheld_plane}
use Rattle.places.specs.Rows.{pair_in, rings_length, area_fit, stack_fit, bytes_fit}
use Rattle.quick.specs.Sureness.{Whole, Fine}
use Rattle.quick.specs.declared.Sure.{Sure}

-- a plane cut out of a stack without padding bits
cut_clean : (w h n i a k : ℕ) (s : List ℕ) → a ≡ i * k → k ≡ h * row_bytes w → i < n → length s ≡ n * h * row_bytes w → padding_set w (n * h) s ≡ false → Clean w h (cut a (a + k) s)
cut_clean w h n i a k s ea ek l long clear =
    let z : a + k - a ≡ k = omega arith in
    rw (z, ea, ek) (plane_clean w h n s long clear i l)

-- pair i, whose planes have their bytes from `at` on and whose rings start at x
module _ {w h n rb at x : ℕ} {part sup rings : List ℕ} (i : ℕ) (W : Whole w h n part sup rings) (B : (rb ≡ row_bytes w) × (rb ≤ 32)) (ea : at ≡ i * (h * rb)) (ex : x ≡ i * (h * w))
    (l : i + 1 < n) where
  pub bytes_is : h * rb ≡ h * row_bytes w
  bytes_is = ap (λ (b : ℕ). h * b) B.0

  li : i < n - 1
  li = omega arith

  pub pair_bytes : (at + h * rb + h * rb ≤ length part) × (at + h * rb + h * rb ≤ length sup)
  pair_bytes =
      let m = (pair_in w h n i at (h * rb) x bytes_is ea ex li).0 in
      (omega (arith, W.part_long), omega (arith, W.sup_long))

  pub pair_rings_lem : x + h * w ≤ length rings
  pair_rings_lem = omega (arith, W.rings_long, (pair_in w h n i at (h * rb) x bytes_is ea ex li).1)

  pub pair_fits : (at + h * rb + h * rb ≤ 4194304) × (x + h * w ≤ 33554432)
  pair_fits =
      let p = pair_in w h n i at (h * rb) x bytes_is ea ex li in
      let a : (n - 1) * (h * w) ≤ 512 * 65536 = stack_fit (n - 1) (h * w) 65536 (omega (arith, W.n_high)) (area_fit w h W.sized) in
      let b : n * (h * rb) ≤ 512 * 8192 = stack_fit n (h * rb) 8192 W.n_high (bytes_fit w h rb W.sized B.1) in
      let c : n * (h * rb) ≡ n * h * row_bytes w = ap (λ (k : ℕ). n * k) bytes_is ∙ sym (mul_assoc n h (row_bytes w)) in
      (omega (arith, p.0), omega (arith, p.1))

  pub pair_clean : Clean w h (cut at (at + h * rb) part)
  pair_clean = cut_clean w h n i at (h * rb) part ea bytes_is (omega arith) W.part_long W.clear

  pub pair_count : length (cut x (x + h * w) rings) ≡ h * w
  pair_count = rings_length w h n i at (h * rb) x bytes_is ea ex li rings W.rings_long

  -- the planes of the pair, and its rings
  abbrev low : List ℕ
  low = cut at (at + h * rb) part

  abbrev up : List ℕ
  up = cut (at + h * rb) (at + h * rb + h * rb) part

  abbrev below : List ℕ
  below = cut at (at + h * rb) sup

  abbrev above : List ℕ
  above = cut (at + h * rb) (at + h * rb + h * rb) sup

  abbrev ring : ℕ → ℕ
  ring o = get_or (cut x (x + h * w) rings) o 0

  pub fine_more : (q : ℕ) (s : Sure) → (s.rings ≡ true → (p : ℕ) → p < h * w → bad_here w h q (packed w low) (packed w up) ring p ≡ false)
      → (s.held ≡ true → (p : ℕ) → p < h * w → unheld_here (packed w low) (packed w up) (packed w below) (packed w above) ring p ≡ false)
      → (s.rings && s.held) ≡ true → ((y : ℕ) → y < x → Fine w h q part sup rings y) → (y : ℕ) → y < x + h * w → Fine w h q part sup rings y
  fine_more q s good held b old y ly = split (ltb y x) (λ t. old y (ltb-true y x t)) (λ t.
      let p : ℕ = y - x in
      let e : x + p ≡ y = omega (arith, ltb-false y x t) in
      let lp : p < h * w = omega (arith, ltb-false y x t) in
      subst (λ (z : ℕ). Fine w h q part sup rings z) e (
        bad_plane w h i (h * rb) (h * w) at x (at + h * rb) (at + h * rb + h * rb) (x + h * w) bytes_is refl ea ex refl refl refl (λ (j : ℕ). q) q part rings refl p lp
            ∙ good (and_l s.rings s.held b) p lp,
        unheld_plane w h i (h * rb) (h * w) at x (at + h * rb) (at + h * rb + h * rb) (x + h * w) bytes_is refl ea ex refl refl refl part sup rings p lp ∙ held (and_r s.rings s.held b) p lp,
      ))
