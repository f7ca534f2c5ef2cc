-- Counting the pixels of a layer from the first on: where they stand, and what a turn of the loop adds.
use Rattle.std.specs.Prelude.{◌≡◌, Bool, List, ℕ, ◌+◌, ◌*◌, ◌/◌, ◌%◌, ◌≤◌, ◌<◌, length}
use Rattle.std.proofs.Common.{ap, ◌∙◌, mul-le-mul, add-one}
use native.Mathlib.Omega.{arith}
use Rattle.std.proofs.Math.Arith.{digits_lt}
use Rattle.rules.specs.Tools.{bit, count}
use Rattle.rules.specs.Images.{row_bytes}
use Rattle.laws.specs.Tests.{count_le}
use Rattle.laws.specs.Places.{digits_in}

-- layer i stands in the bytes s
pub record Layer (w h i : ℕ) (s : List ℕ) : Type 0 where
  pub w_low : 1 ≤ w
  pub w_high : w ≤ 256
  pub h_high : h ≤ 256
  pub i_high : i < 512
  pub holds : (i + 1) * h * row_bytes w ≤ length s

module _ {w h i : ℕ} {s : List ℕ} (l : Layer w h i s) where
  pub area : h * w ≤ 65536
  area = mul-le-mul l.h_high l.w_high

  -- the byte of pixel p
  pub row_high : (p : ℕ) → p < h * w → (p / w < h) × (p % w < w) × (i * h + p / w < 131072)
  row_high p lp =
      let (a, b) = digits_in p h w lp in
      let m : i * h ≤ 511 * 256 = mul-le-mul {n₁ = i} {m₁ = h} {n₂ = 511} {m₂ = 256} (omega (arith, l.i_high)) l.h_high in
      let k = l.h_high in
      (a, b, omega arith)

  pub byte_in : (p rb : ℕ) → rb ≡ row_bytes w → p < h * w → (i * h + p / w) * rb + p % w / 8 < length s
  unfolding row_bytes
  byte_in p rb e lp =
      let (a, b, c) = row_high p lp in
      let q : i * h + p / w < (i + 1) * h = next_row i h (p / w) a in
      let j : p % w / 8 < row_bytes w = omega arith in
      let d : (i * h + p / w) * row_bytes w + p % w / 8 < (i + 1) * h * row_bytes w = digits_lt q j in
      rw e (omega (arith, l.holds))
    where
      next_row : (i h r : ℕ) → r < h → i * h + r < (i + 1) * h
      next_row i h r lr = let e : (i + 1) * h ≡ i * h + h = omega arith in omega arith

-- what a turn adds
pub count_next : (f : ℕ → Bool) (p n b : ℕ) → n ≡ count p f → b ≡ bit (f p) → n + b ≡ count (p + 1) f
unfolding count
count_next f p n b e g = rw add-one (omega (arith, e, g))

pub count_end : (f : ℕ → Bool) (p m n : ℕ) → p ≤ m → m ≤ p → n ≡ count p f → m ≤ 65536 → (n ≡ count m f) × (n ≤ 65536)
count_end f p m n a b e h =
    let z : p ≡ m = omega arith in
    let y : n ≡ count m f = e ∙ ap (λ (k : ℕ). count k f) z in
    (y, omega (arith, count_le m f))

-- the rings of pair i
module _ (w h i : ℕ) (hw : w ≤ 256) (hh : h ≤ 256) where
  pub ring_area : h * w ≤ 65536
  ring_area = mul-le-mul hh hw

  pub ring_start : i < 512 → i * (h * w) ≤ 33554432
  ring_start hi = mul-le-mul {n₁ = i} {m₁ = h * w} {n₂ = 512} {m₂ = 65536} (omega arith) ring_area

  pub ring_in : (n p : ℕ) → (i + 1) * (h * w) ≤ n → p < h * w → i * (h * w) + p < n
  ring_in n p hn lp = let e : (i + 1) * (h * w) ≡ i * (h * w) + h * w = omega arith in omega arith
