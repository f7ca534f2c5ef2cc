-- Laws of the packed form: the planes of a stack, their bytes and their pixels.
use Rattle.std.specs.Prelude.{◌≡◌, not, ◌&&◌, ltb, drop}
use Rattle.std.proofs.Math.Path.{refl, sym, ap}
use Rattle.std.proofs.Common.{◌∙◌, length-take, length-drop, get_or-take, get_or-drop}
use Rattle.std.proofs.Math.Bool.{Bool, false}
use mathlib.Core.List.{List}
use Prim.Native.Nat.{ℕ, zero, suc, ◌+◌, ◌-◌, ◌*◌, ◌/◌, ◌%◌, ◌^◌, ◌<◌, ◌≤◌}
use native.Mathlib.Nat.{zero-add, one-mul, mul_assoc, mod-lt, mod-eq_of_lt, div-one, div-add-mod', div-eq_of_lt, pow-suc, div-div-eq-div-mul, mul-le-mul_right}
use native.Mathlib.Omega.{arith}
use borrow.Author.Tests.{eqb-true, eqb-false, ltb-true, ltb-false}
use Rattle.std.proofs.Math.Arith.{digits_lt, digits_div, digits_mod}
use Rattle.std.proofs.Math.Dec.{eqb}
use Rattle.std.proofs.Math.ListN.{length, get_or}
use Rattle.std.proofs.Math.Seq.{ext_get_or}
use Rattle.rules.specs.Images.{Plane, Stack, row_bytes, bit_at, pixel, padded, padding_set, byte_of, bytes_of}
use Rattle.rules.specs.Tools.{bit, each}
use Rattle.laws.specs.Places.{digits_in}
use Rattle.laws.specs.Tests.{split, clash, not_in, some_in, get_d_each, length_each}
use Rattle.laws.specs.BytePixels.{low_zero}
use Rattle.image.specs.Rows.{packed, plane_bytes, Clean, plane}
use Rattle.image.specs.Scratch.{bit_of}

-- the number of a bit
bit_number : (y : ℕ) → y < 2 → bit (eqb y 1) ≡ y
unfolding bit
bit_number zero l = refl
bit_number (suc zero) l = refl
bit_number (suc (suc y)) l = absurd (omega arith)

-- bit c of a row that starts at byte x
pub row_bit_lem : (s : List ℕ) (x c : ℕ) → bit_of s (x * 8 + c) ≡ bit_at (get_or s (x + c / 8) 0) (c % 8)
unfolding bit_of
row_bit_lem s x c =
    let a : (x * 8 + c) / 8 ≡ x + c / 8 = omega arith in
    let b : (x * 8 + c) % 8 ≡ c % 8 = omega arith in
    rw (a, b)

-- an element of a stretch
pub plane_at : (size i : ℕ) (l : List ℕ) (k : ℕ) → k < size → get_or (plane size i l) k 0 ≡ get_or l (i * size + k) 0
plane_at size i l k h = get_or-take size (drop (i * size) l) k 0 h ∙ get_or-drop (i * size) l k 0

pub plane_long : (size i n : ℕ) (l : List ℕ) → length l ≡ n * size → i < n → length (plane size i l) ≡ size
plane_long size i n l e li = simp (length-take, length-drop) (omega (arith, le))
  where
    le : i * size + size ≤ n * size
    le = let t : suc i * size ≤ n * size = mul-le-mul_right size li in omega (arith, native.Mathlib.Nat.suc-mul i size)

module _ (w h : ℕ) where
  -- a byte is settled by its bits
  byte_by_bits : (s : Stack) (row j x : ℕ) → x < 256 → ((k d : ℕ) → k + suc d ≡ 8 → bit (ltb (8 * j + k) w && s (row / h) (row % h * w + (8 * j + k))) ≡ x / 2 ^ d % 2)
      → (k d : ℕ) → k + d ≡ 8 → byte_of w h s row j k ≡ x / 2 ^ d
  unfolding byte_of
  byte_by_bits s row j x lx b zero d e = let z : d ≡ 8 = omega arith in rw z (sym (div-eq_of_lt lx))
  byte_by_bits s row j x lx b (suc k) d e =
      let z : x / 2 ^ suc d ≡ x / 2 ^ d / 2 = rw (pow-suc 2 d, div-div-eq-div-mul x (2 ^ d) 2) in
      rw (byte_by_bits s row j x lx b k (suc d) (omega arith), b k d (omega arith), z) (div-add-mod' (x / 2 ^ d) 2)

  -- bit k of byte j of a row
  bit_there : (s : List ℕ) (row j k d : ℕ) → k + suc d ≡ 8 → bit_of s (row * row_bytes w * 8 + (8 * j + k)) ≡ eqb (get_or s (row * row_bytes w + j) 0 / 2 ^ d % 2) 1
  unfolding bit_at
  bit_there s row j k d e =
      let a : (8 * j + k) / 8 ≡ j = omega arith in
      let b : 7 - (8 * j + k) % 8 ≡ d = omega arith in
      row_bit_lem s (row * row_bytes w) (8 * j + k) ∙ rw (a, b)

  packed_row : (s : List ℕ) (r c : ℕ) → c < w → packed w s (r * w + c) ≡ bit_of s (r * row_bytes w * 8 + c)
  unfolding packed
  packed_row s r c lc = rw (digits_div r lc, digits_mod r lc)

  -- a packed plane is the bytes of its pixels
  pub plane_bytes_lem : (f : Plane) (s : List ℕ) → Clean w h s → ((b : ℕ) → get_or s b 0 < 256) → ((p : ℕ) → p < h * w → packed w s p ≡ f p) → s ≡ plane_bytes w h f
  unfolding plane_bytes bytes_of bit
  plane_bytes_lem f s cl small pix =
      let g : ℕ → ℕ = λ b. byte_of w h (λ i. f) (b / row_bytes w) (b % row_bytes w) 8 in
      let len : length s ≡ 1 * h * row_bytes w = cl.long ∙ rw one-mul in
      ext_get_or 0 s (each 0 (1 * h * row_bytes w) g) (len ∙ sym (length_each 0 (1 * h * row_bytes w) g)) (λ b lb.
      let lb' : b < h * row_bytes w = omega (arith, cl.long) in
      let (lr, lj) = digits_in b h (row_bytes w) lb' in
      sym (get_d_each 0 (1 * h * row_bytes w) g b 0 (omega arith) ∙ ap g (zero-add b)
      ∙ byte_by_bits (λ i. f) (b / row_bytes w) (b % row_bytes w) (get_or s b 0) (small b) (λ k d e. bits b (b / row_bytes w) (b % row_bytes w) lr lj (div-add-mod' b (row_bytes w)) k d e) 8 0 refl
      ∙ div-one (get_or s b 0)))
    where
      bits : (b row j : ℕ) → row < h → j < row_bytes w → row * row_bytes w + j ≡ b → (k d : ℕ) → k + suc d ≡ 8 → bit (ltb (8 * j + k) w && f (row % h * w + (8 * j + k))) ≡ get_or s b 0 / 2 ^ d % 2
      bits b row j lr lj eb k d e =
          let x : ℕ = get_or s b 0 in
          let t : bit_of s (row * row_bytes w * 8 + (8 * j + k)) ≡ eqb (get_or s b 0 / 2 ^ d % 2) 1 = rw eb at (bit_there s row j k d e) in
          split (ltb (8 * j + k) w)
          (λ y.
          let lc : 8 * j + k < w = ltb-true (8 * j + k) w y in
          let v : f (row * w + (8 * j + k)) ≡ eqb (get_or s b 0 / 2 ^ d % 2) 1 = sym (pix (row * w + (8 * j + k)) (digits_lt lr lc)) ∙ packed_row s row (8 * j + k) lc ∙ t in
          rw (y, mod-eq_of_lt lr, v) (bit_number (get_or s b 0 / 2 ^ d % 2) (mod-lt (get_or s b 0 / 2 ^ d) (omega arith))))
          (λ y.
          let c : bit_of s (row * row_bytes w * 8 + (8 * j + k)) ≡ false = cl.clear row (8 * j + k) lr (ltb-false (8 * j + k) w y) (omega arith) in
          rw y (omega (arith, eqb-false (get_or s b 0 / 2 ^ d % 2) 1 (sym t ∙ c))))

  -- the planes of a stack without padding bits
  module _ (n : ℕ) (l : List ℕ) (long : length l ≡ n * h * row_bytes w) where
    size_of : n * h * row_bytes w ≡ n * (h * row_bytes w)
    size_of = mul_assoc n h (row_bytes w)

    at_plane : (i r j : ℕ) → r < h → j < row_bytes w → get_or (plane (h * row_bytes w) i l) (r * row_bytes w + j) 0 ≡ get_or l ((i * h + r) * row_bytes w + j) 0
    at_plane i r j lr lj =
        let e : i * (h * row_bytes w) + (r * row_bytes w + j) ≡ (i * h + r) * row_bytes w + j =
        omega (arith, native.Mathlib.Nat.add-mul (i * h) r (row_bytes w), mul_assoc i h (row_bytes w)) in
        plane_at (h * row_bytes w) i l (r * row_bytes w + j) (digits_lt lr lj) ∙ ap (λ (x : ℕ). get_or l x 0) e

    pub plane_pixel : 0 < w → (i p : ℕ) → p < h * w → packed w (plane (h * row_bytes w) i l) p ≡ pixel w h l i p
    unfolding packed pixel row_bytes
    plane_pixel lw i p lp =
        let (lr, lc) = digits_in p h w lp in
        let lj : p % w / 8 < (w + 7) / 8 = omega arith in
        row_bit_lem (plane (h * row_bytes w) i l) (p / w * row_bytes w) (p % w) ∙ ap (λ (x : ℕ). bit_at x (p % w % 8)) (at_plane i (p / w) (p % w / 8) lr lj)

    pub plane_clean : padding_set w (n * h) l ≡ false → (i : ℕ) → i < n → Clean w h (plane (h * row_bytes w) i l)
    unfolding padded padding_set row_bytes bit_at
    plane_clean pad i li = record { long = plane_long (h * row_bytes w) i n l (long ∙ size_of) li; clear = clears }
      where
        T : ℕ → Bool
        T row = eqb (get_or l (row * row_bytes w + (row_bytes w - 1)) 0 % 2 ^ (8 * row_bytes w - w)) 0

        none : (row : ℕ) → row < n * h → get_or l (row * row_bytes w + (row_bytes w - 1)) 0 % 2 ^ (8 * row_bytes w - w) ≡ 0
        none row lr = split (T row) (λ t. eqb-true _ _ t) (λ f. clash (some_in (n * h) (λ row. not (T row)) row lr (not_in (T row) f)) pad)

        clears : (r c : ℕ) → r < h → w ≤ c → c < row_bytes w * 8 → bit_of (plane (h * row_bytes w) i l) (r * row_bytes w * 8 + c) ≡ false
        clears r c lr wc lc =
            let last : row_bytes w - 1 ≡ c / 8 = omega arith in
            let d : ℕ = 7 - c % 8 in
            let f : ℕ = 8 * row_bytes w - w - suc d in
            let s : suc f + d ≡ 8 * row_bytes w - w = omega arith in
            let x : ℕ = get_or l ((i * h + r) * row_bytes w + c / 8) 0 in
            let z : x / 2 ^ d % 2 ≡ 0 = low_zero x d f (rw s (rw last at (none (i * h + r) (digits_lt li lr)))) in
            row_bit_lem (plane (h * row_bytes w) i l) (r * row_bytes w) c
            ∙ ap (λ (y : ℕ). bit_at y (c % 8)) (at_plane i r (c / 8) lr (omega arith))
            ∙ ap (λ (y : ℕ). eqb y 1) z

  -- a byte looks only at the pixels of its row
  byte_same : (s t : Stack) (row row' : ℕ) → ((c : ℕ) → c < w → s (row / h) (row % h * w + c) ≡ t (row' / h) (row' % h * w + c)) → (j k : ℕ) → byte_of w h s row j k ≡ byte_of w h t row' j k
  unfolding byte_of
  byte_same s t row row' e j zero = refl
  byte_same s t row row' e j (suc k) =
      split (ltb (8 * j + k) w)
      (λ y. rw (y, byte_same s t row row' e j k, e (8 * j + k) (ltb-true (8 * j + k) w y)))
      (λ y. rw (y, byte_same s t row row' e j k))

  -- two planes that agree at every pixel have the same bytes
  pub bytes_same : (f g : Plane) → ((p : ℕ) → p < h * w → f p ≡ g p) → plane_bytes w h f ≡ plane_bytes w h g
  unfolding plane_bytes bytes_of
  bytes_same f g e =
      let a : ℕ → ℕ = λ b. byte_of w h (λ i. f) (b / row_bytes w) (b % row_bytes w) 8 in
      let a' : ℕ → ℕ = λ b. byte_of w h (λ i. g) (b / row_bytes w) (b % row_bytes w) 8 in
      let n : ℕ = 1 * h * row_bytes w in
      ext_get_or 0 (each 0 n a) (each 0 n a') (length_each 0 n a ∙ sym (length_each 0 n a')) (λ b lb.
      let lb' : b < n = omega (arith, length_each 0 n a) in
      let lh : b < h * row_bytes w = omega (arith, one-mul h) in
      let (lr, lj) = digits_in b h (row_bytes w) lh in
      get_d_each 0 n a b 0 lb' ∙ ap a (zero-add b)
      ∙ byte_same (λ i. f) (λ i. g) (b / row_bytes w) (b / row_bytes w) (λ c lc. rw (mod-eq_of_lt lr) (e (b / row_bytes w * w + c) (digits_lt lr lc))) (b % row_bytes w) 8
      ∙ sym (get_d_each 0 n a' b 0 lb' ∙ ap a' (zero-add b)))

  -- the bytes of one layer
  pub stack_plane : (n : ℕ) (T : Stack) (i : ℕ) → i < n → plane (h * row_bytes w) i (bytes_of w h n T) ≡ plane_bytes w h (T i)
  unfolding plane_bytes bytes_of
  stack_plane n T i li =
      let g : ℕ → ℕ = λ b. byte_of w h T (b / row_bytes w) (b % row_bytes w) 8 in
      let f : ℕ → ℕ = λ b. byte_of w h (λ k. T i) (b / row_bytes w) (b % row_bytes w) 8 in
      let l : List ℕ = each 0 (n * h * row_bytes w) g in
      let long : length l ≡ n * h * row_bytes w = length_each 0 (n * h * row_bytes w) g in
      let e1 : length (plane (h * row_bytes w) i l) ≡ h * row_bytes w = plane_long (h * row_bytes w) i n l (long ∙ mul_assoc n h (row_bytes w)) li in
      ext_get_or 0 (plane (h * row_bytes w) i l) (each 0 (1 * h * row_bytes w) f) (e1 ∙ sym (length_each 0 (1 * h * row_bytes w) f ∙ rw one-mul)) (λ b lb.
      let lb' : b < h * row_bytes w = omega arith in
      let (lr, lj) = digits_in b h (row_bytes w) lb' in
      ap (λ (x : ℕ). get_or (plane (h * row_bytes w) i l) x 0) (sym (div-add-mod' b (row_bytes w)))
      ∙ at_plane n l long i (b / row_bytes w) (b % row_bytes w) lr lj
      ∙ get_d_each 0 (n * h * row_bytes w) g ((i * h + b / row_bytes w) * row_bytes w + b % row_bytes w) 0 (digits_lt (digits_lt li lr) lj)
      ∙ ap g (zero-add _)
      ∙ rw (digits_div (i * h + b / row_bytes w) lj, digits_mod (i * h + b / row_bytes w) lj)
      (byte_same T (λ k. T i) (i * h + b / row_bytes w) (b / row_bytes w) (λ c lc. rw (digits_div i lr, digits_mod i lr, mod-eq_of_lt lr)) (b % row_bytes w) 8)
      ∙ sym (get_d_each 0 (1 * h * row_bytes w) f b 0 (omega (arith, one-mul h)) ∙ ap f (zero-add b)))
