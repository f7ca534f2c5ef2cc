-- Bytes without padding bits are given back by their pixels: so a stack of bytes is settled by its pixels.
use Rattle.std.specs.Prelude.{◌≡◌, refl, ◌↔◌, false, ◌&&◌, List, ltb, length}
use Rattle.std.proofs.Common.{sym, ◌∙◌, zero-add, mod-lt, div-one, pow-suc, pow_pos, add-one, ext_get_or}
use Rattle.std.proofs.Math.Bool.{Bool, not}
use Prim.Native.Nat.{ℕ, zero, suc, ◌+◌, ◌-◌, ◌*◌, ◌/◌, ◌%◌, ◌^◌, ◌≤◌, ◌<◌}
use Rattle.std.proofs.Math.Nat.{div-add-mod', div-div-eq-div-mul, div-eq_of_lt}
use native.Mathlib.Omega.{arith}
use Rattle.std.proofs.Math.Arith.{digits_lt, digits_div, digits_mod}
use Rattle.std.proofs.Math.Pow.{field, mod-mod-pow}
use Rattle.std.proofs.Math.Dec.{eqb}
use Rattle.std.proofs.Math.ListN.{get_or}
use borrow.Author.Tests.{eqb-true, ltb-true, ltb-false}
use Rattle.rules.specs.Images.{Stack, row_bytes, bit_at, pixel, padded, padding_set, byte_of, bytes_of}
use Rattle.rules.specs.Tools.{bit}
use Rattle.laws.specs.Tests.{split, clash, some_in, not_in, get_d_each, length_each, each_same}
use Rattle.laws.specs.Places.{digits_in}

bit_of_lem : (y : ℕ) → y < 2 → bit (eqb y 1) ≡ y
unfolding bit
bit_of_lem zero l = refl
bit_of_lem (suc zero) l = refl
bit_of_lem (suc (suc y)) l = absurd (omega arith)

-- the low e bits are 0: so is each of them
pub low_zero : (x d f : ℕ) → x % 2 ^ (suc f + d) ≡ 0 → x / 2 ^ d % 2 ≡ 0
low_zero x d f e =
    let z : x / 2 ^ d % 2 ^ (f + 1) ≡ 0 = sym (field x (f + 1) d) ∙ rw (add-one f, e) (div-eq_of_lt (pow_pos d)) in
    sym (mod-mod-pow (x / 2 ^ d) f 1) ∙ rw z

module _ (w h n : ℕ) (l : List ℕ) (clear : padding_set w (n * h) l ≡ false) where
  no_padding : (row : ℕ) → row < n * h → get_or l (row * row_bytes w + (row_bytes w - 1)) 0 % 2 ^ (8 * row_bytes w - w) ≡ 0
  unfolding padded padding_set
  no_padding row lr =
      let T : ℕ → Bool = λ row. eqb (get_or l (row * row_bytes w + (row_bytes w - 1)) 0 % 2 ^ (8 * row_bytes w - w)) 0 in
      split (T row) (λ t. eqb-true _ _ t) (λ f. clash (some_in (n * h) (λ row. not (T row)) row lr (not_in (T row) f)) clear)

  -- bit k of byte j of a row, as a pixel or as padding, is what the byte has there
  bit_at_lem : (row j k d : ℕ) → 0 < h → row < n * h → j < row_bytes w → k + suc d ≡ 8 →
      bit (ltb (8 * j + k) w && pixel w h l (row / h) (row % h * w + (8 * j + k))) ≡ get_or l (row * row_bytes w + j) 0 / 2 ^ d % 2
  unfolding pixel bit_at bit row_bytes
  bit_at_lem row j k d lh lr lj e =
      let x : ℕ = get_or l (row * row_bytes w + j) 0 in
      split (ltb (8 * j + k) w)
      (λ t.
      let lc : 8 * j + k < w = ltb-true (8 * j + k) w t in
      let c8 : (8 * j + k) / 8 ≡ j = omega arith in
      let c7 : 7 - (8 * j + k) % 8 ≡ d = omega arith in
      rw (t, digits_div (row % h) lc, digits_mod (row % h) lc, div-add-mod' row h, c8, c7) (bit_of_lem (x / 2 ^ d % 2) (mod-lt (x / 2 ^ d) (omega arith))))
      (λ t.
      let lc : w ≤ 8 * j + k = ltb-false (8 * j + k) w t in
      let last : row_bytes w - 1 ≡ j = omega arith in
      let f : ℕ = 8 * row_bytes w - w - suc d in
      let s : suc f + d ≡ 8 * row_bytes w - w = omega arith in
      rw t (sym (low_zero x d f (rw (s, ← last) (no_padding row lr)))))

  byte_at : (row j k d : ℕ) → 0 < h → row < n * h → j < row_bytes w → get_or l (row * row_bytes w + j) 0 < 256 → k + d ≡ 8 →
      byte_of w h (pixel w h l) row j k ≡ get_or l (row * row_bytes w + j) 0 / 2 ^ d
  unfolding byte_of
  byte_at row j zero d lh lr lj b e = let z : d ≡ 8 = omega arith in rw z (sym (div-eq_of_lt b))
  byte_at row j (suc k) d lh lr lj b e =
      let x : ℕ = get_or l (row * row_bytes w + j) 0 in
      let z : x / 2 ^ suc d ≡ x / 2 ^ d / 2 = rw (pow-suc 2 d, div-div-eq-div-mul x (2 ^ d) 2) in
      rw (byte_at row j k (suc d) lh lr lj b (omega arith), bit_at_lem row j k d lh lr lj (omega arith), z) (div-add-mod' (x / 2 ^ d) 2)

-- a stack of bytes is the bytes of its pixels
pub bytes_pixel : (w h n : ℕ) (l : List ℕ) → 0 < h → length l ≡ n * h * row_bytes w → ((b : ℕ) → b < length l → get_or l b 0 < 256) → padding_set w (n * h) l ≡ false → bytes_of w h n (pixel w h l) ≡ l
unfolding bytes_of
bytes_pixel w h n l lh len small clear =
    ext_get_or 0 (bytes_of w h n (pixel w h l)) l (length_each 0 (n * h * row_bytes w) _ ∙ sym len) (λ b lb.
    let lb' : b < n * h * row_bytes w = omega (arith, length_each 0 (n * h * row_bytes w) (λ b. byte_of w h (pixel w h l) (b / row_bytes w) (b % row_bytes w) 8)) in
    let (lr, lj) = digits_in b (n * h) (row_bytes w) lb' in
    let z : b / row_bytes w * row_bytes w + b % row_bytes w ≡ b = div-add-mod' b (row_bytes w) in
    get_d_each 0 (n * h * row_bytes w) (λ b. byte_of w h (pixel w h l) (b / row_bytes w) (b % row_bytes w) 8) b 0 lb'
    ∙ rw (zero-add b, byte_at w h n l clear (b / row_bytes w) (b % row_bytes w) 8 0 lh lr lj (rw z (small b (omega arith))) refl, z, div-one))

-- the bytes of a stack look only at the pixels that exist
byte_same : (w h n : ℕ) (s t : Stack) → ((i p : ℕ) → i < n → p < h * w → s i p ≡ t i p) → (row j k : ℕ) → 0 < h → row < n * h → byte_of w h s row j k ≡ byte_of w h t row j k
unfolding byte_of
byte_same w h n s t e row j zero lh lr = refl
byte_same w h n s t e row j (suc k) lh lr =
    let (li, ly) = digits_in row n h lr in
    rw (byte_same w h n s t e row j k lh lr)
    (split (ltb (8 * j + k) w)
    (λ b. rw (b, e (row / h) (row % h * w + (8 * j + k)) li (digits_lt ly (ltb-true (8 * j + k) w b))))
    (λ b. rw b))

pub bytes_same : (w h n : ℕ) (s t : Stack) → 0 < h → ((i p : ℕ) → i < n → p < h * w → s i p ≡ t i p) → bytes_of w h n s ≡ bytes_of w h n t
unfolding bytes_of
bytes_same w h n s t lh e =
    each_same 0 (n * h * row_bytes w) _ _ (λ b lb.
    let (lr, lj) = digits_in b (n * h) (row_bytes w) lb in
    rw zero-add (byte_same w h n s t e (b / row_bytes w) (b % row_bytes w) 8 lh lr))

-- the same pixels mean the same bytes where padding is clear, so equations on bytes and statements on pixels say the same
pub same_pixels : (w h n : ℕ) (a b : List ℕ) → 0 < h → length a ≡ n * h * row_bytes w → length b ≡ n * h * row_bytes w →
    ((x : ℕ) → x < length a → get_or a x 0 < 256) → ((x : ℕ) → x < length b → get_or b x 0 < 256) → padding_set w (n * h) a ≡ false → padding_set w (n * h) b ≡ false →
    (a ≡ b) ↔ ((i p : ℕ) → i < n → p < h * w → pixel w h a i p ≡ pixel w h b i p)
same_pixels w h n a b lh la lb sa sb ca cb = (
  (λ e i p li lp. rw e),
  (λ s.
      sym (bytes_pixel w h n a lh la sa ca)
      ∙ bytes_same w h n (pixel w h a) (pixel w h b) lh s
      ∙ bytes_pixel w h n b lh lb sb cb),
)
