-- Laws of the searches in a row, row by row, and plane by plane.
use Rattle.std.specs.Prelude.{◌≡◌, refl, Bool, false, ◌&&◌, List, ℕ, ◌+◌, ◌-◌, ◌*◌, ◌/◌, ◌%◌, ◌<◌, ◌≤◌, get_or, length}
use Rattle.std.proofs.Common.{sym, ap₂, ◌∙◌, mul_assoc, mul-le-mul, arith, below_more}
use Rattle.std.proofs.Math.Arith.{digits_lt}
use Rattle.std.specs.Int.Bits.{bit_and, bit_or, or_add_and}
use Rattle.std.proofs.lemmas.Nat.{and_le_l, and_le_r}
use Rattle.rules.specs.Images.{row_bytes, bit_at}
use Rattle.laws.specs.Places.{digits_in}
use Rattle.places.specs.Search.{FirstOf, overlap_here, overlap_in, Sized}
use Rattle.places.specs.BitLaws.{byte_in, no_bit}
use Rattle.places.specs.Finding.{least_none, stretch_hit, stretch_more}
use Rattle.image.specs.Bits.{bit_and_lem}
use Rattle.image.specs.Rows.{packed}
use Rattle.image.specs.Packed.{row_bit_lem}
use Rattle.places.specs.Planes.{row_in, cut, cut_length}

-- Bytes of a row --------------------------------------------------------------------------------------------------------

pub overlap_byte : (part sup : List ℕ) (at c b j : ℕ) → c % 8 ≡ 0 → b ≡ at + c / 8 → j < 8 → overlap_in part sup at (c + j) ≡ bit_at (bit_and (get_or sup b 0) (get_or part b 0)) j
unfolding overlap_in
overlap_byte part sup at c b j z e l =
    ap₂ (λ (u v : Bool). u && v) (byte_in sup at c j z l) (byte_in part at c j z l) ∙ rw (← e) (sym (bit_and_lem (get_or sup b 0) (get_or part b 0) j))

-- what is gathered by `or` is 0 only where each part is
pub gather_more : (P : ℕ → Type 0) (j acc m : ℕ) → (acc ≡ 0 → (k : ℕ) → k < j → P k) → (m ≡ 0 → P j) → bit_or acc m ≡ 0 → (k : ℕ) → k < j + 1 → P k
gather_more P j acc m all here e =
    let a : acc ≡ 0 = omega (arith, or_add_and acc m, and_le_r acc m) in
    let b : m ≡ 0 = omega (arith, or_add_and acc m, and_le_l acc m) in
    below_more P j (all a) (here b)

pub apart_byte : (x y m : ℕ) → m ≡ bit_and x y → m ≡ 0 → (k : ℕ) → k < 8 → (bit_at x k && bit_at y k) ≡ false
apart_byte x y m e z k l = sym (bit_and_lem x y k) ∙ no_bit (bit_and x y) k (sym e ∙ z)

-- the byte of a pixel
pub byte_of_lem : (w h n p : ℕ) → n ≡ h * row_bytes w → p < h * w → p / w * row_bytes w + p % w / 8 < n
unfolding row_bytes
byte_of_lem w h n p e l = let (lr, lc) = digits_in p h w l in rw e (digits_lt lr (omega arith))

pub apart_none : (part sup : List ℕ) (w h n : ℕ) → n ≡ h * row_bytes w →
    ((j : ℕ) → j < n → (k : ℕ) → k < 8 → (bit_at (get_or sup j 0) k && bit_at (get_or part j 0) k) ≡ false) → FirstOf 0 (h * w) (overlap_here (packed w part) (packed w sup)) (h * w)
unfolding overlap_here packed
apart_none part sup w h n e all =
    least_none 0 (h * w) _ (omega arith) (λ p a l.
    rw (row_bit_lem sup (p / w * row_bytes w) (p % w), row_bit_lem part (p / w * row_bytes w) (p % w)) (all (p / w * row_bytes w + p % w / 8) (byte_of_lem w h n p e l) (p % w % 8) (omega arith)))

-- Row by row and plane by plane -------------------------------------------------------------------------------------------

pub least_end : (m : ℕ) (f : ℕ → Bool) (x : ℕ) → x ≡ m → ((y : ℕ) → y < x → y < m → f y ≡ false) → FirstOf 0 m f x
least_end m f x e all = record { low = omega arith; bound = omega arith; before = λ y a b. all y b (omega arith); at = λ l. absurd (omega arith) }

-- row (or plane) i of k, each of u: it ends inside, and the last ends where all do
pub stretch_in : (i k u x : ℕ) → x ≡ i * u → i < k → x + u ≤ k * u
stretch_in i k u x e l = omega (arith, row_in i k u l)

pub stretch_end : (i k u x : ℕ) → x ≡ i * u → i ≤ k → k ≤ i → x ≡ k * u
stretch_end i k u x e a b = let z : i ≡ k = omega arith in e ∙ rw z

pub stretch_next : (i u x : ℕ) → x ≡ i * u → x + u ≡ (i + 1) * u
stretch_next i u x e = omega arith

-- row (or plane) i of n, each of u, is looked at as g, and all before it fail: it has the first that passes, or all up to the next fail
module _ (n u i : ℕ) (f g : ℕ → Bool) (l : i < n) (before : (y : ℕ) → y < i * u → y < n * u → f y ≡ false) (same : (j : ℕ) → j < u → f (i * u + j) ≡ g j) where
  pub found_in : (j : ℕ) → FirstOf 0 u g j → j < u → FirstOf 0 (n * u) f (i * u + j)
  found_in j r h = stretch_hit (n * u) f g (i * u) u j before same r (stretch_in i n u (i * u) refl l) h

  pub none_in : FirstOf 0 u g u → (y : ℕ) → y < (i + 1) * u → y < n * u → f y ≡ false
  none_in r = stretch_more (n * u) f g (i * u) u u before same r ((i + 1) * u) (omega arith) (λ y a b. omega arith)

-- the bytes of a row lie in its plane
pub bytes_in : (w h row at rb len : ℕ) → at ≡ row * rb → rb ≡ row_bytes w → row < h → len ≡ h * row_bytes w → at + row_bytes w ≤ len
bytes_in w h row at rb len ea er l el = let z : at ≡ row * row_bytes w = ea ∙ rw er in omega (arith, row_in row h (row_bytes w) l)

-- sizes
pub area_fit : (w h : ℕ) → Sized w h → h * w ≤ 65536
area_fit w h s = mul-le-mul s.h_high s.w_high

pub bytes_fit : (w h rb : ℕ) → Sized w h → rb ≤ 32 → h * rb ≤ 8192
bytes_fit w h rb s l = mul-le-mul s.h_high l

pub stack_fit : (n u m : ℕ) → n ≤ 512 → u ≤ m → n * u ≤ 512 * m
stack_fit n u m a b = mul-le-mul a b

-- the bytes of a plane, as the code counts them
pub plane_bytes_lem : (w h rb len : ℕ) → rb ≡ row_bytes w → len ≡ h * row_bytes w → h * rb ≡ len
plane_bytes_lem w h rb len er el = rw (er, el)

-- pair i of the n - 1: both its planes lie in the stack, and its rings in the ring planes
pub pair_in : (w h n i at bytes x : ℕ) → bytes ≡ h * row_bytes w → at ≡ i * bytes → x ≡ i * (h * w) → i < n - 1 →
    (at + bytes + bytes ≤ n * h * row_bytes w) × (x + h * w ≤ (n - 1) * (h * w))
pair_in w h n i at bytes x eb ea ex l =
    let z : n * bytes ≡ n * h * row_bytes w = rw eb (sym (mul_assoc n h (row_bytes w))) in
    let u : i + 1 < n = omega arith in
    (omega (arith, row_in (i + 1) n bytes u), omega (arith, row_in i (n - 1) (h * w) l))

-- the lengths of its planes and of its rings
module _ (w h n i at bytes x : ℕ) (eb : bytes ≡ h * row_bytes w) (ea : at ≡ i * bytes) (ex : x ≡ i * (h * w)) (li : i < n - 1) where
  pub lower_length : (s : List ℕ) → length s ≡ n * h * row_bytes w → length (cut at (at + bytes) s) ≡ h * row_bytes w
  lower_length s es = cut_length at (at + bytes) bytes s refl (omega (arith, pair_in w h n i at bytes x eb ea ex li)) ∙ eb

  pub upper_length : (s : List ℕ) → length s ≡ n * h * row_bytes w → length (cut (at + bytes) (at + bytes + bytes) s) ≡ h * row_bytes w
  upper_length s es = cut_length (at + bytes) (at + bytes + bytes) bytes s refl (omega (arith, pair_in w h n i at bytes x eb ea ex li)) ∙ eb

  pub rings_length : (l : List ℕ) → length l ≡ (n - 1) * (h * w) → length (cut x (x + h * w) l) ≡ h * w
  rings_length l el = cut_length x (x + h * w) (h * w) l refl (omega (arith, pair_in w h n i at bytes x eb ea ex li))

pub fit_of : (a b m n : ℕ) → a ≤ m → b ≤ n → a * b ≤ m * n
fit_of a b m n l k = mul-le-mul l k
