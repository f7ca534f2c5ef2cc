-- What the quick tests say of rings and of pixels that hang, when they say yes.
use Rattle.std.specs.Prelude.{◌≡◌, Bool, true, false, not, ◌&&◌, ◌||◌, List, ℕ, ◌+◌, ◌-◌, ◌*◌, ◌≤◌, ◌<◌, length, get_or}
use Rattle.rules.specs.Images.{Plane, bit_at, row_bytes, pixel, ring_at, padding_set}
use Rattle.rules.specs.Judging.{bad_ring, unheld}
use Rattle.rules.specs.Planning.{shadow, seeds, touch, near}
use Rattle.words.specs.Words.{row_part}
use Rattle.image.specs.Rows.{packed}
use Rattle.places.specs.Search.{flat, Sized}

-- the pixel o touches p
pub record Beside (w h : ℕ) (f : Plane) (p : ℕ) : Type 0 where
  pub other : ℕ
  pub inside : other < h * w
  pub touches : touch w p other ≡ true
  pub is : f other ≡ true

-- a ring lies in the shadow; ring 1 beside a seed, a larger one beside a ring that is one less
pub record SoundRing (w h : ℕ) (low up : Plane) (ring : ℕ → ℕ) (p : ℕ) : Type 0 where
  pub free : 0 < ring p → shadow low up p ≡ true
  pub first : ring p ≡ 1 → Beside w h (seeds low up) p
  pub leans : 1 < ring p → (o : ℕ) × (o < h * w) × (touch w p o ≡ true) × (ring o + 1 ≡ ring p)

-- column c of the row of n bytes from `at` on: a seed, or a shadow pixel
unfoldable pub seed_part : List ℕ → List ℕ → ℕ → ℕ → ℕ → Bool
seed_part low up at n c = row_part low at n c && row_part up at n c

unfoldable pub shadow_part : List ℕ → List ℕ → ℕ → ℕ → ℕ → Bool
shadow_part low up at n c = row_part up at n c && not (row_part low at n c)

-- the four planes of a pair have n bytes at least
pub record Long (n : ℕ) (low up below above : List ℕ) : Type 0 where
  pub low_long : n ≤ length low
  pub up_long : n ≤ length up
  pub below_long : n ≤ length below
  pub above_long : n ≤ length above

-- no pixel of byte j is in the shadow
abbrev pub NoShadow : List ℕ → List ℕ → ℕ → Type 0
NoShadow low up j = (k : ℕ) → k < 8 → (bit_at (get_or up j 0) k && not (bit_at (get_or low j 0) k)) ≡ false

-- no support pixel of byte j hangs over neither part nor support
abbrev pub NoneHangs : List ℕ → List ℕ → List ℕ → ℕ → Type 0
NoneHangs low below above j = (k : ℕ) → k < 8 → (bit_at (get_or above j 0) k && not (bit_at (get_or low j 0) k || bit_at (get_or below j 0) k)) ≡ false

-- the rings of row r are sound, and those larger than t lie in f
abbrev pub RowSound : ℕ → ℕ → ℕ → Plane → List ℕ → List ℕ → List ℕ → ℕ → Type 0
RowSound w h t f low up rings r = (c : ℕ) → c < w → SoundRing w h (packed w low) (packed w up) (λ o. get_or rings o 0) (r * w + c) × (t < get_or rings (r * w + c) 0 → f c ≡ true)

-- the rings of row r are sound, and those larger than t are near
abbrev pub RowGood : ℕ → ℕ → ℕ → ℕ → List ℕ → List ℕ → List ℕ → ℕ → Type 0
RowGood w h q t low up rings r = RowSound w h t (λ c. near w h q (packed w low) (r * w + c)) low up rings r

-- row r has no shadow
abbrev pub Shadeless : ℕ → List ℕ → List ℕ → ℕ → Type 0
Shadeless w low up r = (c : ℕ) → c < w → shadow (packed w low) (packed w up) (r * w + c) ≡ false

-- each shadow pixel of row r that has no support below has a ring
abbrev pub RowHeld : ℕ → List ℕ → List ℕ → List ℕ → List ℕ → ℕ → Type 0
RowHeld w low up below rings r = (c : ℕ) → c < w → shadow (packed w low) (packed w up) (r * w + c) ≡ true → packed w below (r * w + c) ≡ false → 0 < get_or rings (r * w + c) 0

-- a stack of n layers, its support and its rings
pub record Whole (w h n : ℕ) (part sup rings : List ℕ) : Type 0 where
  pub sized : Sized w h
  pub n_low : 1 ≤ n
  pub n_high : n ≤ 512
  pub part_long : length part ≡ n * h * row_bytes w
  pub sup_long : length sup ≡ n * h * row_bytes w
  pub clear : padding_set w (n * h) part ≡ false
  pub rings_long : length rings ≡ (n - 1) * (h * w)

-- the pixel x of all pairs counted through has no bad ring, and is not unheld
abbrev pub Fine : ℕ → ℕ → ℕ → List ℕ → List ℕ → List ℕ → ℕ → Type 0
Fine w h q part sup rings x =
    (flat w h (bad_ring w h (λ (i : ℕ). q) (pixel w h part) (ring_at w h rings)) x ≡ false)
    × (flat w h (unheld (pixel w h part) (pixel w h sup) (ring_at w h rings)) x ≡ false)
