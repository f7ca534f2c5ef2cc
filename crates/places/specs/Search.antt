-- What a search answers, and what it looks at: the rows and planes of a stack as bytes.
use Rattle.std.specs.Prelude.{◌≡◌, Bool, true, false, not, ◌&&◌, ◌||◌, List, ℕ, ◌+◌, ◌-◌, ◌*◌, ◌/◌, ◌%◌, ◌≤◌, ◌<◌, ltb, eqb, get_or}
use Rattle.rules.specs.Images.{Plane, Stack, bit_at}
use Rattle.rules.specs.Planning.{seeds, reached, touch, fits}

-- r is the first of a, a + 1, .., n - 1 that passes; n where none does
pub record FirstOf (a n : ℕ) (f : ℕ → Bool) (r : ℕ) : Type 0 where
  pub low : a ≤ r
  pub bound : r ≤ n
  pub before : (y : ℕ) → a ≤ y → y < r → f y ≡ false
  pub at : r < n → f r ≡ true

-- the test of a stack, at the pixels of all layers counted through
unfoldable pub flat : ℕ → ℕ → Stack → ℕ → Bool
flat w h f x = f (x / (h * w)) (x % (h * w))

-- the pixel at column c of the row whose bytes start at `at`
unfoldable pub bit_in : List ℕ → ℕ → ℕ → Bool
bit_in s at c = bit_at (get_or s (at + c / 8) 0) (c % 8)

-- overlap, bad rings and unheld pixels of one plane, or of one pair of them: what `overlap`, `bad_ring` and `unheld` say of it
unfoldable pub overlap_here : Plane → Plane → Plane
overlap_here part sup p = sup p && part p

unfoldable pub bad_here : ℕ → ℕ → ℕ → Plane → Plane → (ℕ → ℕ) → Plane
bad_here w h q low up ring p = ltb 0 (ring p) && not (fits (h * w) (touch w) (reached w h q low up) (seeds low up) ring (ring p - 1) p)

unfoldable pub unheld_here : Plane → Plane → Plane → Plane → (ℕ → ℕ) → Plane
unheld_here low up below above ring p = (up p || above p) && not (low p || below p) && eqb (ring p) 0

-- overlap in the row whose bytes start at `at`
unfoldable pub overlap_in : List ℕ → List ℕ → ℕ → ℕ → Bool
overlap_in part sup at c = bit_in sup at c && bit_in part at c

-- the sizes of a plane
pub record Sized (w h : ℕ) : Type 0 where
  pub w_low : 1 ≤ w
  pub w_high : w ≤ 256
  pub h_low : 1 ≤ h
  pub h_high : h ≤ 256
