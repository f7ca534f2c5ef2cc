-- Planes in the packed form of a stack, and the stretches of its layers.
use Rattle.std.specs.Prelude.{◌≡◌, false, List, ℕ, ◌+◌, ◌*◌, ◌/◌, ◌%◌, ◌<◌, ◌≤◌, length, take, drop}
use Rattle.rules.specs.Images.{Plane, row_bytes, bytes_of}
use Rattle.image.specs.Scratch.{bit_of}

-- pixel p of one packed plane
unfoldable pub packed : ℕ → List ℕ → Plane
packed w s p = bit_of s (p / w * row_bytes w * 8 + p % w)

-- the bytes of one plane
unfoldable pub plane_bytes : ℕ → ℕ → Plane → List ℕ
plane_bytes w h f = bytes_of w h 1 (λ i. f)

-- a packed plane of the right length, with no padding bit set
pub record Clean (w h : ℕ) (s : List ℕ) : Type 0 where
  pub long : length s ≡ h * row_bytes w
  pub clear : (r c : ℕ) → r < h → w ≤ c → c < row_bytes w * 8 → bit_of s (r * row_bytes w * 8 + c) ≡ false

-- s is the packed plane f: its pixels are f's, and no padding bit is set
pub record Packs (w h : ℕ) (f : Plane) (s : List ℕ) : Type 0 where
  pub clean : Clean w h s
  pub pixels : (p : ℕ) → p < h * w → packed w s p ≡ f p

-- the stretch of layer i, of planes of `size` elements
abbrev pub plane : ℕ → ℕ → List ℕ → List ℕ
plane size i s = take size (drop (i * size) s)

-- s' is s but for the stretch of layer i
pub record OnlyPlane (size i : ℕ) (s' s : List ℕ) : Type 0 where
  pub long : length s' ≡ length s
  pub below : take (i * size) s' ≡ take (i * size) s
  pub above : drop ((i + 1) * size) s' ≡ drop ((i + 1) * size) s
