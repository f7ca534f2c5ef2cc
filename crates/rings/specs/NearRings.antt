-- Rings over the near pixels of a shadow: where the waves stand when what they reach may be far.
use Rattle.std.specs.Prelude.{◌≡◌, Bool, true, ◌&&◌, List, ℕ, ◌+◌, ◌-◌, ◌*◌, ◌/◌, ◌%◌, ◌<◌, ◌≤◌, ltb, leb, get_or}
use Rattle.rules.specs.Demands.{Joined}
use Rattle.rules.specs.Images.{Plane}
use Rattle.rules.specs.Planning.{near, touch, grown}
use Rattle.words.specs.Words.{word_bit}
use Rattle.planes.specs.Scratch.{Ready, seen}
use Rattle.waves.specs.Fronts.{Waved}
use Rattle.waves.specs.Rows.{Room}

-- the pixels of a shadow that are near
unfoldable pub near_in : ℕ → ℕ → ℕ → Plane → Plane → Plane
near_in w h q low sh p = sh p && near w h q low p

-- no pixel is in both
abbrev pub Apart : ℕ → ℕ → Plane → Plane → Type 0
Apart w h a b = (p : ℕ) → p < h * w → a p ≡ true → b p ≡ true → ⊥

-- what is joined to a seed by at most n steps over a plane is near
abbrev pub NearBy : ℕ → ℕ → ℕ → ℕ → Plane → Plane → Plane → Type 0
NearBy w h q n low over seed = (k p : ℕ) → p < h * w → k ≤ n → Joined (h * w) (touch w) over seed k p → near w h q low p ≡ true

-- k waves are in: at least one was made, and all that they reached is near
pub record NearWaves (w h q k : ℕ) (low over seed : Plane) (front left got ring : List ℕ) : Type 0 where
  pub waved : Waved w h k over seed front left got ring
  pub some_wave : 0 < k
  pub apart : Apart w h over seed
  pub near_by : NearBy w h q k low over seed

-- the rings over a plane are whole, and got has the pixels with one
pub record Whole (w h : ℕ) (over seed : Plane) (got ring : List ℕ) : Type 0 where
  pub rings : ring ≡ grown (h * w) (touch w) over seed (h * w)
  pub gots : (p : ℕ) → p < h * w → seen w got p ≡ ltb 0 (get_or ring p 0)

-- the bits of the plane f in scratch
unfoldable pub pixel_bits : ℕ → ℕ → Plane → ℕ → Bool
pixel_bits w h f j = leb 33 (j / 320) && ltb (j / 320 - 33) h && ltb (j % 320) w && f ((j / 320 - 33) * w + j % 320)

-- the bits of a plane in scratch that are near to low
unfoldable pub near_bits : ℕ → ℕ → ℕ → List ℕ → List ℕ → ℕ → Bool
near_bits w h q low left j = word_bit left j && near w h q (seen w low) ((j / 320 - 33) * w + j % 320)

-- the planes of a pair in scratch
pub record Rooms (w h : ℕ) (ahead left got front next lower : List ℕ) : Type 0 where
  pub left_room : Room w h ahead left
  pub got_room : Room w h ahead got
  pub front_room : Room w h ahead front
  pub next_room : Room w h ahead next
  pub lower_ready : Ready w h lower
