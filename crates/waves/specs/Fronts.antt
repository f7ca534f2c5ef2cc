-- Rings by waves: the planes of a wave, and what they hold after k of them.
use Rattle.std.specs.Prelude.{◌≡◌, true, ◌&&◌, List, ℕ, ◌*◌, ◌<◌, ◌≤◌, ltb, eqb, get_or, length}
use Rattle.rules.specs.Images.{Plane}
use Rattle.rules.specs.Planning.{source, touch, grown}
use Rattle.words.specs.Words.{word_bit}
use Rattle.planes.specs.Scratch.{Sizes, Ready, seen}
use Rattle.waves.specs.Rows.{Aheads, Room, Still}

-- the planes of a wave: front, what it leans on, left, what it may reach, and got, what has a ring
pub record WavePlanes (w h : ℕ) (ahead front left got ring : List ℕ) : Type 0 where
  pub sizes : Sizes w h
  pub aheads : Aheads h ahead
  pub front_ready : Ready w h front
  pub left_room : Room w h ahead left
  pub got_room : Room w h ahead got
  pub ring_long : length ring ≡ h * w
  pub apart : (j : ℕ) → word_bit left j ≡ true → word_bit front j ≡ true → ⊥

-- after k waves over a plane: the rings of k steps, what step k leans on, the pixels without a ring, and those with one
pub record Waved (w h k : ℕ) (over seed : Plane) (front left got ring : List ℕ) : Type 0 where
  pub rings : ring ≡ grown (h * w) (touch w) over seed k
  pub fronts : (p : ℕ) → p < h * w → seen w front p ≡ source seed (λ o. get_or ring o 0) k p
  pub lefts : (p : ℕ) → p < h * w → seen w left p ≡ (over p && eqb (get_or ring p 0) 0)
  pub gots : (p : ℕ) → p < h * w → seen w got p ≡ ltb 0 (get_or ring p 0)

-- waves over a plane that have come to their end, with at most t of them: no wave goes on
pub record Ended (w h t : ℕ) (over seed : Plane) (left got ring : List ℕ) : Type 0 where
  pub number : ℕ
  pub front : List ℕ
  pub some_wave : 0 < number
  pub most : number ≤ t
  pub waved : Waved w h number over seed front left got ring
  pub still : Still front left

-- waves were made, up to t of them: r, or with r = 0 until none went on
abbrev pub WavesMade : ℕ → ℕ → ℕ → ℕ → ℕ → List ℕ → List ℕ → List ℕ → List ℕ → List ℕ → List ℕ → List ℕ → List ℕ → Type 0
WavesMade w h k t r front front' left left' got got' ring ring' = (over seed : Plane) → Waved w h k over seed front left got ring
    → (0 < r → Waved w h r over seed front' left' got' ring') × (r ≡ 0 → Ended w h t over seed left' got' ring')
