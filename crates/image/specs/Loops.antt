-- What the loops over the bytes of planes leave, bit by bit.
use Rattle.std.specs.Prelude.{◌≡◌, Bool, not, ◌&&◌, List, ℕ, ◌*◌, ◌<◌, ◌≤◌}
use Rattle.image.specs.Scratch.{bit_of}

-- each bit of the first n bytes is g's
abbrev pub Bits : ℕ → (ℕ → Bool) → List ℕ → Type 0
Bits n g out = (j : ℕ) → j < n * 8 → bit_of out j ≡ g j

abbrev pub but_not : Bool → Bool → Bool
but_not x y = x && not y

-- the bits of the bytes from a up to b are g's, and all others are as they were
pub record Within (a b : ℕ) (g : ℕ → Bool) (out was : List ℕ) : Type 0 where
  pub inner : (j : ℕ) → a * 8 ≤ j → j < b * 8 → bit_of out j ≡ g j
  pub before : (j : ℕ) → j < a * 8 → bit_of out j ≡ bit_of was j
  pub behind : (j : ℕ) → b * 8 ≤ j → bit_of out j ≡ bit_of was j
