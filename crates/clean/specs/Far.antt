-- What is far from a plane, row by row.
use Rattle.std.specs.Prelude.{◌≡◌, Bool, true, false, not, ◌&&◌, List, ℕ, ◌+◌, ◌*◌, ◌<◌, ◌≤◌, ltb}
use Rattle.rules.specs.Planning.{near}
use Rattle.planes.specs.Scratch.{seen, row_bit}
use Rattle.clean.specs.declared.Till.{Till}

-- what is known when the rows before k are looked at
pub record Ahead (w c k : ℕ) (from : List ℕ) (t : Till) : Type 0 where
  -- a row that is not reached by `some` has no pixel
  pub none : (r j : ℕ) → r < k → t.some ≤ r + c → row_bit from (r + 33) j ≡ false
  -- `full` is reached by a row that is full
  pub full : 0 < t.full → (r : ℕ) × (r < k) × (t.full ≡ r + c + 1) × ((j : ℕ) → j < w → row_bit from (r + 33) j ≡ true)

-- f has the pixels of row y of the image that are not near
abbrev pub FarRow : ℕ → ℕ → ℕ → ℕ → List ℕ → (ℕ → Bool) → Type 0
FarRow w h q y from f = (j : ℕ) → f j ≡ (ltb j w && not (near w h q (seen w from) (y * w + j)))
