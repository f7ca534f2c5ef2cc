-- The rows of a pair as they are found, from the last one up; what is excused, row by row; and scratch between pairs.
use Rattle.std.specs.Prelude.{◌≡◌, Bool, false, not, ◌&&◌, List, ◌⊎◌, ℕ, ◌+◌, ◌*◌, ◌/◌, ◌%◌, ◌<◌, ◌≤◌, length, get_or}
use Rattle.words.specs.Words.{word_bit, row_part}
use Rattle.rules.specs.Images.{row_bytes}
use Rattle.planes.specs.Scratch.{Ready, RowPut, Sizes, row_bit}

-- row y of a pair: its seeds, and its shadow, where there is some; r is the first row from y on that has shadow, if `last` is that from y + 1 on
pub record FoundRow (y n last r : ℕ) (low up left left' seed seed' : List ℕ) : Type 0 where
  pub seed_row : RowPut (y + 33) (λ c. row_part low (y * n) n c && row_part up (y * n) n c) seed seed'
  pub left_row : ((c : ℕ) → row_bit left (y + 33) c ≡ false) → RowPut (y + 33) (λ c. row_part up (y * n) n c && not (row_part low (y * n) n c)) left left'
  pub at : (r ≡ y) ⊎ ((r ≡ last) × ((c : ℕ) → (row_part up (y * n) n c && not (row_part low (y * n) n c)) ≡ false))

-- the bits of the rows from y on are g's, and all others are as they were
pub record Below (y : ℕ) (g : ℕ → Bool) (was now : List ℕ) : Type 0 where
  pub inner : (j : ℕ) → (y + 33) * 320 ≤ j → word_bit now j ≡ g j
  pub outer : (j : ℕ) → j < (y + 33) * 320 → word_bit now j ≡ word_bit was j

-- for each row from y on, ahead has the first row from there on that has a bit of g
pub record AheadFrom (h y : ℕ) (g : ℕ → Bool) (ahead : List ℕ) : Type 0 where
  pub on : (k : ℕ) → y ≤ k → k ≤ h → (k ≤ get_or ahead k 0) × (get_or ahead k 0 ≤ h)
  pub off : (k j : ℕ) → y ≤ k → k ≤ h → (k + 33) * 320 ≤ j → j < (get_or ahead k 0 + 33) * 320 → g j ≡ false

-- the bit of a plane in scratch that belongs to bit j of a packed plane of n bytes a row
unfoldable pub packed_bit : ℕ → List ℕ → ℕ → Bool
packed_bit n l j = word_bit l ((j / (n * 8) + 33) * 320 + j % (n * 8))

-- no bit is set
pub record Empty (l : List ℕ) : Type 0 where
  pub long : length l ≡ 1610
  pub none : (j : ℕ) → word_bit l j ≡ false

-- the sizes of an image, and the bytes of a row
pub record Sized (w h rb : ℕ) : Type 0 where
  pub sizes : Sizes w h
  pub bytes : rb ≡ row_bytes w

-- scratch between pairs: four planes are empty, the other two have no bits but pixels', and ahead has its length
pub record Spare (w h : ℕ) (left got front next seed lower ahead : List ℕ) : Type 0 where
  pub left_empty : Empty left
  pub got_empty : Empty got
  pub front_empty : Empty front
  pub next_empty : Empty next
  pub seed_ready : Ready w h seed
  pub lower_ready : Ready w h lower
  pub ahead_long : length ahead ≡ 257
