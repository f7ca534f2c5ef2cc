-- Near by rows: what the rows up to d away from a row reach in it, with m columns still to be widened.
use Rattle.std.specs.Prelude.{◌≡◌, Bool, true, List, ℕ, ◌+◌, ◌*◌, ◌<◌, ◌≤◌}
use Rattle.rules.specs.Reach.{apart, half_width}
use Rattle.words.specs.Words.{word_bit}

-- column c of row k, and the pixel that reaches it
pub record Reaching (q k d m : ℕ) (low : List ℕ) (c : ℕ) : Type 0 where
  pub row : ℕ
  pub column : ℕ
  pub in_row : column < 256
  pub on : word_bit low (row * 320 + column) ≡ true
  pub down : row ≤ k + d
  pub up : k ≤ row + d
  pub within : apart c column + m ≤ half_width q (apart k row)

-- f has the columns that are reached, and no others
pub record NearTo (q k d m : ℕ) (low : List ℕ) (f : ℕ → Bool) : Type 0 where
  pub there : (c : ℕ) → c < 256 → Reaching q k d m low c → f c ≡ true
  pub back : (c : ℕ) → f c ≡ true → (c < 256) × Reaching q k d m low c
