-- The bits of a list of bytes, numbered through.
use Rattle.std.specs.Prelude.{Bool, List, ℕ, ◌/◌, ◌%◌, get_or}
use Rattle.rules.specs.Images.{bit_at}

-- bit j of the bytes l
unfoldable pub bit_of : List ℕ → ℕ → Bool
bit_of l j = bit_at (get_or l (j / 8) 0) (j % 8)
