-- Rules 2: pitch and overhang; reach and bound, the two numbers that are made of them; distances, discs and roots.
use Rattle.std.specs.Prelude.{Bool, ◌&&◌, ℕ, ◌+◌, ◌-◌, ◌*◌, ◌/◌, ◌%◌, leb}
use Rattle.rules.specs.Tools.{largest}
use Rattle.rules.specs.Images.{within}
use Rattle.rules.specs.declared.Micrometres.{Micrometres}
use Rattle.rules.specs.declared.Pixels.{Pixels}
use Rattle.rules.specs.declared.Bound.{Bound}
use Rattle.rules.specs.declared.Settings.{Settings}

-- Rule 2.1: a pitch from 10 to 1,000 micrometres, an overhang up to 10,000
unfoldable pub settable : Micrometres → Micrometres → Bool
settable p t = within 10 1000 p.0 && leb t.0 10000

-- Rule 2.2: the overhang in whole pixels
unfoldable pub reach_of : Micrometres → Micrometres → Pixels
reach_of p t = record { 0 = t.0 / p.0 }

-- Rule 2.2: the largest reach
abbrev pub most_reach : ℕ
most_reach = 32

unfoldable pub square : ℕ → ℕ
square x = x * x

-- Rule 2.3, "squared pixel distance at most t²/p² rounded down": the squares are divided, so that the bound can be more than the reach squared
unfoldable pub bound_by : Micrometres → Micrometres → Bound
bound_by p t = record { 0 = square t.0 / square p.0 }

-- Rule 2.3: the bound for pair i, the same for every pair
unfoldable pub bound_of : Settings → ℕ → ℕ
bound_of s i = (bound_by s.pitch s.overhang).0

-- Rules 2.2 and 2.3: the largest bound ("R stays .. in refusal 3, so the new bound can be 1,088"), and how many rows of a disc there are at most
-- from its middle on
abbrev pub most_bound : ℕ
most_bound = 1088

abbrev pub most_rows : ℕ
most_rows = 33

-- Rule 2.3: the difference of two rows or columns, and the squared distance of two pixels
unfoldable pub apart : ℕ → ℕ → ℕ
apart a b = (a - b) + (b - a)

unfoldable pub distance² : ℕ → ℕ → ℕ → ℕ
distance² w p o = square (apart (p / w) (o / w)) + square (apart (p % w) (o % w))

-- Rule 2.4: the largest whole number whose square is at most m
unfoldable pub root : ℕ → ℕ
root m = largest m λ r. leb (square r) m

-- Rule 2.4: how far a disc runs to each side in a row d away from its middle, for the bound q, where d² is at most q
unfoldable pub half_width : ℕ → ℕ → ℕ
half_width q d = root (q - square d)
