use Rattle.rules.specs.Images.{bit_at}
use Rattle.rules.specs.Tools.{bit}
use lib.ListN.{length, get_or}
use Prim.Native.Nat.{ℕ, ◌≤◌, ◌<◌, ◌-◌, ◌/◌, ◌%◌}
use mathlib.Core.Path.{◌≡◌}
use Rattle.words.proofs.ones.fill.Given as goal

abbrev pub invariant-loop-i : goal.invariant-loop-i
invariant-loop-i l = (length l.ones ≡ 2048) × (l.i ≤ 2048) × ((k : ℕ) → k < l.i → get_or l.ones k 0 ≡ bit (bit_at (k / 8) (k % 8)))

abbrev pub decreases-loop-i : goal.decreases-loop-i
decreases-loop-i l = 2048 - l.i
