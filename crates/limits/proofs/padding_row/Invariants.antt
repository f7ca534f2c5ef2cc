use Prim.Native.Nat.{◌-◌, ◌≤◌}
use mathlib.Core.Path.{◌≡◌}
use mathlib.Core.Bool.{false}
use Rattle.rules.specs.Images.{padding_set}
use Rattle.limits.proofs.padding_row.Given as goal

abbrev pub invariant-loop-row : goal.invariant-loop-row
invariant-loop-row l = (l.row ≤ l.k) × (padding_set l.w l.row l.s ≡ false)

abbrev pub decreases-loop-row : goal.decreases-loop-row
decreases-loop-row l = l.k - l.row
