use mathlib.Core.Path.{◌≡◌}
use Prim.Native.Nat.{◌≤◌, ◌-◌}
use Rattle.clean.specs.StretchLaws.{SameTo, NoneTo}
use Rattle.clean.proofs.stack.compare.Given as goal

abbrev pub invariant-loop-i : goal.invariant-loop-i
invariant-loop-i l = (l.i ≤ l.size) × (l.other ≡ 0 → SameTo l.at l.size l.i l.s) × (l.all ≡ 0 → NoneTo l.at l.i l.s)

abbrev pub decreases-loop-i : goal.decreases-loop-i
decreases-loop-i l = l.size - l.i
