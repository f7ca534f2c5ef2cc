use Prim.Native.Nat.{◌-◌, ◌≤◌}
use Rattle.pair.specs.ExcuseLaws.{ExcusedTo}
use Rattle.pair.proofs.rows.excuse.Given as goal

abbrev pub invariant-loop-y : goal.invariant-loop-y
invariant-loop-y l = (l.y ≤ l.h) × ExcusedTo l.n l.y l.got l.initial.out l.out

abbrev pub decreases-loop-y : goal.decreases-loop-y
decreases-loop-y l = l.h - l.y
