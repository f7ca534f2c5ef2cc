use Prim.Native.Nat.{◌-◌, ◌≤◌}
use Rattle.lines.specs.Whole.{LinesSoFar}
use Rattle.lines.proofs.layer_lines.Given as goal

abbrev pub invariant-loop-k : goal.invariant-loop-k
invariant-loop-k l = (l.k ≤ l.n) × LinesSoFar l.s l.part l.support l.rings l.initial.out l.out l.start l.at l.k

abbrev pub decreases-loop-k : goal.decreases-loop-k
decreases-loop-k l = l.n - l.k
