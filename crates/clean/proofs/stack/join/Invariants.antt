use Prim.Native.Nat.{◌≤◌, ◌+◌, ◌-◌}
use Rattle.image.specs.Filling.{Filling}
use Rattle.clean.specs.Layers.{joined_bit}
use Rattle.clean.proofs.stack.join.Given as goal

abbrev pub invariant-loop-i : goal.invariant-loop-i
invariant-loop-i l = (l.i ≤ l.size) × Filling l.at (l.at + l.i) (joined_bit l.at l.size l.part l.support l.wide l.initial.clean) l.clean l.initial.clean

abbrev pub decreases-loop-i : goal.decreases-loop-i
decreases-loop-i l = l.size - l.i
