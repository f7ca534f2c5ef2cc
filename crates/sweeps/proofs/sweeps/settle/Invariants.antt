use Rattle.sweeps.specs.Marks.{SweepPlanes, Onward}
use Rattle.sweeps.specs.Rings.{sum_by, level}
use Rattle.sweeps.proofs.sweeps.settle.Given as goal

abbrev pub invariant-loop-ring : goal.invariant-loop-ring
invariant-loop-ring l = SweepPlanes l.w l.h l.ring l.marks l.got l.cand × Onward l.w l.h l.ring l.initial.ring l.marks l.front l.got l.initial.got l.cand

abbrev pub decreases-loop-ring : goal.decreases-loop-ring
decreases-loop-ring l = sum_by level l.ring
