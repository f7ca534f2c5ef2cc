use Rattle.std.proofs.Common.{◌-◌, ◌≤◌}
use Rattle.sweeps.specs.Marks.{SweepPlanes, Onward}
use Rattle.sweeps.specs.SweepLaws.{Swept}
use Rattle.sweeps.proofs.sweeps.sweep.Given as goal

abbrev pub invariant-loop-r : goal.invariant-loop-r
invariant-loop-r l = (l.r ≤ l.h) × SweepPlanes l.w l.h l.ring l.marks l.got l.cand
    × Swept l.up l.h l.r l.behind l.ring l.initial.ring l.marks × Onward l.w l.h l.ring l.initial.ring l.marks l.initial.marks l.got l.initial.got l.cand

abbrev pub decreases-loop-r : goal.decreases-loop-r
decreases-loop-r l = l.h - l.r
