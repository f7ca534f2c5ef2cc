use Rattle.sweeps.specs.TellLaws.{TellingWord}
use Rattle.sweeps.proofs.visits.tell.Given as goal

abbrev pub invariant-loop-left : goal.invariant-loop-left
invariant-loop-left l = TellingWord l.i l.mask l.x l.less l.v l.cand l.left l.initial.ring l.initial.marks l.initial.got l.ring l.marks l.got

abbrev pub decreases-loop-left : goal.decreases-loop-left
decreases-loop-left l = l.left
