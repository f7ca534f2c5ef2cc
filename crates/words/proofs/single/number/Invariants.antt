use Rattle.words.specs.SingleLaws.{Numbering}
use Rattle.words.proofs.single.number.Given as goal

abbrev pub invariant-loop-left : goal.invariant-loop-left
invariant-loop-left l = Numbering l.x l.m l.v l.left l.initial.l l.l

abbrev pub decreases-loop-left : goal.decreases-loop-left
decreases-loop-left l = l.left
