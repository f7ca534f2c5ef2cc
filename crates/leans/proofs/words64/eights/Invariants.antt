use Rattle.leans.specs.Joined.{Upto}
use Rattle.leans.proofs.words64.eights.Given as goal

abbrev pub invariant-loop-b : goal.invariant-loop-b
invariant-loop-b l = Upto l.w l.h l.rings l.r l.x l.free l.first l.b l.got l.most
