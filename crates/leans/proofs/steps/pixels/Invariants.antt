use Rattle.leans.specs.Leaning.{Tells}
use Rattle.leans.proofs.steps.pixels.Given as goal

abbrev pub invariant-loop-k : goal.invariant-loop-k
invariant-loop-k l = Tells l.w l.h l.rings l.r l.x l.from l.k l.free l.first (record { got = l.got; most = l.most })
