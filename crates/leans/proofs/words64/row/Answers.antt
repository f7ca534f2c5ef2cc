use Rattle.std.proofs.Common.{arith}
use Rattle.leans.specs.Joined.{lined_more, row_held}
use Rattle.leans.proofs.words64.row.Goals as goal

pub loop-i-preserved : goal.loop-i-preserved
loop-i-preserved c = let a = c.args in let l = c.loop-i in let t = c.in_ok-t in (
  lined_more a.w a.h a.rings.now a.r l.i a.free.now a.first.now l.got l.most t.t t.ensures (omega arith) l.invariant.0,
  row_held a.w a.h a.rings.now a.r l.i a.hang.now _ _ l.bare t.t t.ensures (omega arith) l.invariant.1,
)
