use Rattle.std.proofs.Common.{◌+◌, get_or}
use Rattle.leans.specs.Joined.{gathered_more}
use Rattle.leans.proofs.marks.gather.Goals as goal

pub loop-j-preserved : goal.loop-j-preserved
loop-j-preserved c = gathered_more (λ k. get_or c.args.rings.now (c.args.x + k) 0) c.loop-j.j c.loop-j.all c.loop-j.invariant
