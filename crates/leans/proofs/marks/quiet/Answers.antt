use Rattle.std.proofs.Common.{◌*◌, ◌/◌, ◌%◌, arith, eqb-true}
use Rattle.leans.specs.Joined.{quiet_more}
use Rattle.leans.proofs.marks.quiet.Goals as goal

pub loop-k-preserved : goal.loop-k-preserved
loop-k-preserved c = let l = c.loop-k in
    λ e j h. quiet_more c.args.rings.now c.args.x (l.k * 256) 256 l.all _ l.invariant c.gather-all.ensures e j (omega arith)

pub returns : goal.returns
returns c = let l = c.loop-k in let n = c.args.n in
    λ e j h. quiet_more c.args.rings.now c.args.x (n / 256 * 256) (n % 256) l.all _ (λ z k b. l.invariant z k (omega arith)) c.gather.ensures (eqb-true _ 0 e) j (omega arith)
