use Rattle.leans.specs.Joined.{all_more}
use Rattle.quick.specs.Sureness.{Shadeless}
use Rattle.quick.specs.Hanging.{dark_row}
use Rattle.quick.proofs.pair.shaded.Goals as goal

pub loop-r-preserved : goal.loop-r-preserved
loop-r-preserved c = let a = c.args in let r = c.loop-r.r in let rb = c.row_bytes-rb in
    all_more (Shadeless a.w a.low.now a.up.now) a.from r c.loop-r.invariant
    (dark_row a.w rb.result r rb.ensures.0 a.low.now a.up.now (c.shaded.ensures c.if-shaded.false))
