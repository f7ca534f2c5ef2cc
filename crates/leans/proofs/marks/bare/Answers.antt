use Rattle.leans.specs.RowLaws.{quiet_rows}
use Rattle.leans.proofs.marks.bare.Goals as goal

pub returns : goal.returns
returns c = let a = c.args in λ e. quiet_rows a.w a.a a.b a.rings.now (c.quiet.ensures e)
