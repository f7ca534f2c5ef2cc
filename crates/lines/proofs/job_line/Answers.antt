use Rattle.lines.specs.Lines.{job_is, job_long, wrote_front}
use native.Mathlib.Omega.{arith}
use Rattle.lines.proofs.job_line.Goals as goal

pub first_line-requires : goal.first_line-requires
first_line-requires c = omega (arith, job_long c.args.s _ c.reach_of-reach.ensures)

pub returns : goal.returns
returns c = wrote_front c.first_line.ensures (job_is c.args.s _ c.reach_of-reach.ensures)
