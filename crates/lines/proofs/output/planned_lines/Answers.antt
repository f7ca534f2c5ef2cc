use Rattle.lines.specs.Printed.{planned_whole, planned_printed}
use Rattle.lines.proofs.output.planned_lines.Goals as goal

pub job_lines-requires : goal.job_lines-requires
job_lines-requires c = let pre = c.requires in
    (planned_whole _ _ _ _ pre.0 _ _ _ c.plan.ensures pre.1.0.settings pre.1.0.long, pre.1.1)

pub returns : goal.returns
returns c = planned_printed _ _ _ _ c.requires.0 _ _ _ _ _ _ c.plan.ensures c.requires.1.1 c.job_lines.ensures
