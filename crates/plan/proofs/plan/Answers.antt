use Rattle.plan.specs.CallLaws.{seven, refused_plans, done_plans}
use Rattle.plan.proofs.plan.Goals as goal

pub with_part_row-requires : goal.with_part_row-requires
with_part_row-requires c = seven _ _ _ _ _ _ _ c.fill-number.ensures

pub returns-then-number-ne0 : goal.returns-then-number-ne0
returns-then-number-ne0 c = refused_plans _ _ _ _ _ _ _ c.fill-number.ensures c.if-number-ne0.true _ c.with_part_row.ensures

pub returns : goal.returns
returns c = done_plans _ _ _ _ _ _ _ c.fill-number.ensures c.if-number-ne0.false
