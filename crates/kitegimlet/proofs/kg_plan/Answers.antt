use Rattle.kitegimlet.specs.Outcomes.{plan_packed}
use borrow.Author.Rules.{rules}
use Rattle.kitegimlet.proofs.kg_plan.Goals as goal

pub returns : goal.returns
returns c = plan_packed _ _ _ _ _ _ _ _ _ c.settings-s.ensures c.plan.ensures c.pack_planned.ensures
