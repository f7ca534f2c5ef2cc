use Rattle.kitegimlet.specs.Outcomes.{check_packed}
use borrow.Author.Rules.{rules}
use Rattle.kitegimlet.proofs.kg_check.Goals as goal

pub returns : goal.returns
returns c = check_packed _ _ _ _ _ _ _ c.settings-s.ensures c.judge.ensures c.pack_judged.ensures
