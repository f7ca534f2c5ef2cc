use Rattle.kitegimlet.specs.Outcomes.{clean_packed}
use borrow.Author.Rules.{rules}
use Rattle.kitegimlet.proofs.kg_clean.Goals as goal

pub returns : goal.returns
returns c = clean_packed _ _ _ _ _ _ _ _ _ _ _ _ c.settings-s.ensures c.clean.ensures c.pack_planned.ensures
