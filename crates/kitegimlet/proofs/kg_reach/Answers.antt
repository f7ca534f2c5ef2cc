use Rattle.kitegimlet.specs.Outcomes.{reach_packed}
use Rattle.kitegimlet.proofs.kg_reach.Goals as goal

pub returns : goal.returns
returns c = reach_packed _ _ _ _ c.reach.ensures c.pack_reached.ensures
