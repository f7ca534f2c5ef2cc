use Rattle.kitegimlet.specs.Outcomes.{copy_packed}
use Rattle.kitegimlet.proofs.kg_copy_rings.Goals as goal

pub returns : goal.returns
returns c = copy_packed _ _ _ _ _ c.copy_rings.ensures c.pack_copied.ensures
