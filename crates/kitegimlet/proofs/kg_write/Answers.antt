use Rattle.kitegimlet.specs.Outcomes.{write_packed}
use Rattle.kitegimlet.proofs.kg_write.Goals as goal

pub returns : goal.returns
returns c = write_packed _ _ _ _ _ _ _ _ _ c.settings-s.ensures c.write.ensures c.pack_written.ensures
