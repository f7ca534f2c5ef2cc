use Rattle.sweeps.specs.MarkLaws.{lit}
use Rattle.sweeps.proofs.marks.set_bit.Goals as goal

pub returns : goal.returns
returns c = lit _ _ _ _ c.requires.0 (c.slice_known-1.given _).fits c.requires.1 c.bit.ensures
