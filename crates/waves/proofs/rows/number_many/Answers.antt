use Rattle.words.specs.Words.{column}
use Rattle.waves.specs.RowLaws.{four_numbers}
use native.Mathlib.Omega.{arith}
use Rattle.waves.proofs.rows.number_many.Goals as goal

pub eights-requires : goal.eights-requires
eights-requires c = (omega (arith, c.requires.0), c.requires.1)

pub eights-requires-2 : goal.eights-requires-2
eights-requires-2 c = (omega (arith, c.requires.0, c.eights.auto.l), c.requires.1)

pub eights-requires-3 : goal.eights-requires-3
eights-requires-3 c = (omega (arith, c.requires.0, c.eights.auto.l, c.eights-2.auto.l), c.requires.1)

pub eights-requires-4 : goal.eights-requires-4
eights-requires-4 c = (omega (arith, c.requires.0, c.eights.auto.l, c.eights-2.auto.l, c.eights-3.auto.l), c.requires.1)

pub returns : goal.returns
unfolding column
returns c = four_numbers _ _ _ _ _ _ _ _ _ _ _ c.eights.ensures c.eights-2.ensures c.eights-3.ensures c.eights-4.ensures
