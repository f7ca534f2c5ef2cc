use mathlib.Core.Path.{refl, ◌∙◌}
use Rattle.words.specs.Words.{column}
use Rattle.waves.specs.RowLaws.{word_room, four_numbers}
use native.Mathlib.Omega.{arith}
use Rattle.waves.proofs.rows.number_few.Goals as goal

pub number-requires : goal.number-requires
unfolding column
number-requires c = λ k l on. let z = word_room _ _ _ _ _ _ _ 0 _ (refl, omega arith) c.requires.0 refl k l on in omega arith

pub number-requires-2 : goal.number-requires-2
unfolding column
number-requires-2 c = word_room _ _ _ _ _ _ _ 1 _ (refl, omega arith) c.requires.0 c.number.auto.l

pub number-requires-3 : goal.number-requires-3
unfolding column
number-requires-3 c = word_room _ _ _ _ _ _ _ 2 _ (refl, omega arith) c.requires.0 (c.number-2.auto.l ∙ c.number.auto.l)

pub number-requires-4 : goal.number-requires-4
unfolding column
number-requires-4 c = word_room _ _ _ _ _ _ _ 3 _ (refl, omega arith) c.requires.0 (c.number-3.auto.l ∙ c.number-2.auto.l ∙ c.number.auto.l)

pub returns : goal.returns
unfolding column
returns c = four_numbers _ _ _ _ _ _ _ _ _ _ _ c.number.ensures c.number-2.ensures c.number-3.ensures c.number-4.ensures
