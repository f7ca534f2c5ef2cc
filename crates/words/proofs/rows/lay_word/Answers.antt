use Rattle.words.specs.RowLaws.{none_laid}
use Rattle.words.proofs.rows.lay_word.Goals as goal

pub returns-then-x-eq0 : goal.returns-then-x-eq0
returns-then-x-eq0 c = none_laid _ _ _ _ _ c.if-x-eq0.true

pub returns : goal.returns
returns c = λ bare. c.write_word.ensures
