use Rattle.words.specs.RowLaws.{row_laid}
use Rattle.words.proofs.rows.lay_words.Goals as goal

pub returns : goal.returns
returns c = row_laid _ _ _ _ _ _ _ _ _ _ _ c.requires.0 c.lay_word.ensures c.lay_word-2.ensures c.lay_word-3.ensures c.lay_word-4.ensures
