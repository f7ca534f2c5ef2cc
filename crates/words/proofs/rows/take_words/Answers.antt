use Rattle.words.specs.RowLaws.{row_taken}
use Rattle.words.proofs.rows.take_words.Goals as goal

pub returns : goal.returns
returns c = row_taken _ _ _ _ _ _ _ _ _ _ _ c.requires.0 c.take_word.ensures c.take_word-2.ensures c.take_word-3.ensures c.take_word-4.ensures
