use Rattle.words.specs.Words.{column}
use Rattle.words.proofs.rows.take.Goals as goal

pub returns : goal.returns
unfolding column
returns c = c.take_words.ensures
