use Rattle.words.specs.Words.{column}
use Rattle.words.proofs.rows.put.Goals as goal

pub returns : goal.returns
unfolding column
returns c = c.put_words.ensures
