use Rattle.words.specs.Words.{column}
use Rattle.words.proofs.rows.wide.Goals as goal

pub returns : goal.returns
unfolding column
returns c = c.wide_words.ensures
