use Rattle.words.specs.Words.{column}
use Rattle.words.proofs.rows.lay.Goals as goal

pub returns : goal.returns
unfolding column
returns c = c.lay_words.ensures
