use Rattle.words.specs.Words.{column}
use Rattle.words.proofs.rows.any.Goals as goal

pub returns : goal.returns
unfolding column
returns c = record { none = c.any_words.ensures.none; some = c.any_words.ensures.some }
