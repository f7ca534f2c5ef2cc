use Rattle.words.specs.Words.{column}
use Rattle.posts.proofs.taking.put_two.Goals as goal

pub returns : goal.returns
unfolding column
returns c = c.put_words.ensures _ _
