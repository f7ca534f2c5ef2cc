use Rattle.posts.specs.TwoLaws.{two_words}
use Rattle.posts.proofs.taking.word_of.Goals as goal

pub returns : goal.returns
returns c = two_words _ _ _ c.requires c.less.ensures c.lesser.ensures
