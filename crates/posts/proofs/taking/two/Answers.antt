use Rattle.words.specs.Words.{column}
use Rattle.posts.specs.TwoLaws.{two_got}
use Rattle.posts.proofs.taking.two.Goals as goal

pub returns : goal.returns
unfolding column
returns c = two_got _ _ (c.type_inv.l _).fits (c.type_inv.l _).fits
