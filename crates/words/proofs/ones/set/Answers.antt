use lib.Bits.{and_mask}
use Rattle.rules.specs.Images.{bit_at}
use Rattle.words.proofs.ones.set.Goals as goal

pub returns : goal.returns
unfolding bit_at
returns c = rw (and_mask _ 1)
