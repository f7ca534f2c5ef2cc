use Rattle.words.specs.SingleLaws.{one_bit}
use Rattle.words.proofs.single.bit.Goals as goal

pub returns : goal.returns
returns c = one_bit c.args.k c.requires
