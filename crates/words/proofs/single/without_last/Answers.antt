use Rattle.words.specs.SingleLaws.{without_last_lem}
use Rattle.words.proofs.single.without_last.Goals as goal

pub returns : goal.returns
returns c = without_last_lem c.args.x c.requires c.ranges.x.fits
