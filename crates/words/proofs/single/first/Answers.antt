use lib.Count.{leading_le}
use Rattle.words.specs.SingleLaws.{first_bit}
use native.Mathlib.Omega.{arith}
use Rattle.words.proofs.single.first.Goals as goal

pub overflow_cast-result : goal.overflow_cast-result
overflow_cast-result c = omega (arith, leading_le 64 c.args.x)

pub returns : goal.returns
returns c = first_bit c.args.x c.requires c.ranges.x.fits
