use Rattle.words.specs.SingleLaws.{last_bit_lem, trailing_lt}
use lib.Count.{trailing_le}
use native.Mathlib.Omega.{arith}
use Rattle.words.proofs.single.last.Goals as goal

pub overflow_cast-result : goal.overflow_cast-result
overflow_cast-result c = omega (arith, trailing_le 64 c.args.x)

pub overflow_sub-result : goal.overflow_sub-result
overflow_sub-result c = omega (arith, trailing_lt 64 c.args.x c.requires c.ranges.x.fits)

pub returns : goal.returns
returns c = last_bit_lem c.args.x c.requires c.ranges.x.fits
