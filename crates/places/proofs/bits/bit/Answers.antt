use Rattle.std.proofs.Common.{◌≡◌, ◌-◌, ◌/◌, ◌^◌, arith}
use Rattle.rules.specs.Images.{bit_at}
use Rattle.places.proofs.bits.bit.Goals as goal

pub returns : goal.returns
unfolding bit_at
returns c = let shifted : c.args.m / 2 ^ (7 - c.args.k) / 1 ≡ c.args.m / 2 ^ (7 - c.args.k) = omega arith in rw (c.from.ensures, shifted) at c.digit.ensures
