use mathlib.Core.Path.{ap₂}
use Prim.Native.Nat.{◌*◌}
use native.Mathlib.Nat.{mul-le-mul}
use Rattle.rules.specs.Images.{stack_bytes}
use Rattle.laws.specs.Limits.{ranged}
use native.Mathlib.Omega.{arith}
use Rattle.limits.proofs.stack_bytes.Goals as goal

pub row_bytes-requires : goal.row_bytes-requires
row_bytes-requires c = (ranged c.args.s c.requires).w_high

pub overflow_mul-result : goal.overflow_mul-result
overflow_mul-result c = omega (arith, mul-le-mul c.rows_of.ensures.1 c.row_bytes.ensures.1)

pub returns : goal.returns
unfolding stack_bytes
returns c = (ap₂ ◌*◌ c.rows_of.ensures.0 c.row_bytes.ensures.0, mul-le-mul c.rows_of.ensures.1 c.row_bytes.ensures.1)
