use mathlib.Core.Path.{ap₂}
use Prim.Native.Nat.{ℕ, ◌+◌, ◌*◌}
use native.Mathlib.Nat.{mul-le-mul}
use Rattle.rules.specs.Jobs.{support_end}
use Rattle.laws.specs.Limits.{ranged}
use native.Mathlib.Omega.{arith}
use Rattle.sections.proofs.sizes.support_end.Goals as goal

pub row_bytes-requires : goal.row_bytes-requires
row_bytes-requires c = (ranged c.args.s c.requires.0).w_high

pub overflow_mul-result : goal.overflow_mul-result
overflow_mul-result c = omega (arith, mul-le-mul c.requires.1 c.row_bytes.ensures.1)

pub overflow_add-result-2 : goal.overflow_add-result-2
overflow_add-result-2 c = omega (arith, mul-le-mul c.requires.1 c.row_bytes.ensures.1)

pub returns : goal.returns
unfolding support_end
returns c = (
  ap₂ (λ (a b : ℕ). a + 4 + c.args.c * b) c.part_end.ensures.0 c.row_bytes.ensures.0,
  omega
      (arith, mul-le-mul c.requires.1 c.row_bytes.ensures.1),
)
