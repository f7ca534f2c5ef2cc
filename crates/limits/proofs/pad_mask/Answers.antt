use Rattle.limits.proofs.Padding.{power_small}
use native.Mathlib.Omega.{arith}
use Rattle.limits.proofs.pad_mask.Goals as goal

pub overflow_sub-result : goal.overflow_sub-result
overflow_sub-result c = omega (arith, power_small c.args.pad c.requires)

pub returns : goal.returns
returns c = omega (arith, power_small c.args.pad c.requires)
