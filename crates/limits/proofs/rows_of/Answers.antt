use mathlib.Core.Path.{refl}
use Rattle.rules.specs.Images.{rows_of}
use Rattle.laws.specs.Limits.{ranged, rows_most}
use native.Mathlib.Omega.{arith}
use Rattle.limits.proofs.rows_of.Goals as goal

pub overflow_mul-result : goal.overflow_mul-result
unfolding rows_of
overflow_mul-result c = omega (arith, rows_most c.args.s (ranged c.args.s c.requires))

pub returns : goal.returns
unfolding rows_of
returns c = (refl, rows_most c.args.s (ranged c.args.s c.requires))
