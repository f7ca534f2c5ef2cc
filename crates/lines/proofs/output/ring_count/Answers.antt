use mathlib.Core.Path.{refl}
use Rattle.rules.specs.Images.{rings_in}
use Rattle.lines.specs.Printed.{ring_product}
use native.Mathlib.Omega.{arith}
use Rattle.lines.proofs.output.ring_count.Goals as goal

pub overflow_mul-result : goal.overflow_mul-result
overflow_mul-result c = omega (arith, (ring_product c.args.s c.requires).0)

pub overflow_mul-result-2 : goal.overflow_mul-result-2
overflow_mul-result-2 c = omega (arith, (ring_product c.args.s c.requires).1)

pub returns : goal.returns
unfolding rings_in
returns c = refl
