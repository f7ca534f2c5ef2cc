use mathlib.Core.Path.{refl}
use Rattle.rules.specs.Images.{rings_in}
use Rattle.laws.specs.Limits.{ranged, area_most, rings_most}
use native.Mathlib.Omega.{arith}
use Rattle.limits.proofs.rings_in.Goals as goal

pub overflow_sub-result : goal.overflow_sub-result
overflow_sub-result c = omega (arith, (ranged c.args.s c.requires).n_low)

pub overflow_mul-result : goal.overflow_mul-result
overflow_mul-result c = let A = c.args in let r = ranged A.s c.requires in omega (arith, area_most A.s.w A.s.h r.w_high r.h_high)

pub overflow_mul-result-2 : goal.overflow_mul-result-2
unfolding rings_in
overflow_mul-result-2 c = omega (arith, rings_most c.args.s (ranged c.args.s c.requires))

pub returns : goal.returns
unfolding rings_in
returns c = (refl, rings_most c.args.s (ranged c.args.s c.requires))
