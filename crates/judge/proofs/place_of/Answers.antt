use native.Mathlib.Omega.{arith}
use Prim.Native.Nat.{◌*◌}
use mathlib.Core.Path.{refl}
use Rattle.places.specs.Rows.{area_fit}
use Rattle.judge.specs.Verdicts.{area_pos, layer_most}
use Rattle.rules.specs.Judging.{place_of}
use Rattle.judge.proofs.place_of.Goals as goal

pub overflow_mul-result : goal.overflow_mul-result
overflow_mul-result c = omega (arith, area_fit _ _ c.requires.0)

pub nonzero_div-result : goal.nonzero_div-result
nonzero_div-result c = area_pos _ _ c.requires.0.h_low c.requires.0.w_low

pub overflow_add-result : goal.overflow_add-result
overflow_add-result c = omega (arith, layer_most c.args.x (c.args.h * c.args.w))

pub returns : goal.returns
unfolding place_of
returns c = refl
