use native.Mathlib.Nat.{div-le_self}
use Rattle.rules.specs.Reach as rule
use native.Mathlib.Omega.{arith}
use Rattle.limits.proofs.reach_of.Goals as goal

pub overflow_cast-result : goal.overflow_cast-result
overflow_cast-result c = omega (arith, div-le_self c.args.overhang.0 c.args.pitch.0)

pub returns : goal.returns
unfolding rule.reach_of
returns c = cc
