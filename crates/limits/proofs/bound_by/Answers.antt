use mathlib.Core.Path.{◌≡◌, refl, ap}
use Prim.Native.Nat.{ℕ, ◌*◌, ◌/◌, ◌<◌}
use native.Mathlib.Nat.{mul-le-mul, mul-pos}
use native.Mathlib.Omega.{arith}
use Rattle.rules.specs.Reach as rule
use Rattle.rules.specs.declared.Bound.{Bound}
use Rattle.laws.specs.Limits.{bound_by_most}
use Rattle.limits.proofs.bound_by.Goals as goal

abbrev bound : ℕ → Bound
bound x = record { 0 = x }

pub overflow_mul-q : goal.overflow_mul-q
unfolding rule.bound_by rule.square
overflow_mul-q c = omega (arith, mul-le-mul c.requires.overhang_high c.requires.overhang_high)

pub overflow_mul-q-2 : goal.overflow_mul-q-2
unfolding rule.bound_by rule.square
overflow_mul-q-2 c = omega (arith, mul-le-mul c.requires.pitch_high c.requires.pitch_high)

pub nonzero_div-q : goal.nonzero_div-q
unfolding rule.bound_by rule.square
nonzero_div-q c = let l : 0 < c.args.pitch.0 = omega (arith, c.requires.pitch_low) in mul-pos l l

pub overflow_cast-q : goal.overflow_cast-q
unfolding rule.bound_by rule.square
overflow_cast-q c = omega (arith, bound_by_most c.args.pitch c.args.overhang c.requires)

pub returns-then-q-ge1088 : goal.returns-then-q-ge1088
unfolding rule.square rule.bound_by
returns-then-q-ge1088 c = let A = c.args in
    let e : 1088 ≡ A.overhang.0 * A.overhang.0 / (A.pitch.0 * A.pitch.0) = omega (arith, c.if-q-ge1088.true, bound_by_most A.pitch A.overhang c.requires) in (ap bound e, omega arith)

pub returns : goal.returns
unfolding rule.bound_by rule.square
returns c = (refl, bound_by_most c.args.pitch c.args.overhang c.requires)
