use mathlib.Core.Path.{◌≡◌, subst}
use Prim.Native.Nat.{ℕ, ◌+◌}
use Rattle.image.specs.Filling.{Filling, filling_none}
use Rattle.clean.specs.Layers.{joined_bit}
use Rattle.clean.specs.StretchLaws.{join_more}
use native.Mathlib.Omega.{arith}
use Rattle.clean.proofs.stack.join.Goals as goal

pub loop-i-init : goal.loop-i-init
loop-i-init c = let z : c.args.at ≡ c.args.at + 0 = omega arith in
    (omega arith, subst (λ (k : ℕ). Filling c.args.at k (joined_bit c.args.at c.args.size c.args.part.now c.args.support.now c.args.wide.now c.args.clean.now) c.args.clean.now c.args.clean.now) z (filling_none c.args.at _ c.args.clean.now))

pub overflow_add-k : goal.overflow_add-k
overflow_add-k c = omega (arith, c.requires.0, c.loop-i-test.true)

pub overflow_add-up : goal.overflow_add-up
overflow_add-up c = omega (arith, c.requires.0, c.loop-i-test.true)

pub bounds-clean-up : goal.bounds-clean-up
bounds-clean-up c = omega (arith, c.requires.3, c.loop-i-test.true, c.loop-i.invariant.1.long)

pub bounds-wide-i : goal.bounds-wide-i
bounds-wide-i c = omega (arith, c.requires.2, c.loop-i-test.true)

pub bounds-part-k : goal.bounds-part-k
bounds-part-k c = omega (arith, c.requires.0, c.loop-i-test.true)

pub bounds-part-up : goal.bounds-part-up
bounds-part-up c = omega (arith, c.requires.0, c.loop-i-test.true)

pub bounds-support-k : goal.bounds-support-k
bounds-support-k c = omega (arith, c.requires.1, c.loop-i-test.true)

pub bounds-clean-k : goal.bounds-clean-k
bounds-clean-k c = omega (arith, c.requires.3, c.loop-i-test.true, c.loop-i.invariant.1.long)

pub overflow_add-i : goal.overflow_add-i
overflow_add-i c = omega (arith, c.requires.0, c.loop-i-test.true)

pub loop-i-smaller : goal.loop-i-smaller
loop-i-smaller c = omega (arith, c.loop-i-test.true)

pub loop-i-preserved : goal.loop-i-preserved
loop-i-preserved c = (
  omega (arith, c.loop-i-test.true),
  join_more _ _ _ _ _ _ _ _ (c.type_inv.part _).fits (c.type_inv.part _).fits (omega (arith, c.requires.3, c.loop-i-test.true, c.loop-i.invariant.1.long)) c.loop-i.invariant.1,
)

pub shape_of-clean : goal.shape_of-clean
shape_of-clean c = c.loop-i.invariant.1.long

pub returns : goal.returns
returns c = let z : c.args.at + c.loop-i.i ≡ c.args.at + c.args.size = omega (arith, c.loop-i.invariant.0, c.loop-i-test.false) in
    subst (λ (k : ℕ). Filling c.args.at k (joined_bit c.args.at c.args.size c.args.part.now c.args.support.now c.args.wide.now c.args.clean.now) c.loop-i.clean c.args.clean.now) z c.loop-i.invariant.1
