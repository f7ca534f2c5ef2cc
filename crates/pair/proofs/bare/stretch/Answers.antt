use mathlib.Core.Path.{refl, ◌∙◌}
use lib.ListN.{length-set}
use Rattle.pair.specs.BareLaws.{stretch_more}
use native.Mathlib.Omega.{arith}
use Rattle.pair.proofs.bare.stretch.Goals as goal

pub loop-i-init : goal.loop-i-init
loop-i-init c = (refl, omega arith, ((λ p z. z), λ p x y. absurd (omega arith)))

pub overflow_add-ring : goal.overflow_add-ring
overflow_add-ring c = omega (arith, c.loop-i-test.true, c.requires, c.well_formed)

pub bounds-ring-at : goal.bounds-ring-at
bounds-ring-at c = omega (arith, c.loop-i-test.true, c.requires, c.loop-i.invariant.0)

pub loop-i-smaller : goal.loop-i-smaller
loop-i-smaller c = omega (arith, c.loop-i-test.true)

pub loop-i-preserved : goal.loop-i-preserved
loop-i-preserved c = let L = c.loop-i in (
  length-set L.ring _ 0 ∙ L.invariant.0,
  omega (arith, c.loop-i-test.true),
  stretch_more _ L.i c.args.ring.now L.ring (omega (arith, c.loop-i-test.true, c.requires, L.invariant.0)) L.invariant.2,
)

pub shape_of-ring : goal.shape_of-ring
shape_of-ring c = c.loop-i.invariant.0

pub returns : goal.returns
returns c = let L = c.loop-i in (L.invariant.2.0, λ p lo hi. L.invariant.2.1 p lo (omega (arith, c.loop-i-test.false)))
