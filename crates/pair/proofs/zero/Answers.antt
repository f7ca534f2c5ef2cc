use mathlib.Core.Path.{◌≡◌, refl, ◌∙◌}
use native.Mathlib.Omega.{arith}
use lib.ListN.{length-set}
use Rattle.image.specs.Bits.{stored_more}
use Rattle.pair.proofs.zero.Goals as goal

pub loop-i-init : goal.loop-i-init
loop-i-init c = (refl, omega arith, λ k l. absurd (omega arith))

pub loop-i-smaller : goal.loop-i-smaller
loop-i-smaller c = let L = c.loop-i in omega (arith, c.loop-i-test.true, L.invariant.0)

pub loop-i-preserved : goal.loop-i-preserved
loop-i-preserved c = let L = c.loop-i in (
  length-set L.ring L.i 0
      ∙ L.invariant.0,
  omega (arith, c.loop-i-test.true, L.invariant.0),
  stored_more (λ k o. o ≡ 0) L.ring L.i 0 c.loop-i-test.true L.invariant.2 refl,
)

pub shape_of-ring : goal.shape_of-ring
shape_of-ring c = c.loop-i.invariant.0

pub returns : goal.returns
returns c = λ p l. c.loop-i.invariant.2 p (omega (arith, c.loop-i-test.false, c.loop-i.invariant.0))
