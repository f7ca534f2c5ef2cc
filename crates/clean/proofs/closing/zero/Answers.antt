use mathlib.Core.Path.{refl, ◌∙◌}
use lib.ListN.{length-set}
use Rattle.clean.specs.StretchLaws.{zero_more, zero_all}
use native.Mathlib.Omega.{arith}
use Rattle.clean.proofs.closing.zero.Goals as goal

pub loop-i-init : goal.loop-i-init
loop-i-init c = (omega arith, refl, λ k l. absurd (omega arith))

pub loop-i-smaller : goal.loop-i-smaller
loop-i-smaller c = omega (arith, c.loop-i-test.true, c.loop-i.invariant.1)

pub loop-i-preserved : goal.loop-i-preserved
loop-i-preserved c = (omega (arith, c.loop-i-test.true, c.loop-i.invariant.1), length-set c.loop-i.s c.loop-i.i 0 ∙ c.loop-i.invariant.1, zero_more c.loop-i.s c.loop-i.i (omega (arith, c.loop-i-test.true)) c.loop-i.invariant.2)

pub shape_of-s : goal.shape_of-s
shape_of-s c = c.loop-i.invariant.1

pub returns : goal.returns
returns c = zero_all c.loop-i.s (λ k l. c.loop-i.invariant.2 k (omega (arith, c.loop-i-test.false)))
