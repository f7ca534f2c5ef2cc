use mathlib.Core.Path.{refl, ◌∙◌}
use lib.ListN.{length-set}
use lib.Seq.{ext_get_or}
use Rattle.plan.specs.StackLaws.{put_more}
use native.Mathlib.Omega.{arith}
use Rattle.plan.proofs.stack.put.Goals as goal

pub loop-i-init : goal.loop-i-init
loop-i-init c = (refl, omega arith, λ k x. absurd (omega arith))

pub bounds-to-i : goal.bounds-to-i
bounds-to-i c = omega (arith, c.loop-i-test.true, c.loop-i.invariant.0, c.requires)

pub loop-i-smaller : goal.loop-i-smaller
loop-i-smaller c = omega (arith, c.loop-i-test.true)

pub loop-i-preserved : goal.loop-i-preserved
loop-i-preserved c = let A = c.args in
    let L = c.loop-i in (
      length-set L.to L.i _ ∙ L.invariant.0,
      omega (arith, c.loop-i-test.true),
      put_more L.to A.from.now L.i (omega (arith, c.loop-i-test.true, L.invariant.0, c.requires))
          L.invariant.2,
    )

pub shape_of-to : goal.shape_of-to
shape_of-to c = c.loop-i.invariant.0

pub returns : goal.returns
returns c = let L = c.loop-i in
    ext_get_or 0 L.to c.args.from.now (L.invariant.0 ∙ c.requires) (λ k lk. L.invariant.2 k (omega (arith, c.loop-i-test.false, L.invariant.0, c.requires)))
