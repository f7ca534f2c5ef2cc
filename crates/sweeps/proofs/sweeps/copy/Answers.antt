use Rattle.std.proofs.Common.{refl, ◌∙◌, arith, length-set, ext_get_or}
use Rattle.sweeps.specs.SweepLaws.{copy_more}
use Rattle.sweeps.proofs.sweeps.copy.Goals as goal

pub loop-i-init : goal.loop-i-init
loop-i-init c = (omega arith, refl, λ k l. absurd (omega arith))

pub bounds-p-i : goal.bounds-p-i
bounds-p-i c = omega (arith, c.loop-i-test.true, c.loop-i.invariant.1, c.requires)

pub loop-i-smaller : goal.loop-i-smaller
loop-i-smaller c = omega (arith, c.loop-i-test.true, c.loop-i.invariant.1)

pub loop-i-preserved : goal.loop-i-preserved
loop-i-preserved c = let L = c.loop-i in
    let l = c.loop-i-test.true in
    (omega (arith, L.invariant.1), length-set L.to L.i _ ∙ L.invariant.1, copy_more c.args.p.now L.to L.i l L.invariant.2)

pub shape_of-to : goal.shape_of-to
shape_of-to c = c.loop-i.invariant.1

pub returns : goal.returns
returns c = let L = c.loop-i in
    ext_get_or 0 L.to c.args.p.now (L.invariant.1 ∙ c.requires) (λ k l. L.invariant.2 k (omega (arith, c.loop-i-test.false)))
