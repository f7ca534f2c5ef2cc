use mathlib.Core.Path.{◌≡◌}
use mathlib.Core.Bool.{not, ◌&&◌}
use lib.ListN.{length}
use Rattle.image.specs.Filling.{filling_none, filling_more, filling_all}
use Rattle.image.specs.Scratch.{bit_of}
use Rattle.posts.specs.LayerLaws.{from_byte}
use native.Mathlib.Omega.{arith}
use Rattle.posts.proofs.layer.carry.Goals as goal

pub loop-i-init : goal.loop-i-init
loop-i-init c = (omega arith, filling_none _ _ _)

pub bounds-above-i : goal.bounds-above-i
bounds-above-i c = omega (arith, c.loop-i-test.true, c.requires, c.loop-i.invariant.1.long)

pub bounds-low-i : goal.bounds-low-i
bounds-low-i c = omega (arith, c.loop-i-test.true, c.requires, c.loop-i.invariant.1.long)

pub bounds-out-i : goal.bounds-out-i
bounds-out-i c = omega (arith, c.loop-i-test.true)

pub overflow_add-i : goal.overflow_add-i
overflow_add-i c = omega (arith, c.loop-i-test.true)

pub loop-i-smaller : goal.loop-i-smaller
loop-i-smaller c = omega (arith, c.loop-i-test.true, c.loop-i.invariant.1.long)

pub loop-i-preserved : goal.loop-i-preserved
loop-i-preserved c = let A = c.args in
    let L = c.loop-i in (
      omega (arith, c.loop-i-test.true, L.invariant.1.long),
      filling_more 0 L.i _ (λ j. bit_of A.above.now j && not (bit_of A.low.now j)) L.out A.out.now (omega arith) (omega (arith, c.loop-i-test.true)) L.invariant.1
          (from_byte A.above.now A.low.now L.i (c.type_inv.low L.i).fits),
    )

pub shape_of-out : goal.shape_of-out
shape_of-out c = c.loop-i.invariant.1.long

pub returns : goal.returns
returns c = let A = c.args in
    let L = c.loop-i in
    let e : L.i ≡ length A.out.now = omega (arith, c.loop-i-test.false, L.invariant.0, L.invariant.1.long) in
    let W = filling_all _ _ _ _ _ (rw e at L.invariant.1) in
    λ j lj. W.inner j (omega arith) lj
