use mathlib.Core.Path.{◌≡◌}
use mathlib.Core.Bool.{not, ◌&&◌, ◌||◌}
use lib.ListN.{length}
use Rattle.image.specs.Filling.{filling_none, filling_more, filling_all}
use Rattle.image.specs.Scratch.{bit_of}
use Rattle.posts.specs.LayerLaws.{join_byte}
use native.Mathlib.Omega.{arith}
use Rattle.posts.proofs.layer.join.Goals as goal

pub loop-i-init : goal.loop-i-init
loop-i-init c = (omega arith, filling_none _ _ _)

pub bounds-s-i : goal.bounds-s-i
bounds-s-i c = omega (arith, c.loop-i-test.true, c.requires, c.loop-i.invariant.1.long)

pub bounds-up-i : goal.bounds-up-i
bounds-up-i c = omega (arith, c.loop-i-test.true, c.requires, c.loop-i.invariant.1.long)

pub bounds-above-i : goal.bounds-above-i
bounds-above-i c = omega (arith, c.loop-i-test.true, c.requires, c.loop-i.invariant.1.long)

pub bounds-low-i : goal.bounds-low-i
bounds-low-i c = omega (arith, c.loop-i-test.true, c.requires, c.loop-i.invariant.1.long)

pub bounds-to-i : goal.bounds-to-i
bounds-to-i c = omega (arith, c.loop-i-test.true)

pub overflow_add-i : goal.overflow_add-i
overflow_add-i c = omega (arith, c.loop-i-test.true)

pub loop-i-smaller : goal.loop-i-smaller
loop-i-smaller c = omega (arith, c.loop-i-test.true, c.loop-i.invariant.1.long)

pub loop-i-preserved : goal.loop-i-preserved
loop-i-preserved c = let A = c.args in
    let L = c.loop-i in (
      omega (arith, c.loop-i-test.true, L.invariant.1.long),
      filling_more 0 L.i _ (λ j. (bit_of A.s.now j && bit_of A.up.now j) || (bit_of A.above.now j && not (bit_of A.low.now j))) L.to A.to.now (omega arith) (omega (arith, c.loop-i-test.true)) L.invariant.1
          (join_byte A.s.now A.up.now A.above.now A.low.now L.i (c.type_inv.low L.i).fits),
    )

pub shape_of-to : goal.shape_of-to
shape_of-to c = c.loop-i.invariant.1.long

pub returns : goal.returns
returns c = let A = c.args in
    let L = c.loop-i in
    let e : L.i ≡ length A.to.now = omega (arith, c.loop-i-test.false, L.invariant.0, L.invariant.1.long) in
    let W = filling_all _ _ _ _ _ (rw e at L.invariant.1) in
    λ j lj. W.inner j (omega arith) lj
