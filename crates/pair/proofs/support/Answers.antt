use mathlib.Core.Path.{◌≡◌, subst}
use mathlib.Core.Bool.{not, ◌&&◌, ◌||◌}
use Prim.Native.Nat.{ℕ, ◌-◌}
use lib.Bits.{bit_and}
use lib.ListN.{length, get_or}
use Rattle.image.specs.Bits.{or_none}
use Rattle.image.specs.Filling.{filling_none, filling_more, filling_all}
use Rattle.image.specs.Scratch.{bit_of}
use Rattle.pair.specs.PairLaws.{NoneHangs, none_hangs, none_more, support_byte}
use native.Mathlib.Omega.{arith}
use Rattle.pair.proofs.support.Goals as goal

pub loop-i-init : goal.loop-i-init
loop-i-init c = (omega arith, filling_none _ _ _, λ e k x m lm. absurd (omega arith))

pub bounds-up-i : goal.bounds-up-i
bounds-up-i c = omega (arith, c.loop-i-test.true, c.requires, c.loop-i.invariant.1.long)

pub bounds-low-i : goal.bounds-low-i
bounds-low-i c = omega (arith, c.loop-i-test.true, c.requires, c.loop-i.invariant.1.long)

pub bounds-up-i-in-loop-i : goal.bounds-up-i-in-loop-i
bounds-up-i-in-loop-i c = omega (arith, c.loop-i-test.true, c.requires, c.loop-i.invariant.1.long)

pub bounds-above-i : goal.bounds-above-i
bounds-above-i c = omega (arith, c.loop-i-test.true, c.requires, c.loop-i.invariant.1.long)

pub bounds-low-i-in-loop-i : goal.bounds-low-i-in-loop-i
bounds-low-i-in-loop-i c = omega (arith, c.loop-i-test.true, c.requires, c.loop-i.invariant.1.long)

pub loop-i-smaller : goal.loop-i-smaller
loop-i-smaller c = omega (arith, c.loop-i-test.true, c.loop-i.invariant.1.long)

pub loop-i-preserved : goal.loop-i-preserved
loop-i-preserved c = let A = c.args in
    let L = c.loop-i in (
      omega (arith, c.loop-i-test.true, L.invariant.1.long),
      filling_more 0 L.i _ (λ j. (bit_of A.up.now j || bit_of A.above.now j) && not (bit_of A.low.now j)) L.out A.out.now (omega arith) (omega (arith, c.loop-i-test.true))
          L.invariant.1
          (support_byte A.up.now A.low.now A.above.now L.i (c.type_inv.low L.i).fits),
      λ e. let o = or_none L.all (bit_and (get_or A.up.now L.i 0) (255 - get_or A.low.now L.i 0)) e in
          none_more A.low.now A.up.now L.i (c.type_inv.low L.i).fits o.1 (L.invariant.2 o.0),
    )

pub shape_of-out : goal.shape_of-out
shape_of-out c = c.loop-i.invariant.1.long

pub returns : goal.returns
returns c = let A = c.args in
    let L = c.loop-i in
    let e : L.i ≡ length A.out.now = omega (arith, c.loop-i-test.false, L.invariant.0, L.invariant.1.long) in
    let W = filling_all _ _ _ _ _ (rw e at L.invariant.1) in record {
      bits = λ j lj. W.inner j (omega arith) lj;
      none = none_hangs A.low.now A.up.now (length A.low.now) L.all
          (λ z. subst (λ (n : ℕ). NoneHangs n A.low.now A.up.now) (omega (arith, e, c.requires)) (L.invariant.2 z));
    }
