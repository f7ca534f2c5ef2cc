use mathlib.Core.Path.{◌≡◌, subst}
use Prim.Native.Nat.{ℕ}
use lib.Bits.{bit_and}
use lib.ListN.{length, get_or}
use Rattle.image.specs.Bits.{or_none}
use Rattle.posts.specs.LayerLaws.{NoneShared, shared_more, shared_none}
use native.Mathlib.Omega.{arith}
use Rattle.posts.proofs.layer.meet.Goals as goal

pub loop-i-init : goal.loop-i-init
loop-i-init c = (omega arith, λ e k x m lm. absurd (omega arith))

pub bounds-s-i : goal.bounds-s-i
bounds-s-i c = omega (arith, c.loop-i-test.true)

pub bounds-up-i : goal.bounds-up-i
bounds-up-i c = omega (arith, c.loop-i-test.true, c.requires)

pub overflow_add-i : goal.overflow_add-i
overflow_add-i c = omega (arith, c.loop-i-test.true)

pub loop-i-smaller : goal.loop-i-smaller
loop-i-smaller c = omega (arith, c.loop-i-test.true)

pub loop-i-preserved : goal.loop-i-preserved
loop-i-preserved c = let A = c.args in
    let L = c.loop-i in (
      omega (arith, c.loop-i-test.true),
      λ e. let o = or_none L.both (bit_and (get_or A.s.now L.i 0) (get_or A.up.now L.i 0)) e in shared_more A.s.now A.up.now L.i o.1 (L.invariant.1 o.0),
    )

pub returns : goal.returns
returns c = let A = c.args in
    let L = c.loop-i in
    let e : L.i ≡ length A.s.now = omega (arith, c.loop-i-test.false, L.invariant.0) in
    shared_none A.s.now A.up.now (length A.s.now) L.both (λ z. subst (λ (n : ℕ). NoneShared n A.s.now A.up.now) e (L.invariant.1 z))
