use mathlib.Core.Path.{◌≡◌, subst}
use Prim.Native.Nat.{ℕ}
use lib.ListN.{length, get_or}
use Rattle.image.specs.Bits.{or_none}
use Rattle.posts.specs.LayerLaws.{NoneSet, set_more, set_none}
use native.Mathlib.Omega.{arith}
use Rattle.posts.proofs.layer.any.Goals as goal

pub loop-i-init : goal.loop-i-init
loop-i-init c = (omega arith, λ e k x. absurd (omega arith))

pub bounds-s-i : goal.bounds-s-i
bounds-s-i c = omega (arith, c.loop-i-test.true)

pub overflow_add-i : goal.overflow_add-i
overflow_add-i c = omega (arith, c.loop-i-test.true)

pub loop-i-smaller : goal.loop-i-smaller
loop-i-smaller c = omega (arith, c.loop-i-test.true)

pub loop-i-preserved : goal.loop-i-preserved
loop-i-preserved c = let s = c.args.s.now in
    let L = c.loop-i in
    (omega (arith, c.loop-i-test.true), λ e. let o = or_none L.all (get_or s L.i 0) e in set_more s L.i o.1 (L.invariant.1 o.0))

pub returns : goal.returns
returns c = let s = c.args.s.now in
    let L = c.loop-i in
    let e : L.i ≡ length s = omega (arith, c.loop-i-test.false, L.invariant.0) in
    set_none s (length s) L.all (λ z. subst (λ (n : ℕ). NoneSet n s) e (L.invariant.1 z))
