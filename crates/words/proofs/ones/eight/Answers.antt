use Rattle.words.specs.OneLaws.{placed_same}
use Rattle.image.specs.Bits.{stored_more}
use lib.Dec.{eqb}
use lib.ListN.{get_or, length-set}
use Prim.Native.Nat.{◌+◌}
use mathlib.Core.Bool.{cond}
use mathlib.Core.Path.{◌≡◌, refl}
use native.Mathlib.Omega.{arith}
use Rattle.words.proofs.ones.eight.Goals as goal

pub loop-k-init : goal.loop-k-init
loop-k-init c = (refl, omega arith, λ i l. absurd (omega arith))

pub loop-k-preserved : goal.loop-k-preserved
loop-k-preserved c = let a = c.args in
    let s = c.loop-k in (
      simp length-set (omega arith),
      omega arith,
      stored_more (λ i y. y ≡ cond (eqb (get_or a.ones.now (a.at + i) 0) 1) a.v (get_or a.l.now (a.x + i) 0)) s.e s.k _ (omega (arith, s.invariant.0)) s.invariant.2 c.pick.ensures,
    )

pub returns : goal.returns
returns c = placed_same _ _ _ _ _ _ (λ k l. c.loop-k.invariant.2 k (omega arith)) c.put_eight.ensures
