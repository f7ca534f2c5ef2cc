use Rattle.words.specs.OneLaws.{placed_none, placed_more}
use lib.ListN.{length-set}
use mathlib.Core.Path.{◌≡◌, refl}
use native.Mathlib.Omega.{arith}
use Rattle.words.proofs.ones.put_eight.Goals as goal

pub loop-k-init : goal.loop-k-init
loop-k-init c = (refl, omega arith, placed_none _ _ _)

pub bounds-l-x : goal.bounds-l-x
bounds-l-x c = omega (arith, c.loop-k.invariant.0)

pub loop-k-preserved : goal.loop-k-preserved
loop-k-preserved c = (simp length-set (omega arith), omega arith, placed_more _ _ _ _ _ _ (omega (arith, c.loop-k.invariant.0)) refl c.loop-k.invariant.2)

pub shape_of-l : goal.shape_of-l
shape_of-l c = c.loop-k.invariant.0

pub returns : goal.returns
returns c = let e : c.loop-k.k ≡ 8 = omega arith in
    rw e at c.loop-k.invariant.2
