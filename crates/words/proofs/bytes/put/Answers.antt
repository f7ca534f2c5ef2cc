use mathlib.Core.Path.{◌≡◌}
use native.Mathlib.Omega.{arith}
use Rattle.words.specs.WordLaws.{filling_all, filling_from, put_more, within_bytes}
use Rattle.words.proofs.bytes.put.Goals as goal

pub loop-k-init : goal.loop-k-init
loop-k-init c = (omega arith, filling_from _ _ _ _)

pub bounds-out-at : goal.bounds-out-at
bounds-out-at c = omega (arith, c.loop-k.invariant.1.long)

pub loop-k-smaller : goal.loop-k-smaller
loop-k-smaller c = omega arith

pub loop-k-preserved : goal.loop-k-preserved
loop-k-preserved c = (
  omega arith,
  put_more c.args.x c.args.at c.loop-k.k c.low.result c.loop-k.out c.args.out.now (omega arith) (omega (arith, c.loop-k.invariant.1.long)) c.low.ensures
      c.loop-k.invariant.1,
)

pub shape_of-out : goal.shape_of-out
shape_of-out c = c.loop-k.invariant.1.long

pub returns : goal.returns
returns c = let e : c.loop-k.k ≡ c.args.n = omega arith in
    within_bytes _ _ _ _ _ (filling_all 8 _ _ _ _ _ (omega arith) (rw e at c.loop-k.invariant.1))
