use mathlib.Core.Path.{◌≡◌}
use native.Mathlib.Omega.{arith}
use Rattle.words.specs.WordLaws.{leading_none, leading_more, leading_part}
use Rattle.words.proofs.bytes.part.Goals as goal

pub loop-k-init : goal.loop-k-init
loop-k-init c = (omega arith, leading_none _ _)

pub loop-k-smaller : goal.loop-k-smaller
loop-k-smaller c = omega arith

pub loop-k-preserved : goal.loop-k-preserved
loop-k-preserved c = (omega arith, leading_more c.args.s.now c.args.at c.loop-k.k c.loop-k.v c.long.result (omega arith) c.long.ensures c.loop-k.invariant.1)

pub returns : goal.returns
returns c = let e : c.loop-k.k ≡ c.args.n = omega arith in
    leading_part _ _ _ _ (omega arith) (rw e at c.loop-k.invariant.1)
