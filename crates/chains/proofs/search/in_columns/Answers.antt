use Rattle.places.specs.Finding.{least_none, least_one, fails_more}
use Rattle.chains.specs.Amiss.{amiss_here}
use mathlib.Core.Path.{sym, ◌∙◌}
use Prim.Native.Nat.{◌+◌, ◌*◌}
use native.Mathlib.Omega.{arith}
use Rattle.chains.proofs.search.in_columns.Goals as goal

pub loop-c-init : goal.loop-c-init
loop-c-init c = λ q n y z l. absurd (omega arith)

pub returns-then-amiss-clause-first : goal.returns-then-amiss-clause-first
returns-then-amiss-clause-first c = λ q n. least_one 0 c.args.w _ c.loop-c.c (omega arith) c.loop-c-test.true (c.loop-c.invariant q n)
    (sym (c.amiss.ensures q (n c.loop-c.c c.loop-c-test.true)) ∙ c.if-amiss.true)

pub loop-c-preserved : goal.loop-c-preserved
loop-c-preserved c = let args = c.args in
    λ q n. fails_more 0 (λ y. amiss_here args.ringed args.w args.h q args.low.now args.up.now args.below.now args.above.now args.rings.now
    (args.r * args.w + y)) c.loop-c.c (c.loop-c.invariant q n) (sym (c.amiss.ensures q (n c.loop-c.c c.loop-c-test.true)) ∙ c.if-amiss.false)

pub returns-clause-first : goal.returns-clause-first
returns-clause-first c = λ q n. least_none 0 c.args.w _ (omega arith) (λ y a l. c.loop-c.invariant q n y a (omega arith))
