use Rattle.std.proofs.Common.{arith, refl}
use Rattle.places.specs.Rows.{found_in, none_in}
use Rattle.chains.proofs.search.in_rows.Goals as goal

pub returns-in-Some-clause-first : goal.returns-in-Some-clause-first
returns-in-Some-clause-first c =
    found_in c.args.h c.args.w c.loop-r.r _ _ (omega arith) c.loop-r.invariant (λ y l. refl) c.in-Some.c c.in-Some.ensures.first c.in-Some.ensures.inside

pub loop-r-preserved : goal.loop-r-preserved
loop-r-preserved c = none_in c.args.h c.args.w c.loop-r.r _ _ (omega arith) c.loop-r.invariant (λ y l. refl) c.in_default.ensures.first
