use Rattle.std.proofs.Common.{arith, sym, ◌∙◌, ◌*◌}
use Rattle.places.specs.Finding.{least_none}
use Rattle.chains.specs.Amiss.{sure_none}
use Rattle.planes.specs.PlaneLaws.{zero_ready}
use Rattle.chains.proofs.search.in_pair.Goals as goal

pub returns-then-sure-clause-first : goal.returns-then-sure-clause-first
returns-then-sure-clause-first c = let args = c.args in
    least_none 0 (args.h * args.w) _ (omega arith) (sure_none args.ringed args.w args.h args.q.0 args.low.now args.up.now args.below.now args.above.now
    args.rings.now c.pair-s.result (sym c.sure.ensures ∙ c.if-sure.true) c.pair-s.ensures.good c.pair-s.ensures.held)

pub read-requires : goal.read-requires
read-requires c = (c.requires.fits.0.0, (c.requires.fits.1, zero_ready c.args.w c.args.h))
