use Rattle.std.proofs.Common.{arith, refl, ◌+◌, ◌-◌, ◌*◌, ◌<◌}
use Rattle.quick.specs.Stacks.{pair_bytes, pair_clean}
use Rattle.places.specs.Rows.{found_in, none_in}
use Rattle.chains.specs.Amiss.{amiss_pair}
use Rattle.chains.proofs.search.in_pairs.Goals as goal

pub slice_bounds-in_pair-end : goal.slice_bounds-in_pair-end
slice_bounds-in_pair-end c = omega (arith, pair_bytes c.loop-i.i c.requires.fits c.row_bytes.ensures refl refl (omega arith))

pub slice_bounds-in_pair-end-in-loop-i : goal.slice_bounds-in_pair-end-in-loop-i
slice_bounds-in_pair-end-in-loop-i c = omega (arith, pair_bytes c.loop-i.i c.requires.fits c.row_bytes.ensures refl refl (omega arith))

pub in_pair-requires-clause-fits : goal.in_pair-requires-clause-fits
in_pair-requires-clause-fits c = ((c.requires.fits.sized, c.requires.scratch.1), pair_clean c.loop-i.i c.requires.fits c.row_bytes.ensures refl refl (omega arith))

pub returns-in-Some-clause-first : goal.returns-in-Some-clause-first
returns-in-Some-clause-first c = let args = c.args in
    let last : c.loop-i.i + 1 < args.n = omega arith in
    found_in (args.n - 1) (args.h * args.w) c.loop-i.i _ _ (omega arith) c.loop-i.invariant
    (amiss_pair c.loop-i.i c.requires.fits c.row_bytes.ensures refl refl last args.ringed args.q.0) c.in-Some.p c.in-Some.ensures.first c.in-Some.ensures.inside

pub loop-i-preserved : goal.loop-i-preserved
loop-i-preserved c = let args = c.args in
    let last : c.loop-i.i + 1 < args.n = omega arith in
    none_in (args.n - 1) (args.h * args.w) c.loop-i.i _ _ (omega arith) c.loop-i.invariant
    (amiss_pair c.loop-i.i c.requires.fits c.row_bytes.ensures refl refl last args.ringed args.q.0) c.in_default.ensures.first
