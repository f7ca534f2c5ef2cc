use Rattle.std.proofs.Common.{arith, ◌*◌, ◌+◌}
use Rattle.rules.specs.Images.{row_bytes}
use Rattle.places.specs.Search.{overlap_in}
use Rattle.places.specs.Finding.{stretch_hit, stretch_more, least_none}
use Rattle.places.specs.Rows.{overlap_byte}
use Rattle.places.proofs.overlaps.overlap_row.Goals as goal

pub overflow_sub-w : goal.overflow_sub-w
unfolding row_bytes
overflow_sub-w c = omega arith

pub returns-in-Some-clause-first : goal.returns-in-Some-clause-first
unfolding row_bytes
returns-in-Some-clause-first c = let a = c.args in let b = c.loop-b.b in
    stretch_hit a.w (overlap_in a.part.now a.sup.now a.at) _ (8 * b) c.min-end.result c.in-Some.k c.loop-b.invariant
    (λ j l. overlap_byte a.part.now a.sup.now a.at (8 * b) (a.at + b) j (omega arith) (omega arith) (omega arith)) c.in-Some.ensures.first (omega arith) c.in-Some.ensures.inside

pub loop-b-preserved : goal.loop-b-preserved
loop-b-preserved c = let a = c.args in let b = c.loop-b.b in
    stretch_more a.w (overlap_in a.part.now a.sup.now a.at) _ (8 * b) c.min-end.result c.min-end.result c.loop-b.invariant
    (λ j l. overlap_byte a.part.now a.sup.now a.at (8 * b) (a.at + b) j (omega arith) (omega arith) (omega arith)) c.in_default.ensures.first
    (8 * (b + 1)) (omega arith) (λ y l k. omega arith)

pub returns-clause-first : goal.returns-clause-first
unfolding row_bytes
returns-clause-first c = least_none 0 c.args.w _ (omega arith) (λ y l b. c.loop-b.invariant y (omega arith) b)
