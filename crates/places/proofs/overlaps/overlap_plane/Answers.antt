use Rattle.std.proofs.Common.{refl, ◌*◌}
use Rattle.places.specs.Planes.{overlap_row_lem}
use Rattle.places.specs.Rows.{apart_none, found_in, none_in}
use Rattle.places.proofs.overlaps.overlap_plane.Goals as goal

pub returns-then-apart-clause-first : goal.returns-then-apart-clause-first
returns-then-apart-clause-first c = let a = c.args in
    apart_none a.part.now a.sup.now a.w a.h (a.h * c.row_bytes-rb.result) (rw c.row_bytes-rb.ensures.0) (c.apart.ensures c.if-apart.true)

pub returns-in-Some-clause-first : goal.returns-in-Some-clause-first
returns-in-Some-clause-first c = let a = c.args in let r = c.loop-row.row in
    found_in a.h a.w r _ _ c.loop-row-test.true c.loop-row.invariant
    (overlap_row_lem a.w a.part.now a.sup.now r (r * c.row_bytes-rb.result) c.row_bytes-rb.result (r * a.w) refl c.row_bytes-rb.ensures.0 refl)
    c.in-Some.c c.in-Some.ensures.first c.in-Some.ensures.inside

pub loop-row-preserved : goal.loop-row-preserved
loop-row-preserved c = let a = c.args in let r = c.loop-row.row in
    none_in a.h a.w r _ _ c.loop-row-test.true c.loop-row.invariant
    (overlap_row_lem a.w a.part.now a.sup.now r (r * c.row_bytes-rb.result) c.row_bytes-rb.result (r * a.w) refl c.row_bytes-rb.ensures.0 refl)
    c.in_default.ensures.first
