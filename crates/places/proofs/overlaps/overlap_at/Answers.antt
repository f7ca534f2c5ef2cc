use Rattle.std.proofs.Common.{refl, ◌*◌}
use Rattle.places.specs.Planes.{overlap_plane_lem}
use Rattle.places.specs.Rows.{found_in, none_in}
use Rattle.places.proofs.overlaps.overlap_at.Goals as goal

pub returns-in-Some-clause-first : goal.returns-in-Some-clause-first
returns-in-Some-clause-first c = let a = c.args in let i = c.loop-i.i in let bytes = a.h * c.row_bytes.result in
    found_in a.n (a.h * a.w) i _ _ c.loop-i-test.true c.loop-i.invariant
    (overlap_plane_lem a.w a.h i bytes (a.h * a.w) (i * bytes) (i * (a.h * a.w)) _ _ _ (rw c.row_bytes.ensures.0) refl refl refl refl refl refl a.part.now a.sup.now)
    c.in-Some.p c.in-Some.ensures.first c.in-Some.ensures.inside

pub loop-i-preserved : goal.loop-i-preserved
loop-i-preserved c = let a = c.args in let i = c.loop-i.i in let bytes = a.h * c.row_bytes.result in
    none_in a.n (a.h * a.w) i _ _ c.loop-i-test.true c.loop-i.invariant
    (overlap_plane_lem a.w a.h i bytes (a.h * a.w) (i * bytes) (i * (a.h * a.w)) _ _ _ (rw c.row_bytes.ensures.0) refl refl refl refl refl refl a.part.now a.sup.now)
    c.in_default.ensures.first
