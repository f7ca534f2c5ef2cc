use Rattle.std.proofs.Common.{◌≡◌, ℕ, ◌*◌, ◌<◌, false}
use Rattle.places.specs.Search.{overlap_here}
use Rattle.image.specs.Rows.{packed}
use Rattle.places.proofs.overlaps.overlap_plane.Given as goal

abbrev pub invariant-loop-row : goal.invariant-loop-row
invariant-loop-row l = (y : ℕ) → y < l.row * l.w → y < l.h * l.w → overlap_here (packed l.w l.part) (packed l.w l.sup) y ≡ false
