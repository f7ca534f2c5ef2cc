use Rattle.std.proofs.Common.{◌≡◌, ℕ, ◌*◌, ◌<◌, false}
use Rattle.places.specs.Search.{overlap_in}
use Rattle.places.proofs.overlaps.overlap_row.Given as goal

abbrev pub invariant-loop-b : goal.invariant-loop-b
invariant-loop-b l = (y : ℕ) → y < 8 * l.b → y < l.w → overlap_in l.part l.sup l.at y ≡ false
