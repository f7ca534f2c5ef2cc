use Rattle.std.proofs.Common.{◌≡◌, ℕ, ◌*◌, ◌<◌, false}
use Rattle.places.specs.Search.{flat}
use Rattle.rules.specs.Images.{pixel}
use Rattle.rules.specs.Judging.{overlap}
use Rattle.places.proofs.overlaps.overlap_at.Given as goal

abbrev pub invariant-loop-i : goal.invariant-loop-i
invariant-loop-i l = (y : ℕ) → y < l.i * (l.h * l.w) → y < l.n * (l.h * l.w) → flat l.w l.h (overlap (pixel l.w l.h l.part) (pixel l.w l.h l.sup)) y ≡ false
