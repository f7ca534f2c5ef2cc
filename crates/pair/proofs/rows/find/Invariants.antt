use mathlib.Core.Path.{◌≡◌}
use Prim.Native.Nat.{◌≤◌}
use lib.ListN.{length, get_or}
use Rattle.rules.specs.Planning.{seeds, shadow}
use Rattle.image.specs.Rows.{packed}
use Rattle.rings.specs.NearRings.{pixel_bits}
use Rattle.pair.specs.Found.{AheadFrom, Below}
use Rattle.pair.proofs.rows.find.Given as goal

abbrev pub invariant-loop-y : goal.invariant-loop-y
invariant-loop-y l = (l.y ≤ l.h) × (length l.left ≡ length l.initial.left) × (length l.seed ≡ length l.initial.seed) × (length l.ahead ≡ 257)
    × Below l.y (pixel_bits l.w l.h (seeds (packed l.w l.low) (packed l.w l.up))) l.initial.seed l.seed × Below l.y (pixel_bits l.w l.h (shadow (packed l.w l.low) (packed l.w l.up))) l.initial.left l.left
    × AheadFrom l.h l.y (pixel_bits l.w l.h (shadow (packed l.w l.low) (packed l.w l.up))) l.ahead × (l.last ≡ get_or l.ahead l.y 0)

abbrev pub decreases-loop-y : goal.decreases-loop-y
decreases-loop-y l = l.y
