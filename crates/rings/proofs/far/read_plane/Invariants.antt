use mathlib.Core.Path.{◌≡◌}
use Prim.Native.Nat.{◌-◌, ◌≤◌}
use lib.ListN.{length}
use Rattle.image.specs.Rows.{packed}
use Rattle.waves.specs.Rows.{Upto}
use Rattle.rings.specs.NearRings.{pixel_bits}
use Rattle.rings.proofs.far.read_plane.Given as goal

abbrev pub invariant-loop-y : goal.invariant-loop-y
invariant-loop-y l = (l.y ≤ l.h) × (length l.out ≡ length l.initial.out) × Upto l.y (pixel_bits l.w l.h (packed l.w l.s)) l.initial.out l.out

abbrev pub decreases-loop-y : goal.decreases-loop-y
decreases-loop-y l = l.h - l.y
