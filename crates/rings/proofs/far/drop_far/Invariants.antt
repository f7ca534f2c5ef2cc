use mathlib.Core.Path.{◌≡◌}
use Prim.Native.Nat.{◌-◌, ◌≤◌}
use lib.ListN.{length}
use Rattle.waves.specs.Rows.{Upto}
use Rattle.rings.specs.NearRings.{near_bits}
use Rattle.rings.proofs.far.drop_far.Given as goal

abbrev pub invariant-loop-y : goal.invariant-loop-y
invariant-loop-y l = (l.y ≤ l.h) × (length l.left ≡ length l.initial.left) × Upto l.y (near_bits l.w l.h l.q.0 l.low l.initial.left) l.initial.left l.left

abbrev pub decreases-loop-y : goal.decreases-loop-y
decreases-loop-y l = l.h - l.y
