use mathlib.Core.Path.{◌≡◌}
use Prim.Native.Nat.{◌-◌, ◌≤◌}
use lib.ListN.{length}
use Rattle.pair.specs.BareLaws.{BareTo}
use Rattle.pair.proofs.bare.rows.Given as goal

abbrev pub invariant-loop-y : goal.invariant-loop-y
invariant-loop-y l = (length l.ring ≡ length l.initial.ring) × (l.y ≤ l.h) × BareTo l.w l.h l.y l.got l.ring

abbrev pub decreases-loop-y : goal.decreases-loop-y
decreases-loop-y l = l.h - l.y
