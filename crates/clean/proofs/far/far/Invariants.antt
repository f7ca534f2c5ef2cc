use mathlib.Core.Path.{◌≡◌}
use mathlib.Core.Bool.{not}
use Prim.Native.Nat.{◌≤◌, ◌+◌, ◌-◌, ◌*◌}
use lib.ListN.{length}
use Rattle.rules.specs.Planning.{near}
use Rattle.planes.specs.Scratch.{seen}
use Rattle.waves.specs.Rows.{Upto}
use Rattle.rings.specs.NearRings.{pixel_bits}
use Rattle.clean.specs.Far.{Ahead}
use Rattle.clean.proofs.far.far.Given as goal

abbrev pub invariant-loop-y : goal.invariant-loop-y
invariant-loop-y l = (l.y ≤ l.h) × (length l.to ≡ length l.initial.to) × Upto l.y (pixel_bits l.w l.h (λ p. not (near l.w l.h (l.c.0 * l.c.0) (seen l.w l.from) p))) l.initial.to l.to × Ahead l.w l.c.0 (l.y + l.c.0) l.from l.t

abbrev pub decreases-loop-y : goal.decreases-loop-y
decreases-loop-y l = l.h - l.y
