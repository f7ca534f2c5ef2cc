use Prim.Native.Nat.{◌-◌, ◌+◌, ◌≤◌}
use mathlib.Core.Path.{◌≡◌}
use Rattle.rules.specs.Reach.{half_width, root}
use Rattle.words.specs.Words.{column}
use Rattle.planes.specs.Nearness.{NearTo}
use Rattle.planes.proofs.nearness.near_row.Given as goal

abbrev pub invariant-loop-d : goal.invariant-loop-d
invariant-loop-d l = (l.d ≤ l.reach) × (l.reach ≡ root l.q.0) × NearTo l.q.0 (l.y + 33) l.d (half_width l.q.0 l.d) l.low (column l.x)

abbrev pub decreases-loop-d : goal.decreases-loop-d
decreases-loop-d l = l.reach - l.d
