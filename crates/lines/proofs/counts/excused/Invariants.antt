use Prim.Native.Nat.{◌-◌, ◌≤◌}
use mathlib.Core.Path.{◌≡◌}
use Rattle.rules.specs.Tools.{count}
use Rattle.rules.specs.Images.{ring_at}
use Rattle.rules.specs.Planning as planning
use Rattle.lines.proofs.counts.excused.Given as goal

abbrev pub invariant-loop-p : goal.invariant-loop-p
invariant-loop-p l = (l.p ≤ l.all) × (l.n ≡ count l.p (planning.excused (ring_at l.w l.h l.rings) l.i))

abbrev pub decreases-loop-p : goal.decreases-loop-p
decreases-loop-p l = l.all - l.p
