use Prim.Native.Nat.{◌-◌, ◌≤◌}
use mathlib.Core.Path.{◌≡◌}
use Rattle.rules.specs.Tools.{count}
use Rattle.rules.specs.Images as images
use Rattle.lines.proofs.counts.filled.Given as goal

abbrev pub invariant-loop-p : goal.invariant-loop-p
invariant-loop-p l = (l.p ≤ l.all) × (l.n ≡ count l.p (images.pixel l.w l.h l.s l.i))

abbrev pub decreases-loop-p : goal.decreases-loop-p
decreases-loop-p l = l.all - l.p
