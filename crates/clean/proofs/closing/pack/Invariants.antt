use mathlib.Core.Path.{◌≡◌}
use Prim.Native.Nat.{◌≤◌, ◌-◌}
use lib.ListN.{length}
use Rattle.clean.specs.PackLaws.{Packing}
use Rattle.clean.proofs.closing.pack.Given as goal

abbrev pub invariant-loop-y : goal.invariant-loop-y
invariant-loop-y l = (l.y ≤ l.h) × (length l.out ≡ length l.initial.out) × Packing l.n l.y l.from l.out

abbrev pub decreases-loop-y : goal.decreases-loop-y
decreases-loop-y l = l.h - l.y
