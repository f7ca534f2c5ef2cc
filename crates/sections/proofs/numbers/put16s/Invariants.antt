use mathlib.Core.Path.{◌≡◌}
use Prim.Native.Nat.{◌-◌, ◌*◌, ◌≤◌}
use lib.ListN.{length, take}
use Rattle.rules.specs.Jobs as jobs
use Rattle.rules.specs.Jobs.{over}
use Rattle.sections.proofs.numbers.put16s.Given as goal

abbrev pub invariant-loop-i : goal.invariant-loop-i
invariant-loop-i l = (l.d ≡ over l.initial.d 0 (jobs.put16s (take l.i l.src))) × (l.j ≡ l.i * 2) × (l.i ≤ length l.src) × (length l.d ≡ length l.initial.d)

abbrev pub decreases-loop-i : goal.decreases-loop-i
decreases-loop-i l = length l.src - l.i
