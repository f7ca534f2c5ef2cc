use mathlib.Core.Path.{◌≡◌}
use mathlib.Core.List.{◌++◌}
use Prim.Native.Nat.{◌+◌, ◌-◌, ◌*◌, ◌≤◌}
use lib.ListN.{length, drop}
use Rattle.rules.specs.Jobs as jobs
use Rattle.rules.specs.Jobs.{be16}
use Rattle.sections.proofs.numbers.get16s.Given as goal

abbrev pub invariant-loop-i : goal.invariant-loop-i
invariant-loop-i l = (l.out ≡ jobs.get16s l.f l.at l.i ++ drop l.i l.initial.out) × (l.j ≡ l.at + l.i * 2) × (l.i ≤ length l.initial.out) × (length l.out ≡ length l.initial.out)

abbrev pub decreases-loop-i : goal.decreases-loop-i
decreases-loop-i l = length l.initial.out - l.i
