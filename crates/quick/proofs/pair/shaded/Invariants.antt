use Rattle.std.proofs.Common.{ℕ, ◌<◌, ◌≤◌}
use Rattle.quick.specs.Sureness.{Shadeless}
use Rattle.quick.proofs.pair.shaded.Given as goal

abbrev pub invariant-loop-r : goal.invariant-loop-r
invariant-loop-r l = (y : ℕ) → l.from ≤ y → y < l.r → Shadeless l.w l.low l.up y
