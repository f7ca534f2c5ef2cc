use Rattle.std.proofs.Common.{◌≡◌, ℕ, ◌-◌, ◌<◌, ◌≤◌, length, get_or}
use Rattle.sweeps.proofs.sweeps.copy.Given as goal

abbrev pub invariant-loop-i : goal.invariant-loop-i
invariant-loop-i l = (l.i ≤ length l.initial.to) × (length l.to ≡ length l.initial.to) × ((k : ℕ) → k < l.i → get_or l.to k 0 ≡ get_or l.p k 0)

abbrev pub decreases-loop-i : goal.decreases-loop-i
decreases-loop-i l = length l.initial.to - l.i
