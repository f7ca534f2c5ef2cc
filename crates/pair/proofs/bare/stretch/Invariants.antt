use mathlib.Core.Path.{◌≡◌}
use Prim.Native.Nat.{ℕ, ◌+◌, ◌-◌, ◌<◌, ◌≤◌}
use lib.ListN.{length, get_or}
use Rattle.pair.proofs.bare.stretch.Given as goal

abbrev pub invariant-loop-i : goal.invariant-loop-i
invariant-loop-i l = (length l.ring ≡ length l.initial.ring) × (l.i ≤ l.n) × (((p : ℕ) → get_or l.initial.ring p 0 ≡ 0 → get_or l.ring p 0 ≡ 0) × ((p : ℕ) → l.at ≤ p → p < l.at + l.i → get_or l.ring p 0 ≡ 0))

abbrev pub decreases-loop-i : goal.decreases-loop-i
decreases-loop-i l = l.n - l.i
