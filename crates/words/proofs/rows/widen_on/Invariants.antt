use mathlib.Core.Path.{◌≡◌}
use mathlib.Core.Bool.{Bool, false}
use Prim.Native.Nat.{ℕ, ◌-◌, ◌≤◌}
use Rattle.words.specs.Words.{column, Widened}
use Rattle.words.proofs.rows.widen_on.Given as goal

abbrev pub invariant-loop-done : goal.invariant-loop-done
invariant-loop-done l = (l.done ≤ l.n) × ((x : ℕ → Bool) → ((c : ℕ) → 256 ≤ c → x c ≡ false) → Widened 1 x (column l.initial.t) → Widened l.done x (column l.t))

abbrev pub decreases-loop-done : goal.decreases-loop-done
decreases-loop-done l = l.n - l.done
