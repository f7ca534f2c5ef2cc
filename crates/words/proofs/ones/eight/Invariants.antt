use lib.Dec.{eqb}
use lib.ListN.{length, get_or}
use Prim.Native.Nat.{ℕ, ◌+◌, ◌≤◌, ◌<◌, ◌-◌}
use mathlib.Core.Bool.{cond}
use mathlib.Core.Path.{◌≡◌}
use Rattle.words.proofs.ones.eight.Given as goal

abbrev pub invariant-loop-k : goal.invariant-loop-k
invariant-loop-k l = (length l.e ≡ 8) × (l.k ≤ 8) × ((i : ℕ) → i < l.k → get_or l.e i 0 ≡ cond (eqb (get_or l.ones (l.at + i) 0) 1) l.v (get_or l.l (l.x + i) 0))

abbrev pub decreases-loop-k : goal.decreases-loop-k
decreases-loop-k l = 8 - l.k
