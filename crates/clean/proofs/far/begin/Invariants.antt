use mathlib.Core.Path.{◌≡◌}
use Prim.Native.Nat.{ℕ, ◌≤◌, ◌-◌}
use lib.Dec.{ltb}
use Rattle.words.specs.Words.{column}
use Rattle.clean.specs.Far.{Ahead}
use Rattle.clean.proofs.far.begin.Given as goal

abbrev pub invariant-loop-k : goal.invariant-loop-k
invariant-loop-k l = (l.k ≤ l.c.0) × ((w : ℕ) → ((j : ℕ) → column l.all j ≡ ltb j w) → Ahead w l.c.0 l.k l.from l.t)

abbrev pub decreases-loop-k : goal.decreases-loop-k
decreases-loop-k l = l.c.0 - l.k
