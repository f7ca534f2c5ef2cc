use Rattle.words.specs.Words.{Placed}
use lib.ListN.{length, get_or}
use Prim.Native.Nat.{◌≤◌, ◌-◌}
use mathlib.Core.Path.{◌≡◌}
use Rattle.words.proofs.ones.put_eight.Given as goal

abbrev pub invariant-loop-k : goal.invariant-loop-k
invariant-loop-k l = (length l.l ≡ length l.initial.l) × (l.k ≤ 8) × Placed l.x l.k (λ i. get_or l.e i 0) l.initial.l l.l

abbrev pub decreases-loop-k : goal.decreases-loop-k
decreases-loop-k l = 8 - l.k
