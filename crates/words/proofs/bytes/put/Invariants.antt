use Prim.Native.Nat.{◌+◌, ◌-◌, ◌*◌, ◌≤◌}
use Rattle.words.specs.Words.{bit_of_word}
use Rattle.words.specs.WordLaws.{Filling}
use Rattle.words.proofs.bytes.put.Given as goal

abbrev pub invariant-loop-k : goal.invariant-loop-k
invariant-loop-k l = (l.k ≤ l.n) × Filling 8 l.at (l.at + l.k) (λ j. bit_of_word l.x (j - l.at * 8)) l.out l.initial.out

abbrev pub decreases-loop-k : goal.decreases-loop-k
decreases-loop-k l = l.n - l.k
