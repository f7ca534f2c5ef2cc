use Prim.Native.Nat.{◌-◌, ◌*◌, ◌≤◌}
use Rattle.words.specs.WordLaws.{Leading}
use Rattle.image.specs.Scratch.{bit_of}
use Rattle.words.proofs.bytes.part.Given as goal

abbrev pub invariant-loop-k : goal.invariant-loop-k
invariant-loop-k l = (l.k ≤ l.n) × Leading (l.k * 8) (64 - l.k * 8) l.v (l.at * 8) (bit_of l.s)

abbrev pub decreases-loop-k : goal.decreases-loop-k
decreases-loop-k l = l.n - l.k
