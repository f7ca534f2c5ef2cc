use Rattle.std.proofs.Common.{◌≡◌, ℕ, ◌+◌, ◌<◌, get_or}
use Rattle.rules.specs.Tools.{bit}
use Rattle.rules.specs.Images.{bit_at}
use Rattle.leans.proofs.eights.alike.Given as goal

abbrev pub invariant-loop-k : goal.invariant-loop-k
invariant-loop-k l = l.all ≡ 0 → (j : ℕ) → j < l.k → get_or l.rings (l.x + j) 0 ≡ bit (bit_at l.m j)
