use Rattle.std.proofs.Common.{◌≤◌}
use Rattle.pieces.proofs.filled.Given as goal

abbrev pub invariant-loop-b : goal.invariant-loop-b
invariant-loop-b l = l.n ≤ l.b-index
