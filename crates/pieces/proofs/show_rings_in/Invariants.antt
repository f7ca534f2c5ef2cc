use Rattle.std.proofs.Common.{◌≤◌}
use Rattle.pieces.proofs.show_rings_in.Given as goal

abbrev pub invariant-loop-v : goal.invariant-loop-v
invariant-loop-v g l = l.n ≤ l.v-index
