use Rattle.std.proofs.Common.{◌≤◌}
use Rattle.job_trials.proofs.cuts.Given as goal

abbrev pub invariant-loop-k : goal.invariant-loop-k
invariant-loop-k l = l.n ≤ l.k
