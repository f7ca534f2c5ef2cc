use Rattle.std.proofs.Common.{◌≡◌, false}
use Rattle.leans.proofs.steps.among.Given as goal

abbrev pub invariant-rows : goal.invariant-rows
invariant-rows l = l.found ≡ false

abbrev pub invariant-loop-x : goal.invariant-loop-x
invariant-loop-x l = l.found ≡ false
