use Rattle.rules.specs.Tools.{bit}
use Rattle.answers.proofs.flag.Goals as goal

pub returns-then-b : goal.returns-then-b
unfolding bit
returns-then-b c = simp c.if-b.true

pub returns-else-b : goal.returns-else-b
unfolding bit
returns-else-b c = simp c.if-b.false
