use Rattle.rules.specs.Tools as tools
use native.Mathlib.Omega.{arith}
use Rattle.lines.proofs.counts.one.Goals as goal

pub returns-then-b : goal.returns-then-b
unfolding tools.bit
returns-then-b c = (simp c.if-b.true, omega arith)

pub returns-else-b : goal.returns-else-b
unfolding tools.bit
returns-else-b c = (simp c.if-b.false, omega arith)
