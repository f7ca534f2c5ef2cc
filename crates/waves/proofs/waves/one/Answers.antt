use native.Mathlib.Omega.{arith}
use Rattle.waves.proofs.waves.one.Goals as goal

pub returns-then-b : goal.returns-then-b
returns-then-b c = (omega arith, λ e. absurd (omega arith))

pub returns-else-b : goal.returns-else-b
returns-else-b c = (omega arith, λ e. c.if-b.false)
