use borrow.Author.Tests.{eq-eqb, ne_eqb}
use Rattle.sections.proofs.reading.allowed.Goals as goal

pub returns-then-c-a : goal.returns-then-c-a
returns-then-c-a c = simp (eq-eqb _ _ c.if-c-a.true)

pub returns-else-c-a : goal.returns-else-c-a
returns-else-c-a c = simp (ne_eqb _ _ c.if-c-a.false)
