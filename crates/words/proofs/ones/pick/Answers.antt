use borrow.Author.Tests.{eq-eqb, ne_eqb}
use Rattle.words.proofs.ones.pick.Goals as goal

pub returns-then-one-eq1 : goal.returns-then-one-eq1
returns-then-one-eq1 c = rw (eq-eqb _ 1 c.if-one-eq1.true)

pub returns-else-one-eq1 : goal.returns-else-one-eq1
returns-else-one-eq1 c = rw (ne_eqb _ 1 c.if-one-eq1.false)
