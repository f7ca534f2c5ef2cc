use borrow.Author.Tests.{eq-eqb, ne_eqb}
use Rattle.rules.specs.Jobs.{stored_rows}
use native.Mathlib.Omega.{arith}
use Rattle.job.proofs.writing.stored_rows.Goals as goal

pub returns-then-k-eq0 : goal.returns-then-k-eq0
unfolding stored_rows
returns-then-k-eq0 c = (simp (eq-eqb _ _ c.if-k-eq0.true), omega arith)

pub returns-else-k-eq0 : goal.returns-else-k-eq0
unfolding stored_rows
returns-else-k-eq0 c = (simp (ne_eqb _ _ c.if-k-eq0.false) c.rows_of.ensures.0, c.rows_of.ensures.1)
