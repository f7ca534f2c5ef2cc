use borrow.Author.Tests.{eq-eqb, ne_eqb}
use Rattle.rules.specs.Jobs.{ring_count}
use native.Mathlib.Omega.{arith}
use Rattle.sections.proofs.sizes.ring_count.Goals as goal

pub returns-then-c-eq0 : goal.returns-then-c-eq0
unfolding ring_count
returns-then-c-eq0 c = (simp (eq-eqb _ _ c.if-c-eq0.true), omega arith)

pub returns : goal.returns
unfolding ring_count
returns c = (simp (ne_eqb _ _ c.if-c-eq0.false) c.rings_in.ensures.0, c.rings_in.ensures.1)
