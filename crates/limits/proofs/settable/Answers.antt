use mathlib.Core.Path.{sym, ◌∙◌}
use Rattle.rules.specs.Reach as rule
use Rattle.limits.proofs.settable.Goals as goal

pub returns-then-not-within : goal.returns-then-not-within
unfolding rule.settable
returns-then-not-within c = simp (sym c.within.ensures ∙ c.if-not-within.true)

pub returns : goal.returns
unfolding rule.settable
returns c = simp (sym c.within.ensures ∙ c.if-not-within.false)
