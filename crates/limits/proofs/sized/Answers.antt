use mathlib.Core.Path.{sym, ◌∙◌}
use Rattle.rules.specs.Images as images
use Rattle.limits.proofs.sized.Goals as goal

pub returns-then-not-within : goal.returns-then-not-within
unfolding images.sized
returns-then-not-within c = simp (sym c.within.ensures ∙ c.if-not-within.true)

pub returns-then-not-within-2 : goal.returns-then-not-within-2
unfolding images.sized
returns-then-not-within-2 c = simp (sym c.within.ensures ∙ c.if-not-within.false, sym c.within-2.ensures ∙ c.if-not-within-2.true)

pub returns : goal.returns
unfolding images.sized
returns c = simp (sym c.within.ensures ∙ c.if-not-within.false, sym c.within-2.ensures ∙ c.if-not-within-2.false) c.within-3.ensures
