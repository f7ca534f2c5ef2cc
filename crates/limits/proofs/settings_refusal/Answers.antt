use mathlib.Core.Path.{sym, ◌∙◌}
use Rattle.rules.specs.Calls.{setting_cases}
use Rattle.limits.proofs.settings_refusal.Goals as goal

pub returns-then-not-sized : goal.returns-then-not-sized
unfolding setting_cases
returns-then-not-sized c = simp (sym c.sized.ensures ∙ c.if-not-sized.true)

pub returns : goal.returns
unfolding setting_cases
returns c = simp (sym c.sized.ensures ∙ c.if-not-sized.false) c.reach_refusal.ensures
