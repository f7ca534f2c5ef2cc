use mathlib.Core.Path.{sym, ◌∙◌}
use Rattle.rules.specs.Calls.{reach_cases}
use Rattle.limits.proofs.Settings.{pitch_some, refused_3, refused_0}
use Rattle.limits.proofs.reach_refusal.Goals as goal

pub returns-then-not-settable : goal.returns-then-not-settable
unfolding reach_cases
returns-then-not-settable c = simp (sym c.settable.ensures ∙ c.if-not-settable.true)

pub reach_of-reach-requires : goal.reach_of-reach-requires
reach_of-reach-requires c = pitch_some c.args.pitch c.args.overhang (sym c.settable.ensures ∙ c.if-not-settable.false)

pub returns-then-reach-gt32 : goal.returns-then-reach-gt32
returns-then-reach-gt32 c = refused_3 c.args.pitch c.args.overhang c.reach_of-reach.result (sym c.settable.ensures ∙ c.if-not-settable.false) c.reach_of-reach.ensures
    c.if-reach-gt32.true

pub returns : goal.returns
returns c = refused_0 c.args.pitch c.args.overhang c.reach_of-reach.result (sym c.settable.ensures ∙ c.if-not-settable.false) c.reach_of-reach.ensures
    c.if-reach-gt32.false
