use mathlib.Core.Path.{ap, ◌∙◌}
use mathlib.Core.Bool.{Bool, ◌&&◌}
use Rattle.words.specs.Words.{column}
use Rattle.planes.specs.PlaneLaws.{column_in}
use Rattle.posts.specs.LookLaws.{looked_none, looked_still, looked_some, fresh_free}
use Rattle.posts.proofs.taking.look.Goals as goal

pub returns-then-not-any : goal.returns-then-not-any
returns-then-not-any c = λ k b e l. looked_none k b _ e l (column c.args.disc) _ _ (column c.both-free.result) (λ x. c.both-free.ensures x ∙ ap (λ (t : Bool). t && column c.args.disc x) (c.two.ensures x)) (c.any.ensures.none c.if-not-any.true)

pub returns-then-not-any-2 : goal.returns-then-not-any-2
returns-then-not-any-2 c = λ k b e l. looked_still k b _ e l (column c.args.disc) _ _ (column c.both-free.result) (λ x. c.both-free.ensures x ∙ ap (λ (t : Bool). t && column c.args.disc x) (c.two.ensures x))
    c.requires.2 (column c.fresh-new.result) (column_in c.fresh-new.result) c.fresh-new.ensures (c.any-2.ensures.none c.if-not-any-2.true)

pub along-requires : goal.along-requires
along-requires c = λ x e. fresh_free _ _ _ (column_in c.fresh-new.result) c.fresh-new.ensures x e

pub returns : goal.returns
returns c = λ k b e l. looked_some k b _ e l (column c.args.disc) _ _ (column c.both-free.result) (λ x. c.both-free.ensures x ∙ ap (λ (t : Bool). t && column c.args.disc x) (c.two.ensures x))
    c.requires.2 (column c.fresh-new.result) (column_in c.fresh-new.result) c.fresh-new.ensures (column c.along.result) c.along.ensures _ _ c.get.ensures.rest_within c.get.ensures.got_within (c.any-2.ensures.some c.if-not-any-2.false)
