use mathlib.Core.Path.{ap, ap₂, ◌∙◌}
use mathlib.Core.Bool.{Bool, not, ◌&&◌}
use lib.Dec.{ltb}
use Rattle.posts.proofs.taking.about.Goals as goal

pub returns : goal.returns
returns c = λ k. c.but_not.ensures k ∙ ap₂ (λ (a b : Bool). a && not b) (c.full.ensures k) (c.full-2.ensures k ∙ ap (ltb k) c.less.ensures)
