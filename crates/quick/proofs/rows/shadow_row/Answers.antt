use Rattle.std.proofs.Common.{Bool, not, ◌&&◌, ap₂, ◌∙◌}
use Rattle.quick.specs.Sureness.{shadow_part}
use Rattle.quick.proofs.rows.shadow_row.Goals as goal

pub returns : goal.returns
unfolding shadow_part
returns c = λ k. c.but_not.ensures k ∙ ap₂ (λ (a b : Bool). a && not b) (c.row.ensures k) (c.row-2.ensures k)
