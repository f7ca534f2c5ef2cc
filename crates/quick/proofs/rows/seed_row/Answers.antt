use Rattle.std.proofs.Common.{◌&&◌, ap₂, ◌∙◌}
use Rattle.quick.specs.Sureness.{seed_part}
use Rattle.quick.proofs.rows.seed_row.Goals as goal

pub returns : goal.returns
unfolding seed_part
returns c = λ k. c.both.ensures k ∙ ap₂ ◌&&◌ (c.row.ensures k) (c.row-2.ensures k)
