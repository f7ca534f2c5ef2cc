use mathlib.Core.Path.{ap, ◌∙◌}
use mathlib.Core.Bool.{Bool, ◌||◌}
use Rattle.words.specs.Words.{column}
use Rattle.planes.specs.PlaneLaws.{fresh_columns}
use Rattle.planes.proofs.rows.fresh_row.Goals as goal

pub returns : goal.returns
returns c = fresh_columns _ _ _ _ _ _ _ _ _ _ c.row.ensures c.row-2.ensures c.row-3.ensures
    (λ c'. c.either-three.ensures c' ∙ ap (λ (b : Bool). b || column c.row-3.result c') (c.either.ensures c')) c.wide.ensures c.row-4.ensures
    c.both.ensures
