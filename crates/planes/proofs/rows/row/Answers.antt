use mathlib.Core.Path.{◌∙◌}
use Rattle.planes.specs.PlaneLaws.{row_words}
use Rattle.planes.proofs.rows.row.Goals as goal

pub returns : goal.returns
returns c = λ c'. c.get.ensures c' ∙ row_words _ _ c'
