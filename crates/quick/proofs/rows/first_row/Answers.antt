use Rattle.words.specs.Words.{column}
use mathlib.Core.Path.{◌∙◌, sym}
use Rattle.laws.specs.Tests.{and_l, and_r}
use Rattle.planes.specs.PlaneLaws.{column_in}
use Rattle.quick.proofs.rows.first_row.Goals as goal

pub returns : goal.returns
returns c = λ k e. (
  and_r (column c.wide.result k) _ (sym (c.both.ensures k) ∙ e),
  sym
      (c.wide.ensures k (column_in c.wide.result k (and_l (column c.wide.result k) _ (sym (c.both.ensures k) ∙ e))))
      ∙ and_l (column c.wide.result k) _ (sym (c.both.ensures k) ∙ e),
)
