use Rattle.leans.specs.BitLaws.{row_start}
use mathlib.Core.Path.{◌∙◌}
use Rattle.quick.proofs.pair.far_of.Goals as goal

pub returns-then-t-most : goal.returns-then-t-most
returns-then-t-most c = λ l k lk e. c.get.ensures k ∙ row_start _ k lk ∙ e
