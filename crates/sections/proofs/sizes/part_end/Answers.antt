use Rattle.rules.specs.Jobs.{head_end, part_end}
use native.Mathlib.Omega.{arith}
use Rattle.sections.proofs.sizes.part_end.Goals as goal

pub returns : goal.returns
unfolding part_end head_end
returns c = (omega arith, omega arith)
