use Rattle.rules.specs.Jobs.{part_end, head_end}
use Rattle.sections.specs.Reading.{part_stretch_lem}
use native.Mathlib.Omega.{arith}
use Rattle.sections.proofs.reading.part_in.Goals as goal

pub slice_bounds-result-count : goal.slice_bounds-result-count
unfolding part_end head_end
slice_bounds-result-count c = omega arith

pub slice_bounds-result-start : goal.slice_bounds-result-start
unfolding part_end head_end
slice_bounds-result-start c = omega arith

pub returns : goal.returns
returns c = part_stretch_lem _ _ _ c.requires.1 c.part_end-to.ensures.0
