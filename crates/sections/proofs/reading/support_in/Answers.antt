use Rattle.rules.specs.Jobs.{support_end}
use Rattle.sections.specs.Reading.{support_stretch_lem}
use native.Mathlib.Omega.{arith}
use Rattle.sections.proofs.reading.support_in.Goals as goal

pub slice_bounds-result-count : goal.slice_bounds-result-count
unfolding support_end
slice_bounds-result-count c = omega arith

pub slice_bounds-result-start : goal.slice_bounds-result-start
unfolding support_end
slice_bounds-result-start c = omega arith

pub returns : goal.returns
returns c = support_stretch_lem _ _ _ _ _ c.requires c.part_end-from.ensures.0 c.support_end-to.ensures.0
