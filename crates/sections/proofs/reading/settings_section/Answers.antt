use mathlib.Core.Path.{◌∙◌}
use Rattle.sections.specs.Reading.{only}
use Rattle.sections.proofs.reading.settings_section.Goals as goal

pub returns : goal.returns
returns c = c.section.ensures ∙ only _ 0 5 2
