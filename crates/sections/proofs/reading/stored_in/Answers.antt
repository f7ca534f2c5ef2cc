use mathlib.Core.Path.{ap, ◌∙◌}
use Rattle.rules.specs.Jobs.{be32}
use Rattle.sections.proofs.reading.stored_in.Goals as goal

pub returns : goal.returns
returns c = c.get32.ensures.0 ∙ ap (be32 c.args.f.now) c.part_end-at.ensures.0
