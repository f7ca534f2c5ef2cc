use Rattle.rules.specs.Jobs.{settings_in}
use Rattle.sections.proofs.reading.settings_in.Goals as goal

pub returns : goal.returns
unfolding settings_in
returns c = rw (c.get16-w.ensures.0, c.get16-h.ensures.0, c.get16-n.ensures.0, c.get16-pitch.ensures.0, c.get16-overhang.ensures.0)
