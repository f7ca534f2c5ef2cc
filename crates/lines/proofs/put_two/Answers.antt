use Rattle.lines.specs.Lines.{◌then◌}
use Rattle.lines.proofs.put_two.Goals as goal

pub returns : goal.returns
returns c = c.put_spaced-next.ensures then c.put_spaced.ensures
