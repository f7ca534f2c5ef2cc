use Rattle.lines.specs.Lines.{line_of, ◌then◌}
use Rattle.lines.proofs.layer_line.Goals as goal

pub returns : goal.returns
unfolding line_of
returns c = c.put_decimal-first.ensures then c.put_spaced-second.ensures then c.put_spaced-third.ensures then c.put_spaced-fourth.ensures then c.put_byte.ensures
