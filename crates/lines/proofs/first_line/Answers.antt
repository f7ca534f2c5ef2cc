use Rattle.lines.specs.Lines.{job_of, ◌then◌}
use Rattle.lines.proofs.first_line.Goals as goal

pub returns : goal.returns
unfolding job_of
returns c = c.put_word-word.ensures then c.put_spaced-width.ensures then c.put_spaced-height.ensures then c.put_spaced-layers.ensures
    then c.put_word-told.ensures then c.put_spaced-number.ensures then c.put_byte.ensures
