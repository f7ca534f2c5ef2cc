use Rattle.words.specs.RowLaws.{part_taken, none_taken}
use Rattle.words.proofs.rows.take_word.Goals as goal

pub returns-then-x-eq0 : goal.returns-then-x-eq0
returns-then-x-eq0 c = none_taken _ _ _ _ _ c.if-x-eq0.true

pub returns : goal.returns
returns c = part_taken _ _ _ _ _ _ _ c.before.before.before.before.before.before.before.before.ranges.x.fits c.word_of-r.ensures c.write_word.ensures
