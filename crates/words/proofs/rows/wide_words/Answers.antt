use Rattle.words.specs.Words.{column}
use Rattle.words.specs.RowLaws.{rows_wide}
use Rattle.words.proofs.rows.wide_words.Goals as goal

pub returns : goal.returns
unfolding column
returns c = rows_wide _ _ _ _ _ _ _ _ _ c.requires.1 c.ranges.a.fits c.ranges.b.fits c.ranges.c.fits c.ranges.d.fits c.spread.ensures c.spread-2.ensures
    c.spread-3.ensures c.spread-4.ensures
