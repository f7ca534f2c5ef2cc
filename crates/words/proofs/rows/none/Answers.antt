use Rattle.words.specs.Words.{column}
use Rattle.words.specs.RowLaws.{rows_none}
use Rattle.words.proofs.rows.none.Goals as goal

pub returns : goal.returns
unfolding column
returns c = rows_none
