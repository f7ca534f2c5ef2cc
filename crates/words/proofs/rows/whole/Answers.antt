use Rattle.words.specs.Words.{column}
use Rattle.words.specs.RowLaws.{columns, part_end_lem}
use Rattle.words.specs.WordLaws.{whole_row, first_word}
use native.Mathlib.Omega.{arith}
use Rattle.words.proofs.rows.whole.Goals as goal

pub returns : goal.returns
unfolding column
returns c = columns _ _ _ _ _ (first_word _ _ _ _ (omega arith) c.word-a.ensures)
    (whole_row _ _ _ 1 _ (omega arith) c.word-b.ensures) (whole_row _ _ _ 2 _ (omega arith) c.word-c.ensures)
    (whole_row _ _ _ 3 _ (omega arith) c.word-d.ensures) (λ k h. part_end_lem _ _ _ k (omega arith) h)
