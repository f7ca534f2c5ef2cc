use native.Mathlib.Omega.{arith}
use Rattle.words.specs.Words.{column}
use Rattle.words.specs.RowLaws.{columns, part_end_lem}
use Rattle.words.specs.WordLaws.{none_row}
use Rattle.words.proofs.rows.read_short.Goals as goal

pub returns-then-n-le16 : goal.returns-then-n-le16
unfolding column
returns-then-n-le16 c = columns _ _ _ _ _ c.word_of-a.ensures c.word_of-b.ensures (none_row _ _ _ 2 (omega arith)) (none_row _ _ _ 3 (omega arith))
    (λ k h. part_end_lem _ _ _ k c.requires.1 h)

pub returns : goal.returns
unfolding column
returns c = columns _ _ _ _ _ c.word_of-a.ensures c.word_of-b.ensures c.word_of-c.ensures c.word_of-d.ensures (λ k h. part_end_lem _ _ _ k c.requires.1 h)
