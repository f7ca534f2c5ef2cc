use Rattle.words.specs.WordLaws.{whole_row, part_row, none_row}
use native.Mathlib.Omega.{arith}
use Rattle.words.proofs.rows.word_of.Goals as goal

pub returns-then-b-n : goal.returns-then-b-n
returns-then-b-n c = whole_row _ _ _ _ _ (omega arith) c.word.ensures

pub returns-then-n-b : goal.returns-then-n-b
returns-then-n-b c = none_row _ _ _ _ (omega arith)

pub returns : goal.returns
returns c = part_row _ _ _ _ _ (omega arith) c.part.ensures
