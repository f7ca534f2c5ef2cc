use Rattle.words.specs.WordLaws.{full_none, full_all, full_part}
use native.Mathlib.Omega.{arith}
use Rattle.words.proofs.rows.full_word.Goals as goal

pub returns-then-w-b : goal.returns-then-w-b
returns-then-w-b c = full_none _ _ (omega arith)

pub returns-then-b-w : goal.returns-then-b-w
returns-then-b-w c = full_all _ _ (omega arith)

pub returns : goal.returns
returns c = full_part _ _ _ (omega arith) (omega arith)
