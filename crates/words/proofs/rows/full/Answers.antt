use Rattle.words.specs.Words.{column}
use Rattle.words.specs.RowLaws.{columns}
use native.Mathlib.Omega.{arith}
use borrow.Author.Tests.{le-ltb}
use Rattle.words.proofs.rows.full.Goals as goal

pub returns : goal.returns
unfolding column
returns c = columns _ _ _ _ _ c.full_word-a.ensures c.full_word-b.ensures c.full_word-c.ensures c.full_word-d.ensures
    (λ k h. le-ltb k _ (omega (arith, c.requires)))
