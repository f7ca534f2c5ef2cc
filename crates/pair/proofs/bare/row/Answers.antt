use Rattle.words.specs.Words.{column}
use native.Mathlib.Omega.{arith}
use Rattle.pair.proofs.bare.row.Goals as goal

pub returns-then-quarters : goal.returns-then-quarters
returns-then-quarters c = record { here = λ k l e. c.stretch.ensures.1 _ (omega arith) (omega (arith, c.requires.0 k e)); kept = c.stretch.ensures.0 }

pub few-requires : goal.few-requires
unfolding column
few-requires c = ((λ k e. omega (arith, c.requires.0 k e, c.requires.1)), c.requires.2)

pub returns : goal.returns
unfolding column
returns c = c.few.ensures
