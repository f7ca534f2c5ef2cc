use Rattle.words.specs.Words.{column}
use Rattle.pair.specs.FoundLaws.{found, found_none}
use Rattle.pair.proofs.rows.find_row.Goals as goal

pub returns-then-not-any : goal.returns-then-not-any
returns-then-not-any c = found_none _ _ _ _ _ _ _ _ (column c.read_two-both.result.up) (column c.read_two-both.result.low) (column c.both.result) (column c.but_not-s.result) (λ k. (c.read_two-both.ensures k).1)
    (λ k. (c.read_two-both.ensures k).0) c.both.ensures c.but_not-s.ensures c.put.ensures (c.any.ensures.none c.if-not-any.true)

pub returns : goal.returns
returns c = found _ _ _ _ _ _ _ _ _ (column c.read_two-both.result.up) (column c.read_two-both.result.low) (column c.both.result) (column c.but_not-s.result) (λ k. (c.read_two-both.ensures k).1)
    (λ k. (c.read_two-both.ensures k).0) c.both.ensures c.but_not-s.ensures c.put.ensures c.put-2.ensures
