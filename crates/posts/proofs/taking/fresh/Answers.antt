use Rattle.words.specs.Words.{column}
use Rattle.posts.specs.LookLaws.{fresh_is}
use Rattle.posts.proofs.taking.fresh.Goals as goal

pub returns : goal.returns
returns c = fresh_is _ _ (column c.two.result) (column c.two-2.result) (column c.two-3.result) (column c.either.result) (column c.either-three.result) (column c.wide.result) _ _
    c.two.ensures c.two-2.ensures c.two-3.ensures c.either.ensures c.either-three.ensures c.wide.ensures c.both.ensures
