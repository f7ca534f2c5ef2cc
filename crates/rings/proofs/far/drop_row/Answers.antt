use Rattle.words.specs.Words.{column}
use Rattle.rings.specs.FarLaws.{drop_row_lem, keep_row}
use Rattle.rings.proofs.far.drop_row.Goals as goal

pub returns-then-not-any : goal.returns-then-not-any
returns-then-not-any c = λ w h z fl fr ly. keep_row w h _ _ _ _ (column c.row-own.result) c.row-own.ensures (c.any.ensures.none c.if-not-any.true)

pub returns : goal.returns
returns c = λ w h z fl fr ly. drop_row_lem w h _ _ _ _ _ (column c.row-own.result) (column c.near_row-close.result) (column c.both.result) z fr ly c.row-own.ensures (c.near_row-close.ensures w h z fl ly)
    c.both.ensures c.put.ensures
