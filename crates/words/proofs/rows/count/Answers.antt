use Rattle.words.specs.Words.{column}
use Rattle.words.specs.CountLaws.{row_count}
use Rattle.words.proofs.rows.count.Goals as goal

pub returns : goal.returns
unfolding column
returns c = let (ea, _, la) = c.ones.ensures in
    let (eb, _, lb) = c.ones-2.ensures in
    let (ec, _, lc) = c.ones-3.ensures in
    let (ed, _, ld) = c.ones-4.ensures in
    rw (ea, eb, ec, ed) (row_count _ _ _ _ la lb lc ld)
