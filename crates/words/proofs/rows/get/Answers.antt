use Rattle.words.specs.Words.{column}
use Rattle.words.specs.RowLaws.{row_got}
use Rattle.words.proofs.rows.get.Goals as goal

pub returns : goal.returns
unfolding column
returns c = row_got _ _ (c.type_inv.l _).fits (c.type_inv.l _).fits (c.type_inv.l _).fits
    (c.type_inv.l _).fits
