use Rattle.words.specs.Words.{column}
use Rattle.words.specs.RowLaws.{rows_but_not}
use Rattle.words.proofs.rows.but_not.Goals as goal

pub returns : goal.returns
unfolding column
returns c = let x = c.struct_known-2-1.given in
    let y = c.struct_known-1.given in
    rows_but_not _ _ _ _ _ _ _ _ x.0.fits x.1.0.fits x.1.1.0.fits x.1.1.1.0.fits y.0.fits y.1.0.fits y.1.1.0.fits y.1.1.1.0.fits
