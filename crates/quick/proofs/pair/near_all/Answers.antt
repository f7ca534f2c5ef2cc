use Rattle.quick.specs.Layers.{far_near}
use Rattle.words.specs.Words.{column}
use Rattle.quick.proofs.pair.near_all.Goals as goal

pub returns-clause-nearby : goal.returns-clause-nearby
returns-clause-nearby c = let a = c.args in
    far_near a.w a.h a.q.0 a.r a.low.now _ (column a.far) (column c.near_row-close.result) (column c.but_not.result) c.requires.fits.0.0 c.draw.ensures
    c.requires.fits.0.1 c.near_row-close.ensures c.but_not.ensures (c.any-2.ensures.none c.if-any.false)
