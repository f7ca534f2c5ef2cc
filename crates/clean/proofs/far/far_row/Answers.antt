use Rattle.words.specs.Words.{column}
use Rattle.clean.specs.FarLaws.{disc_small, far_none, far_all, far_some}
use native.Mathlib.Omega.{arith}
use Rattle.clean.proofs.far.far_row.Goals as goal

pub returns-then-y-t : goal.returns-then-y-t
returns-then-y-t c = λ w h z fr ly a A. far_none w h _ _ z _ fr ly _ A c.if-y-t.true (column c.none.result) c.none.ensures

pub returns-then-t-y : goal.returns-then-t-y
returns-then-t-y c = λ w h z fr ly a A. far_all w h _ _ z _ fr ly _ A c.if-t-y.true (column c.args.all) a

pub overflow_mul-c : goal.overflow_mul-c
overflow_mul-c c = omega (arith, disc_small _ c.requires.2)

pub near_row-requires : goal.near_row-requires
near_row-requires c = (c.requires.0, c.requires.1, omega (arith, disc_small _ c.requires.2), c.requires.3)

pub returns : goal.returns
returns c = λ w h z fr ly a A. far_some w h _ _ z _ fr ly _ A (column c.but_not.result) (column c.args.all) (column c.near_row.result) a (c.near_row.ensures w h z fr ly) c.but_not.ensures
