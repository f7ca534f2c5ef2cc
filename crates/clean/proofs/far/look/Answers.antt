use Rattle.words.specs.Words.{column}
use Rattle.clean.specs.FarLaws.{look_none, look_some, look_full}
use native.Mathlib.Omega.{arith}
use Rattle.clean.proofs.far.look.Goals as goal

pub overflow_add-k : goal.overflow_add-k
overflow_add-k c = omega (arith, c.requires.1)

pub returns-then-not-any : goal.returns-then-not-any
returns-then-not-any c = λ w a A. look_none w _ _ _ _ (column c.row-x.result) c.row-x.ensures A (c.any.ensures.none c.if-not-any.true)

pub overflow_add-till : goal.overflow_add-till
overflow_add-till c = omega (arith, c.requires.1, c.requires.2)

pub overflow_add-till-2 : goal.overflow_add-till-2
overflow_add-till-2 c = omega (arith, c.requires.1, c.requires.2)

pub returns-then-any : goal.returns-then-any
returns-then-any c = λ w a A. look_some w _ _ _ _ (column c.row-x.result) c.row-x.ensures A

pub returns : goal.returns
returns c = λ w a A. look_full w _ _ _ _ (column c.row-x.result) c.row-x.ensures A (column c.args.all) (column c.but_not.result) a c.but_not.ensures (c.any-2.ensures.none c.if-any.false)
