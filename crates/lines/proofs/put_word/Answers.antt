use Rattle.laws.specs.Runs.{over_none}
use Rattle.lines.specs.Lines.{wrote_long}
use Rattle.lines.specs.Text.{word_more, word_done}
use native.Mathlib.Omega.{arith}
use Rattle.lines.proofs.put_word.Goals as goal

pub loop-i-init : goal.loop-i-init
loop-i-init c = (omega arith, record { ends = omega arith; holds = over_none c.args.out.now c.args.at; fits = omega arith })

pub overflow_add-out : goal.overflow_add-out
overflow_add-out c = omega arith

pub bounds-out-at : goal.bounds-out-at
bounds-out-at c = omega (arith, wrote_long c.loop-i.invariant.1)

pub loop-i-preserved : goal.loop-i-preserved
loop-i-preserved c = (omega arith, word_more c.args.word.now c.loop-i.i c.loop-i-test.true c.requires c.loop-i.invariant.1)

pub overflow_add-result : goal.overflow_add-result
overflow_add-result c = omega arith

pub shape_of-out : goal.shape_of-out
shape_of-out c = wrote_long c.loop-i.invariant.1

pub returns : goal.returns
returns c = word_done c.loop-i.i c.loop-i-test.false c.loop-i.invariant.0 c.loop-i.invariant.1
