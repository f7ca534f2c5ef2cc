use Rattle.lines.specs.Lines.{wrote_long}
use Rattle.lines.specs.Whole.{no_lines_yet, line_room, line_more, going_end}
use native.Mathlib.Omega.{arith}
use Rattle.lines.proofs.layer_lines.Goals as goal

pub loop-k-init : goal.loop-k-init
loop-k-init c = (omega arith, no_lines_yet (omega arith))

pub overflow_sub-n : goal.overflow_sub-n
overflow_sub-n c = omega arith

pub overflow_sub-n-in-loop-k : goal.overflow_sub-n-in-loop-k
overflow_sub-n-in-loop-k c = omega arith

pub counted_line-at-requires : goal.counted_line-at-requires
counted_line-at-requires c = (c.requires.0, (omega arith, line_room c.loop-k.invariant.1 c.loop-k-test.true c.requires.1))

pub loop-k-preserved : goal.loop-k-preserved
loop-k-preserved c = (omega arith, line_more c.loop-k.invariant.1 c.counted_line-at.ensures)

pub shape_of-out : goal.shape_of-out
shape_of-out c = wrote_long c.loop-k.invariant.1.wrote

pub returns : goal.returns
returns c = going_end c.loop-k.invariant.1 c.loop-k.invariant.0 c.loop-k-test.false
