use Rattle.words.specs.SingleLaws.{numbering_none, numbering_more, numbering_all}
use native.Mathlib.Omega.{arith}
use Rattle.words.proofs.single.number.Goals as goal

pub loop-left-init : goal.loop-left-init
loop-left-init c = numbering_none _ _ _ _ c.requires

pub overflow_add-l : goal.overflow_add-l
overflow_add-l c = omega (arith, c.loop-left.invariant.among c.last-k.result c.last-k.ensures.1 c.last-k.ensures.2)

pub offset_bounds-l-x : goal.offset_bounds-l-x
offset_bounds-l-x c = omega (arith, c.loop-left.invariant.among c.last-k.result c.last-k.ensures.1 c.last-k.ensures.2)

pub bounds-l-x : goal.bounds-l-x
bounds-l-x c = omega (arith, c.loop-left.invariant.long, c.loop-left.invariant.among c.last-k.result c.last-k.ensures.1 c.last-k.ensures.2)

pub loop-left-smaller : goal.loop-left-smaller
loop-left-smaller c = c.without_last-left.ensures.1

pub loop-left-preserved : goal.loop-left-preserved
loop-left-preserved c = numbering_more _ _ _ _ _ _ _ _ c.last-k.ensures.1 c.last-k.ensures.2 (rw (← c.last-k.ensures.0) at c.without_last-left.ensures.0) c.loop-left.invariant

pub shape_of-l : goal.shape_of-l
shape_of-l c = c.loop-left.invariant.long

pub returns : goal.returns
returns c = numbering_all _ _ _ _ _ _ (omega arith) c.loop-left.invariant
