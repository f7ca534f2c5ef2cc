use Rattle.std.proofs.Common.{arith}
use Rattle.sweeps.specs.TellLaws.{telling_none, telling_more, telling_all}
use Rattle.sweeps.proofs.visits.tell.Goals as goal

pub bounds-cand-i : goal.bounds-cand-i
bounds-cand-i c = c.requires.2

pub loop-left-init : goal.loop-left-init
loop-left-init c = telling_none _ _ _ _ _ _ _ _ _

pub overflow_add-x : goal.overflow_add-x
overflow_add-x c = omega (arith, c.requires.3, c.last-k.ensures.1)

pub overflow_sub-x : goal.overflow_sub-x
overflow_sub-x c = (c.requires.4 c.last-k.result (c.loop-left.invariant.among c.last-k.result c.last-k.ensures.1 c.last-k.ensures.2)).0

pub tell_pixel-requires : goal.tell_pixel-requires
tell_pixel-requires c = let M = c.requires.4 c.last-k.result (c.loop-left.invariant.among c.last-k.result c.last-k.ensures.1 c.last-k.ensures.2) in
    (omega (arith, c.requires.0, c.loop-left.invariant.marks_long), omega (arith, c.requires.1, c.loop-left.invariant.got_long), c.last-k.ensures.1, omega (arith, M, c.loop-left.invariant.rings_long))

pub loop-left-smaller : goal.loop-left-smaller
loop-left-smaller c = c.without_last-left.ensures.1

pub loop-left-preserved : goal.loop-left-preserved
loop-left-preserved c = telling_more _ _ _ _ _ _ _ c.last-k.result _ _ _ _ _ _ _ _ _ _ c.last-k.ensures.1 c.last-k.ensures.2 (rw (← c.last-k.ensures.0) at c.without_last-left.ensures.0) c.loop-left.invariant
    c.tell_pixel.ensures.lowers c.tell_pixel.ensures.ring c.tell_pixel.auto.ring c.tell_pixel.auto.marks c.tell_pixel.auto.got

pub shape_of-ring : goal.shape_of-ring
shape_of-ring c = c.loop-left.invariant.rings_long

pub shape_of-marks : goal.shape_of-marks
shape_of-marks c = c.loop-left.invariant.marks_long

pub shape_of-got : goal.shape_of-got
shape_of-got c = c.loop-left.invariant.got_long

pub returns : goal.returns
returns c = telling_all (omega arith) c.loop-left.invariant
