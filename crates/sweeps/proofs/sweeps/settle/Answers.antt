use Rattle.std.proofs.Common.{ℕ, List, sym, ◌∙◌, subst, arith}
use Rattle.sweeps.specs.Marks.{SweepPlanes, Onward}
use Rattle.sweeps.specs.SweepLaws.{settled, onward_none, onward_then}
use Rattle.sweeps.proofs.sweeps.settle.Goals as goal

pub copy-requires : goal.copy-requires
copy-requires c = c.requires.1 ∙ sym c.requires.0.marks_long

pub loop-ring-init : goal.loop-ring-init
loop-ring-init c = let args = c.args in
    let e = sym c.copy.ensures in (
      subst (λ (m : List ℕ). SweepPlanes args.w args.h args.ring.now m args.got.now args.cand.now) e c.requires.0,
      subst (λ (m : List ℕ). Onward args.w args.h args.ring.now args.ring.now m args.front.now args.got.now args.got.now args.cand.now) e (onward_none _ _ _ _ _ _),
    )

pub sweep-requires : goal.sweep-requires
sweep-requires c = c.loop-ring.invariant.0

pub sweep-requires-in-loop-ring : goal.sweep-requires-in-loop-ring
sweep-requires-in-loop-ring c = c.sweep.ensures.planes

pub shape_of-ring-then-not-sweep : goal.shape_of-ring-then-not-sweep
shape_of-ring-then-not-sweep c = c.sweep-in-loop-ring.ensures.planes.ring_long ∙ sym c.requires.0.ring_long

pub shape_of-marks-then-not-sweep : goal.shape_of-marks-then-not-sweep
shape_of-marks-then-not-sweep c = c.sweep-in-loop-ring.ensures.planes.marks_long ∙ sym c.requires.1

pub shape_of-got-then-not-sweep : goal.shape_of-got-then-not-sweep
shape_of-got-then-not-sweep c = c.sweep-in-loop-ring.ensures.planes.got_long ∙ sym c.requires.0.got_long

pub returns-then-not-sweep : goal.returns-then-not-sweep
returns-then-not-sweep c = let none = c.sweep-in-loop-ring.ensures.ends.0 c.if-not-sweep.true in
    let onward = onward_then (onward_then c.loop-ring.invariant.1 c.sweep.ensures.onward) c.sweep-in-loop-ring.ensures.onward in record {
      unmarked = none;
      got_from = onward.adds;
      grown = settled onward none;
    }

pub loop-ring-smaller : goal.loop-ring-smaller
loop-ring-smaller c = omega (arith, c.sweep.ensures.ends.1 c.loop-ring-test.true, c.sweep-in-loop-ring.ensures.ends.1 c.if-not-sweep.false)

pub loop-ring-preserved : goal.loop-ring-preserved
loop-ring-preserved c = (c.sweep-in-loop-ring.ensures.planes, onward_then (onward_then c.loop-ring.invariant.1 c.sweep.ensures.onward) c.sweep-in-loop-ring.ensures.onward)

pub shape_of-ring : goal.shape_of-ring
shape_of-ring c = c.sweep.ensures.planes.ring_long ∙ sym c.requires.0.ring_long

pub shape_of-marks : goal.shape_of-marks
shape_of-marks c = c.sweep.ensures.planes.marks_long ∙ sym c.requires.1

pub shape_of-got : goal.shape_of-got
shape_of-got c = c.sweep.ensures.planes.got_long ∙ sym c.requires.0.got_long

pub returns : goal.returns
returns c = let none = c.sweep.ensures.ends.0 c.loop-ring-test.false in
    let onward = onward_then c.loop-ring.invariant.1 c.sweep.ensures.onward in record {
      unmarked = none;
      got_from = onward.adds;
      grown = settled onward none;
    }
