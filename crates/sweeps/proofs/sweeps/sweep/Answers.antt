use Rattle.std.proofs.Common.{◌+◌, sym, ◌∙◌, arith}
use Rattle.words.specs.Words.{column}
use Rattle.sweeps.specs.SweepLaws.{swept_none, swept_on, swept_still, swept_back, swept_all, none_clean, turned_in, behind_in, onward_none, onward_then}
use Rattle.sweeps.proofs.sweeps.sweep.Goals as goal

pub loop-r-init : goal.loop-r-init
loop-r-init c = (omega arith, c.requires, swept_none _ _ _ _, onward_none _ _ _ _ _ _)

pub in_turn-y-requires : goal.in_turn-y-requires
in_turn-y-requires c = c.loop-r-test.true

pub overflow_add-r : goal.overflow_add-r
overflow_add-r c = omega (arith, c.loop-r-test.true, c.requires.sizes.h_max)

pub overflow_add-y : goal.overflow_add-y
overflow_add-y c = omega (arith, c.loop-r.invariant.1.sizes.h_max, turned_in _ _ _ _ c.loop-r-test.true c.in_turn-y.ensures)

pub row-requires : goal.row-requires
row-requires c = (c.loop-r.invariant.1.marks_long, omega (arith, c.loop-r.invariant.1.sizes.h_max, turned_in _ _ _ _ c.loop-r-test.true c.in_turn-y.ensures))

pub settle_row-requires : goal.settle_row-requires
settle_row-requires c = (c.loop-r.invariant.1, turned_in _ _ _ _ c.loop-r-test.true c.in_turn-y.ensures)

pub row_behind-requires : goal.row_behind-requires
row_behind-requires c = omega (arith, c.loop-r.invariant.1.sizes.h_max, turned_in _ _ _ _ c.loop-r-test.true c.in_turn-y.ensures)

pub row-requires-then-any : goal.row-requires-then-any
row-requires-then-any c = let y = turned_in _ _ _ _ c.loop-r-test.true c.in_turn-y.ensures in
    (c.settle_row.ensures.planes.marks_long, behind_in _ _ _ (omega (arith, c.loop-r.invariant.1.sizes.h_max)) c.row_behind.ensures)

pub loop-r-smaller-then-any-2 : goal.loop-r-smaller-then-any-2
loop-r-smaller-then-any-2 c = omega (arith, c.loop-r-test.true)

pub loop-r-preserved-then-any-2 : goal.loop-r-preserved-then-any-2
loop-r-preserved-then-any-2 c = let loop = c.loop-r in
    let args = c.args in
    let more = c.loop-r-test.true in (
      omega (arith, more),
      c.settle_row.ensures.planes,
      swept_back args.up args.h loop.r loop.behind loop.ring args.ring.now loop.marks loop.invariant.2 more c.in_turn-y.result c.in_turn-y.ensures c.row_behind.result
          c.row_behind.ensures c.settle_row.new.ring c.settle_row.new.marks c.settle_row.ensures.falls args.w loop.invariant.1.sizes c.settle_row.ensures.planes.marks_framed (column c.row-then-any.result) c.row-then-any.ensures
          (c.any-then-any.ensures.some c.if-any-2.true),
      onward_then loop.invariant.3 c.settle_row.ensures.onward,
    )

pub loop-r-smaller-else-any-2 : goal.loop-r-smaller-else-any-2
loop-r-smaller-else-any-2 c = omega (arith, c.loop-r-test.true)

pub loop-r-preserved-else-any-2 : goal.loop-r-preserved-else-any-2
loop-r-preserved-else-any-2 c = let loop = c.loop-r in
    let args = c.args in
    let more = c.loop-r-test.true in (
      omega (arith, more),
      c.settle_row.ensures.planes,
      swept_on args.up args.h loop.r loop.behind loop.ring args.ring.now loop.marks loop.invariant.2 more c.in_turn-y.result c.in_turn-y.ensures c.row_behind.result
          c.row_behind.ensures c.settle_row.new.ring c.settle_row.new.marks c.settle_row.ensures.falls c.settle_row.ensures.unmarked.1 c.settle_row.ensures.unmarked.0
          (none_clean args.w args.h loop.invariant.1.sizes c.settle_row.new.marks c.settle_row.ensures.planes.marks_framed c.row_behind.result (column c.row-then-any.result) c.row-then-any.ensures
          (c.any-then-any.ensures.none c.if-any-2.false)),
      onward_then loop.invariant.3 c.settle_row.ensures.onward,
    )

pub loop-r-smaller : goal.loop-r-smaller
loop-r-smaller c = omega (arith, c.loop-r-test.true)

pub loop-r-preserved : goal.loop-r-preserved
loop-r-preserved c = let loop = c.loop-r in
    let args = c.args in
    let more = c.loop-r-test.true in (
      omega (arith, more),
      loop.invariant.1,
      swept_still args.up args.h loop.r loop.behind loop.ring args.ring.now loop.marks loop.invariant.2 more c.in_turn-y.result c.in_turn-y.ensures
          (none_clean args.w args.h loop.invariant.1.sizes loop.marks loop.invariant.1.marks_framed (c.in_turn-y.result + 33) (column c.row.result)
          c.row.ensures (c.any.ensures.none c.if-any.false)),
      loop.invariant.3,
    )

pub shape_of-ring : goal.shape_of-ring
shape_of-ring c = c.loop-r.invariant.1.ring_long ∙ sym c.requires.ring_long

pub shape_of-marks : goal.shape_of-marks
shape_of-marks c = c.loop-r.invariant.1.marks_long ∙ sym c.requires.marks_long

pub shape_of-got : goal.shape_of-got
shape_of-got c = c.loop-r.invariant.1.got_long ∙ sym c.requires.got_long

pub returns : goal.returns
returns c = let loop = c.loop-r in
    let args = c.args in record {
      planes = loop.invariant.1;
      ends = (
        swept_all args.w args.up args.h loop.r loop.behind loop.ring args.ring.now loop.marks loop.invariant.1.marks_framed loop.invariant.1.sizes
            (omega (arith, c.loop-r-test.false)) loop.invariant.2,
        loop.invariant.2.fell,
      );
      onward = loop.invariant.3;
    }
