use Rattle.std.proofs.Common.{◌+◌, ◌*◌, sym, refl, ◌∙◌, inl, inr, arith}
use Rattle.sweeps.specs.SweepLaws.{visit_less, mark_on, clean_more, around_clean, around_near, near_then, falls_then, framed_clean, onward_none, onward_then}
use Rattle.sweeps.proofs.sweeps.settle_row.Goals as goal

pub overflow_add-i : goal.overflow_add-i
overflow_add-i c = let pre = c.requires in omega (arith, pre.1, pre.0.sizes.h_max)

pub overflow_mul-i : goal.overflow_mul-i
overflow_mul-i c = let pre = c.requires in omega (arith, pre.1, pre.0.sizes.h_max)

pub loop-q-init : goal.loop-q-init
loop-q-init c = (omega arith, c.requires.0, inr (refl, λ j u. u), (λ j x y. absurd (omega arith)), (λ j u. inl u), onward_none _ _ _ _ _ _)

pub overflow_add-m : goal.overflow_add-m
overflow_add-m c = let pre = c.requires in omega (arith, pre.1, pre.0.sizes.h_max, c.loop-q-test.true)

pub offset_bounds-marks-i : goal.offset_bounds-marks-i
offset_bounds-marks-i c = let pre = c.requires in omega (arith, pre.1, pre.0.sizes.h_max, c.loop-q-test.true)

pub bounds-marks-i : goal.bounds-marks-i
bounds-marks-i c = let pre = c.requires in
    omega (arith, pre.1, pre.0.sizes.h_max, c.loop-q-test.true, c.loop-q.invariant.1.marks_long)

pub overflow_add-q : goal.overflow_add-q
overflow_add-q c = omega (arith, c.loop-q-test.true)

pub loop-q-smaller-then-m-eq0 : goal.loop-q-smaller-then-m-eq0
loop-q-smaller-then-m-eq0 c = omega (arith, c.loop-q-test.true)

pub loop-q-preserved-then-m-eq0 : goal.loop-q-preserved-then-m-eq0
loop-q-preserved-then-m-eq0 c = let loop = c.loop-q in
    let r = c.args.r in (
      omega (arith, c.loop-q-test.true),
      loop.invariant.1,
      loop.invariant.2,
      (λ j x y. clean_more ((r + 33) * 320) ((r + 33) * 5 + loop.q) loop.marks c.if-m-eq0.true loop.invariant.3 j x (omega arith)),
      loop.invariant.4,
      loop.invariant.5,
    )

pub last-k-requires : goal.last-k-requires
last-k-requires c = omega (arith, c.if-m-eq0.false)

pub visit-requires : goal.visit-requires
visit-requires c = let loop = c.loop-q in
    record {
      planes = loop.invariant.1;
      row_in = c.requires.1;
      word_in = c.loop-q-test.true;
      bit_inside = c.last-k.ensures.1;
      on = mark_on loop.marks c.args.r loop.q c.last-k.result c.last-k.ensures.1 c.last-k.ensures.2;
    }

pub loop-q-smaller : goal.loop-q-smaller
loop-q-smaller c = let loop = c.loop-q in
    let fits = c.slice_known-else-m-eq0-2-1.given in
    visit_less c.visit.new.ring loop.ring c.visit.new.marks loop.marks ((c.args.r + 33) * 5) loop.q c.before-q.result c.loop-q-test.true c.before-q.ensures (λ k. (fits k).fits)
    c.visit.ensures.falls

pub loop-q-preserved : goal.loop-q-preserved
loop-q-preserved c = let loop = c.loop-q in
    let args = c.args in
    let lq = c.loop-q-test.true in
    let lk = c.last-k.ensures.1 in
    let k = c.last-k.result in (
      omega (arith, c.before-q.ensures),
      c.visit.ensures.planes,
      falls_then c.visit.new.ring loop.ring args.ring.now c.visit.new.marks loop.marks args.marks.now ((args.r + 33) * 5 + loop.q) loop.invariant.2 c.visit.ensures.falls,
      around_clean args.r loop.q k lq lk c.visit.new.marks loop.marks c.visit.ensures.around c.before-q.result c.before-q.ensures loop.invariant.3,
      near_then (args.r + 33) c.visit.new.marks loop.marks args.marks.now loop.invariant.4
          (around_near args.r loop.q k lq lk c.visit.new.marks loop.marks c.visit.ensures.around args.w args.h loop.invariant.1.sizes c.visit.ensures.planes.marks_framed),
      onward_then loop.invariant.5 c.visit.ensures.onward,
    )

pub shape_of-ring : goal.shape_of-ring
shape_of-ring c = c.loop-q.invariant.1.ring_long ∙ sym c.requires.0.ring_long

pub shape_of-marks : goal.shape_of-marks
shape_of-marks c = c.loop-q.invariant.1.marks_long ∙ sym c.requires.0.marks_long

pub shape_of-got : goal.shape_of-got
shape_of-got c = c.loop-q.invariant.1.got_long ∙ sym c.requires.0.got_long

pub returns : goal.returns
returns c = let loop = c.loop-q in
    let planes = loop.invariant.1 in
    let r = c.args.r in
    let n = c.loop-q-test.false in record {
      planes = planes;
      falls = loop.invariant.2;
      unmarked = (framed_clean _ _ planes.sizes loop.marks planes.marks_framed (r + 33) (λ k l. loop.invariant.3 ((r + 33) * 320 + k) (omega arith) (omega arith)), loop.invariant.4);
      onward = loop.invariant.5;
    }
