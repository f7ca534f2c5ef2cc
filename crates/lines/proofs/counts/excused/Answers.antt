use Prim.Native.Nat.{◌*◌}
use mathlib.Core.Path.{refl}
use Rattle.rules.specs.Tools.{count}
use Rattle.rules.specs.Images.{ring_at}
use Rattle.rules.specs.Planning as planning
use Rattle.laws.specs.Tests.{count_le}
use Rattle.lines.specs.Counts.{count_next, count_end, ring_area, ring_start, ring_in}
use native.Mathlib.Omega.{arith}
use Rattle.lines.proofs.counts.excused.Goals as goal

pub overflow_mul-all : goal.overflow_mul-all
overflow_mul-all c = omega (arith, ring_area c.args.w c.args.h c.args.i c.requires.0 c.requires.1.0)

pub overflow_mul-start : goal.overflow_mul-start
overflow_mul-start c = omega (arith, ring_start c.args.w c.args.h c.args.i c.requires.0 c.requires.1.0 c.requires.1.1.0)

pub loop-p-init : goal.loop-p-init
unfolding count
loop-p-init c = (omega arith, refl)

pub overflow_add-start : goal.overflow_add-start
overflow_add-start c = let args = c.args in let pre = c.requires in
    omega (arith, ring_start args.w args.h args.i pre.0 pre.1.0 pre.1.1.0, ring_area args.w args.h args.i pre.0 pre.1.0, c.loop-p-test.true)

pub offset_bounds-rings-start : goal.offset_bounds-rings-start
offset_bounds-rings-start c = let args = c.args in let pre = c.requires in
    omega (arith, ring_start args.w args.h args.i pre.0 pre.1.0 pre.1.1.0, ring_area args.w args.h args.i pre.0 pre.1.0, c.loop-p-test.true)

pub bounds-rings-start : goal.bounds-rings-start
bounds-rings-start c = ring_in c.args.w c.args.h c.args.i c.requires.0 c.requires.1.0 _ c.loop-p.p c.requires.1.1.1 c.loop-p-test.true

pub overflow_add-n : goal.overflow_add-n
overflow_add-n c = let args = c.args in
    omega (
      arith,
      c.one-n.ensures.1,
      count_le c.loop-p.p (planning.excused (ring_at args.w args.h args.rings.now) args.i),
      c.loop-p.invariant.1,
      ring_area args.w args.h args.i
          c.requires.0 c.requires.1.0,
      c.loop-p-test.true,
    )

pub overflow_add-p : goal.overflow_add-p
overflow_add-p c = omega (arith, ring_area c.args.w c.args.h c.args.i c.requires.0 c.requires.1.0, c.loop-p-test.true)

pub loop-p-preserved : goal.loop-p-preserved
unfolding planning.excused ring_at
loop-p-preserved c = let args = c.args in
    (omega arith, count_next (planning.excused (ring_at args.w args.h args.rings.now) args.i) c.loop-p.p c.loop-p.n c.one-n.result c.loop-p.invariant.1 c.one-n.ensures.0)

pub returns : goal.returns
returns c = let args = c.args in
    count_end (planning.excused (ring_at args.w args.h args.rings.now) args.i) c.loop-p.p (args.h * args.w) c.loop-p.n c.loop-p.invariant.0
    c.loop-p-test.false c.loop-p.invariant.1 (ring_area args.w args.h args.i c.requires.0 c.requires.1.0)
