use mathlib.Core.Path.{◌≡◌, refl}
use Prim.Native.Nat.{◌+◌}
use Rattle.words.specs.Words.{column}
use Rattle.planes.specs.PlaneLaws.{row_fits}
use Rattle.pair.specs.ExcuseLaws.{excused_start, excused_row, excused_next, excused_empty, row_byte}
use native.Mathlib.Omega.{arith}
use Rattle.pair.proofs.rows.excuse.Goals as goal

pub bounds-ahead-0 : goal.bounds-ahead-0
bounds-ahead-0 c = omega (arith, c.requires.1.long)

pub loop-y-init : goal.loop-y-init
loop-y-init c = let p = c.requires in
    ((p.1.on 0 (omega arith)).1, excused_start _ _ _ _ _ p.0 p.2 p.3 p.4 _)

pub overflow_add-y : goal.overflow_add-y
overflow_add-y c = omega (arith, c.requires.0.h_max, c.loop-y-test.true)

pub offset_bounds-ahead-r : goal.offset_bounds-ahead-r
offset_bounds-ahead-r c = omega (arith, c.requires.0.h_max, c.loop-y-test.true)

pub bounds-ahead-r : goal.bounds-ahead-r
bounds-ahead-r c = let p = c.requires in omega (arith, p.1.long, p.0.h_max, c.loop-y-test.true)

pub overflow_add-r : goal.overflow_add-r
overflow_add-r c = omega (arith, c.requires.0.h_max, c.loop-y-test.true)

pub row-x-requires : goal.row-x-requires
row-x-requires c = let p = c.requires in (p.2.ready.long, omega (arith, p.0.h_max, c.loop-y-test.true))

pub overflow_mul-r : goal.overflow_mul-r
overflow_mul-r c = let p = c.requires in
    let a = c.args in
    let s = c.loop-y in
    omega (arith, row_byte a.h a.n s.y p.0.h_max c.loop-y-test.true p.4)

pub take-requires : goal.take-requires
take-requires c = let p = c.requires in
    let a = c.args in
    let s = c.loop-y in
    (p.4, omega (arith, p.5, s.invariant.1.long, row_fits s.y a.h a.n c.loop-y-test.true))

pub loop-y-smaller-then-any : goal.loop-y-smaller-then-any
loop-y-smaller-then-any c = let s = c.loop-y in
    let t = c.loop-y-test.true in
    omega (arith, t, c.requires.1.on (s.y + 1) (omega (arith, t)))

pub loop-y-preserved-then-any : goal.loop-y-preserved-then-any
loop-y-preserved-then-any c = let p = c.requires in
    let s = c.loop-y in
    let t = c.loop-y-test.true in
    let o = p.1.on (s.y + 1) (omega (arith, t)) in (
      o.1,
      excused_next _ _ _ _ _ p.0 p.2 p.3 p.4 s.y _ _ _ t (omega arith) refl
          (excused_row _ _ (column c.row-x.result) _ _ _ _ p.4 c.take.auto.out c.row-x.ensures c.take.ensures s.invariant.1),
    )

pub loop-y-smaller : goal.loop-y-smaller
loop-y-smaller c = let s = c.loop-y in
    let t = c.loop-y-test.true in
    omega (arith, t, c.requires.1.on (s.y + 1) (omega (arith, t)))

pub loop-y-preserved : goal.loop-y-preserved
loop-y-preserved c = let p = c.requires in
    let s = c.loop-y in
    let t = c.loop-y-test.true in
    let o = p.1.on (s.y + 1) (omega (arith, t)) in (
      o.1,
      excused_next _ _ _ _ _ p.0 p.2 p.3 p.4 s.y _ _ _ t (omega arith) refl
          (excused_empty _ _ _ _ _ p.0 p.2 p.3 p.4 s.y (column c.row-x.result) _ _ t c.row-x.ensures (c.any.ensures.none c.if-any.false) s.invariant.1),
    )

pub shape_of-out : goal.shape_of-out
shape_of-out c = c.loop-y.invariant.1.long

pub returns : goal.returns
returns c = let e : c.loop-y.y ≡ c.args.h = omega (arith, c.loop-y.invariant.0, c.loop-y-test.false) in
    rw e at c.loop-y.invariant.1
