use mathlib.Core.Path.{refl, ◌∙◌}
use Prim.Native.Nat.{◌+◌}
use Rattle.words.specs.Words.{column}
use Rattle.pair.specs.FoundLaws.{empty_start, empty_more, empty_all}
use native.Mathlib.Omega.{arith}
use Rattle.pair.proofs.rows.empty.Goals as goal

pub bounds-ahead-0 : goal.bounds-ahead-0
bounds-ahead-0 c = omega (arith, c.requires.1.long)

pub loop-y-init : goal.loop-y-init
loop-y-init c = let pre = c.requires in (
  (pre.1.on 0 (omega arith)).1,
  refl,
  refl,
  refl,
  refl,
  empty_start _ _ _ _ pre.0 pre.2,
  empty_start _ _ _ _ pre.0 pre.3,
  empty_start _ _ _ _ pre.0 pre.4,
  empty_start _ _ _ _
      pre.0 pre.5,
)

pub overflow_add-y : goal.overflow_add-y
overflow_add-y c = omega (arith, c.requires.0.h_max, c.loop-y-test.true)

pub put-requires : goal.put-requires
put-requires c = (c.loop-y.invariant.1 ∙ c.requires.2.ready.long, omega (arith, c.requires.0.h_max, c.loop-y-test.true))

pub overflow_add-y-in-loop-y : goal.overflow_add-y-in-loop-y
overflow_add-y-in-loop-y c = omega (arith, c.requires.0.h_max, c.loop-y-test.true)

pub put-requires-in-loop-y : goal.put-requires-in-loop-y
put-requires-in-loop-y c = (c.loop-y.invariant.2 ∙ c.requires.3.ready.long, omega (arith, c.requires.0.h_max, c.loop-y-test.true))

pub overflow_add-y-in-loop-y-2 : goal.overflow_add-y-in-loop-y-2
overflow_add-y-in-loop-y-2 c = omega (arith, c.requires.0.h_max, c.loop-y-test.true)

pub put-requires-in-loop-y-2 : goal.put-requires-in-loop-y-2
put-requires-in-loop-y-2 c = (c.loop-y.invariant.3 ∙ c.requires.4.ready.long, omega (arith, c.requires.0.h_max, c.loop-y-test.true))

pub overflow_add-y-in-loop-y-3 : goal.overflow_add-y-in-loop-y-3
overflow_add-y-in-loop-y-3 c = omega (arith, c.requires.0.h_max, c.loop-y-test.true)

pub put-requires-in-loop-y-3 : goal.put-requires-in-loop-y-3
put-requires-in-loop-y-3 c = (c.loop-y.invariant.4 ∙ c.requires.5.ready.long, omega (arith, c.requires.0.h_max, c.loop-y-test.true))

pub overflow_add-y-in-loop-y-4 : goal.overflow_add-y-in-loop-y-4
overflow_add-y-in-loop-y-4 c = omega (arith, c.requires.0.h_max, c.loop-y-test.true)

pub offset_bounds-ahead-y : goal.offset_bounds-ahead-y
offset_bounds-ahead-y c = omega (arith, c.requires.0.h_max, c.loop-y-test.true)

pub bounds-ahead-y : goal.bounds-ahead-y
bounds-ahead-y c = omega (arith, c.requires.1.long, c.requires.0.h_max, c.loop-y-test.true)

pub loop-y-smaller : goal.loop-y-smaller
loop-y-smaller c = omega (arith, c.loop-y-test.true, c.requires.1.on (c.loop-y.y + 1) (omega (arith, c.loop-y-test.true)))

pub loop-y-preserved : goal.loop-y-preserved
loop-y-preserved c = let pre = c.requires in
    let n = pre.1.on (c.loop-y.y + 1) (omega (arith, c.loop-y-test.true)) in
    let t = c.loop-y-test.true in (
      n.1,
      c.put.auto.l ∙ c.loop-y.invariant.1,
      c.put-in-loop-y.auto.l ∙ c.loop-y.invariant.2,
      c.put-in-loop-y-2.auto.l ∙ c.loop-y.invariant.3,
      c.put-in-loop-y-3.auto.l ∙ c.loop-y.invariant.4,
      empty_more _ _ _ _ pre.0 pre.2 _ _ (column c.none-none.result) _ _ t (omega arith) refl c.none-none.ensures c.put.ensures c.loop-y.invariant.5,
      empty_more _ _ _ _ pre.0 pre.3 _ _ (column c.none-none.result) _ _ t (omega arith) refl c.none-none.ensures c.put-in-loop-y.ensures c.loop-y.invariant.6,
      empty_more _ _ _ _ pre.0 pre.4 _ _ (column c.none-none.result) _ _ t (omega arith) refl c.none-none.ensures c.put-in-loop-y-2.ensures c.loop-y.invariant.7,
      empty_more _ _ _ _ pre.0 pre.5 _ _ (column c.none-none.result) _ _ t (omega arith) refl c.none-none.ensures c.put-in-loop-y-3.ensures c.loop-y.invariant.8,
    )

pub shape_of-a : goal.shape_of-a
shape_of-a c = c.loop-y.invariant.1

pub shape_of-b : goal.shape_of-b
shape_of-b c = c.loop-y.invariant.2

pub shape_of-c : goal.shape_of-c
shape_of-c c = c.loop-y.invariant.3

pub shape_of-d : goal.shape_of-d
shape_of-d c = c.loop-y.invariant.4

pub returns : goal.returns
returns c = let pre = c.requires in
    let t = c.loop-y-test.false in (
      empty_all _ _ _ _ pre.0 pre.2 _ _ c.loop-y.invariant.1 t c.loop-y.invariant.5,
      empty_all _ _ _ _ pre.0 pre.3 _ _ c.loop-y.invariant.2 t c.loop-y.invariant.6,
      empty_all _ _ _ _ pre.0 pre.4 _ _ c.loop-y.invariant.3 t c.loop-y.invariant.7,
      empty_all _ _ _ _ pre.0 pre.5 _ _ c.loop-y.invariant.4 t c.loop-y.invariant.8,
    )
