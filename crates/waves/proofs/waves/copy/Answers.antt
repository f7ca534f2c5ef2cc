use mathlib.Core.Path.{refl, ◌∙◌}
use Prim.Native.Nat.{◌+◌}
use Rattle.words.specs.Words.{column}
use Rattle.waves.specs.RowLaws.{copy_start, copy_more, copy_all}
use native.Mathlib.Omega.{arith}
use Rattle.waves.proofs.waves.copy.Goals as goal

pub bounds-ahead-0 : goal.bounds-ahead-0
bounds-ahead-0 c = omega (arith, c.requires.1.long)

pub loop-y-init : goal.loop-y-init
loop-y-init c = let pre = c.requires in
    ((pre.1.on 0 (omega arith)).1, refl, copy_start _ _ _ _ _ pre.0 pre.2 pre.3)

pub overflow_add-y : goal.overflow_add-y
overflow_add-y c = omega (arith, c.requires.0.h_max)

pub overflow_add-y-in-loop-y : goal.overflow_add-y-in-loop-y
overflow_add-y-in-loop-y c = omega (arith, c.requires.0.h_max)

pub row-requires : goal.row-requires
row-requires c = (c.requires.2.ready.long, omega (arith, c.requires.0.h_max))

pub put-requires : goal.put-requires
put-requires c = (c.loop-y.invariant.1 ∙ c.requires.3.ready.long, omega (arith, c.requires.0.h_max))

pub overflow_add-y-in-loop-y-2 : goal.overflow_add-y-in-loop-y-2
overflow_add-y-in-loop-y-2 c = omega (arith, c.requires.0.h_max)

pub offset_bounds-ahead-y : goal.offset_bounds-ahead-y
offset_bounds-ahead-y c = omega (arith, c.requires.0.h_max)

pub bounds-ahead-y : goal.bounds-ahead-y
bounds-ahead-y c = omega (arith, c.requires.1.long, c.requires.0.h_max)

pub loop-y-smaller : goal.loop-y-smaller
loop-y-smaller c = omega (arith, c.requires.1.on (c.loop-y.y + 1) (omega arith))

pub loop-y-preserved : goal.loop-y-preserved
loop-y-preserved c = let pre = c.requires in
    let n = pre.1.on (c.loop-y.y + 1) (omega arith) in (
      n.1,
      c.put.auto.l ∙ c.loop-y.invariant.1,
      copy_more _ _ _ _ _ pre.0 pre.2 pre.3 _ _ (column c.row.result) _ _ (omega arith) (omega arith) refl c.row.ensures
          c.put.ensures c.loop-y.invariant.2,
    )

pub shape_of-to : goal.shape_of-to
shape_of-to c = c.loop-y.invariant.1

pub returns : goal.returns
returns c = copy_all _ _ _ _ _ c.requires.0 c.requires.2 c.requires.3 _ _ (omega arith) c.loop-y.invariant.2
