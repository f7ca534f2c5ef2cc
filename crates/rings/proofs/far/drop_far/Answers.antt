use mathlib.Core.Path.{refl, ◌∙◌}
use Prim.Native.Nat.{◌+◌}
use Rattle.rings.specs.FarLaws.{drop_start, drop_more, drop_all, near_mid}
use native.Mathlib.Omega.{arith}
use Rattle.rings.proofs.far.drop_far.Goals as goal

pub bounds-ahead-0 : goal.bounds-ahead-0
bounds-ahead-0 c = omega (arith, c.requires.1.long)

pub loop-y-init : goal.loop-y-init
loop-y-init c = ((c.requires.1.on 0 (omega arith)).1, refl, drop_start _ _ _ _ _ _ c.requires.0 c.requires.3)

pub drop_row-requires : goal.drop_row-requires
drop_row-requires c = let pre = c.requires in
    (pre.2.long, c.loop-y.invariant.1 ∙ pre.3.ready.long, omega (arith, pre.0.h_max), pre.4, pre.5)

pub overflow_add-y : goal.overflow_add-y
overflow_add-y c = omega (arith, c.requires.0.h_max)

pub offset_bounds-ahead-y : goal.offset_bounds-ahead-y
offset_bounds-ahead-y c = omega (arith, c.requires.0.h_max)

pub bounds-ahead-y : goal.bounds-ahead-y
bounds-ahead-y c = omega (arith, c.requires.1.long, c.requires.0.h_max)

pub loop-y-smaller : goal.loop-y-smaller
loop-y-smaller c = omega (arith, c.requires.1.on (c.loop-y.y + 1) (omega arith))

pub loop-y-preserved : goal.loop-y-preserved
loop-y-preserved c = let pre = c.requires in
    let n = pre.1.on (c.loop-y.y + 1) (omega arith) in (
      n.1,
      c.drop_row.auto.left ∙ c.loop-y.invariant.1,
      drop_more _ _ _ _ _ _ pre.0 pre.3 _ _ _ _ (omega arith) (omega arith) refl
          (c.drop_row.ensures _ _ pre.0 pre.2.framed (near_mid _ _ _ _ _ _ _ pre.3.ready.framed c.loop-y.invariant.2) (omega arith)) c.loop-y.invariant.2,
    )

pub shape_of-left : goal.shape_of-left
shape_of-left c = c.loop-y.invariant.1

pub returns : goal.returns
returns c = drop_all _ _ _ _ _ _ c.requires.0 c.requires.3 _ _ (omega arith) c.loop-y.invariant.2
