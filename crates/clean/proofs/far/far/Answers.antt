use mathlib.Core.Path.{◌≡◌, refl, subst, ◌∙◌}
use Prim.Native.Nat.{ℕ, ◌+◌}
use Rattle.words.specs.Words.{column}
use Rattle.rings.specs.ByteLaws.{read_start, read_more, read_all}
use Rattle.clean.specs.Far.{Ahead}
use native.Mathlib.Omega.{arith}
use Rattle.clean.proofs.far.far.Goals as goal

pub begin-t-requires : goal.begin-t-requires
begin-t-requires c = (c.requires.sizes.1.long, c.requires.sizes.3)

pub loop-y-init : goal.loop-y-init
loop-y-init c = let A = c.args in
    let z : A.c.0 ≡ 0 + A.c.0 = omega arith in
    (omega arith, refl, read_start _ _ _ c.requires.sizes.0 _ c.requires.sizes.2, subst (λ (k : ℕ). Ahead A.w A.c.0 k A.from.now c.begin-t.result) z (c.begin-t.ensures _ c.requires.row_whole))

pub overflow_add-y : goal.overflow_add-y
overflow_add-y c = omega (arith, c.requires.sizes.0.h_max, c.requires.sizes.3, c.loop-y-test.true)

pub look-t-requires : goal.look-t-requires
look-t-requires c = (c.requires.sizes.1.long, omega (arith, c.requires.sizes.0.h_max, c.requires.sizes.3, c.loop-y-test.true), c.requires.sizes.3)

pub overflow_add-y-in-loop-y : goal.overflow_add-y-in-loop-y
overflow_add-y-in-loop-y c = omega (arith, c.requires.sizes.0.h_max, c.loop-y-test.true)

pub far_row-requires : goal.far_row-requires
far_row-requires c = (c.requires.sizes.1.long, omega (arith, c.requires.sizes.0.h_max, c.loop-y-test.true), c.requires.sizes.3, c.requires.sizes.4)

pub put-requires : goal.put-requires
put-requires c = (c.loop-y.invariant.1 ∙ c.requires.sizes.2.long, omega (arith, c.requires.sizes.0.h_max, c.loop-y-test.true))

pub overflow_add-y-in-loop-y-2 : goal.overflow_add-y-in-loop-y-2
overflow_add-y-in-loop-y-2 c = omega (arith, c.requires.sizes.0.h_max, c.loop-y-test.true)

pub loop-y-smaller : goal.loop-y-smaller
loop-y-smaller c = omega (arith, c.loop-y-test.true)

pub loop-y-preserved : goal.loop-y-preserved
loop-y-preserved c = let A = c.args in
    let y = c.loop-y.y in
    let l = c.look-t.ensures A.w c.requires.row_whole c.loop-y.invariant.3 in
    let z : y + A.c.0 + 1 ≡ y + 1 + A.c.0 = omega arith in (
      omega (arith, c.loop-y-test.true),
      c.put.auto.l ∙ c.loop-y.invariant.1,
      read_more _ _ _ c.requires.sizes.0 _ c.requires.sizes.2 y (column c.far_row.result) _ _ (omega (arith, c.loop-y-test.true))
          (c.far_row.ensures A.w A.h c.requires.sizes.0 c.requires.sizes.1.framed (omega (arith, c.loop-y-test.true)) c.requires.row_whole l) c.put.ensures c.loop-y.invariant.2,
      subst (λ (k : ℕ). Ahead A.w A.c.0 k A.from.now c.look-t.result) z l,
    )

pub shape_of-to : goal.shape_of-to
shape_of-to c = c.loop-y.invariant.1

pub returns : goal.returns
returns c = read_all _ _ _ c.requires.sizes.0 _ c.requires.sizes.2 _ _ (omega (arith, c.loop-y-test.false)) c.loop-y.invariant.1 c.loop-y.invariant.2
