use mathlib.Core.Path.{◌≡◌, refl, ◌∙◌}
use Prim.Native.Nat.{◌+◌}
use Rattle.words.specs.Words.{column}
use Rattle.planes.specs.PlaneLaws.{row_fits, plane_max}
use Rattle.pair.specs.BareLaws.{bare_start, bare_row, row_inside}
use native.Mathlib.Omega.{arith}
use Rattle.pair.proofs.bare.rows.Goals as goal

pub bounds-ahead-0 : goal.bounds-ahead-0
bounds-ahead-0 c = omega (arith, c.requires.sizes.1.long)

pub loop-y-init : goal.loop-y-init
loop-y-init c = let P = c.requires.sizes in (refl, (P.1.on 0 (omega arith)).1, bare_start _ _ P.0 _ _ P.2 _ (P.1.on 0 (omega arith)).1 c.requires.rings_seen)

pub overflow_mul-y : goal.overflow_mul-y
overflow_mul-y c = omega (arith, row_fits c.loop-y.y c.args.h c.args.w c.loop-y-test.true, plane_max c.args.w c.args.h c.requires.sizes.0)

pub overflow_add-y : goal.overflow_add-y
overflow_add-y c = omega (arith, c.loop-y-test.true, c.requires.sizes.0.h_max)

pub row-requires : goal.row-requires
row-requires c = (c.requires.sizes.2.ready.long, omega (arith, c.loop-y-test.true, c.requires.sizes.0.h_max))

pub row-requires-in-loop-y : goal.row-requires-in-loop-y
row-requires-in-loop-y c = let P = c.requires.sizes in
    let f = row_fits c.loop-y.y c.args.h c.args.w c.loop-y-test.true in
    (row_inside _ _ P.0 _ _ P.2 c.loop-y.y (column c.row.result) c.row.ensures, omega (arith, f, P.3, c.loop-y.invariant.0), omega (arith, f, plane_max c.args.w c.args.h P.0))

pub overflow_add-y-in-loop-y : goal.overflow_add-y-in-loop-y
overflow_add-y-in-loop-y c = omega (arith, c.loop-y-test.true, c.requires.sizes.0.h_max)

pub offset_bounds-ahead-y : goal.offset_bounds-ahead-y
offset_bounds-ahead-y c = omega (arith, c.loop-y-test.true, c.requires.sizes.0.h_max)

pub bounds-ahead-y : goal.bounds-ahead-y
bounds-ahead-y c = omega (arith, c.requires.sizes.1.long, c.loop-y-test.true, c.requires.sizes.0.h_max)

pub loop-y-smaller : goal.loop-y-smaller
loop-y-smaller c = omega (arith, c.loop-y-test.true, c.requires.sizes.1.on (c.loop-y.y + 1) (omega (arith, c.loop-y-test.true)))

pub loop-y-preserved : goal.loop-y-preserved
loop-y-preserved c = let P = c.requires.sizes in
    let t = c.loop-y-test.true in
    let o = P.1.on (c.loop-y.y + 1) (omega (arith, t)) in
    (c.row-in-loop-y.auto.ring ∙ c.loop-y.invariant.0, o.1, bare_row _ _ P.0 _ _ P.2 c.loop-y.y _ (column c.row.result) _ _ t (omega arith) o.1 refl c.row.ensures c.row-in-loop-y.ensures c.loop-y.invariant.2)

pub shape_of-ring : goal.shape_of-ring
shape_of-ring c = c.loop-y.invariant.0

pub returns : goal.returns
returns c = let e : c.loop-y.y ≡ c.args.h = omega (arith, c.loop-y.invariant.1, c.loop-y-test.false) in
    λ p l. c.loop-y.invariant.2.done p (rw e l)
