use Prim.Native.Nat.{◌-◌, ◌+◌}
use mathlib.Core.Path.{◌≡◌}
use Rattle.rules.specs.Reach.{root}
use Rattle.laws.specs.Discs.{root_small}
use Rattle.words.specs.Words.{column}
use Rattle.planes.specs.NearLaws.{half_root, near_own, near_all_lem, half_max, half_is, reach_in}
use native.Mathlib.Omega.{arith}
use Rattle.planes.proofs.nearness.near_row.Goals as goal

pub bounds-half-0 : goal.bounds-half-0
bounds-half-0 c = omega (arith, c.requires.3.long)

pub loop-d-init : goal.loop-d-init
loop-d-init c = (omega arith, half_root _ _ c.requires.3, near_own _ _ _ _ c.row-x.ensures)

pub overflow_add-d : goal.overflow_add-d
overflow_add-d c = omega (arith, c.loop-d-test.true, half_root _ _ c.requires.3, root_small c.args.q.0 c.requires.2)

pub further-x-requires : goal.further-x-requires
further-x-requires c = let pre = c.requires in (
  omega arith,
  omega arith,
  omega arith,
  omega arith,
  omega (arith, c.loop-d-test.true, half_root _ _ pre.3, root_small c.args.q.0 pre.2),
  reach_in c.args.q.0 _
      (omega (arith, c.loop-d-test.true, half_root _ _ pre.3)),
  pre.2,
  pre.3,
)

pub loop-d-smaller : goal.loop-d-smaller
loop-d-smaller c = omega (arith, c.loop-d-test.true)

pub loop-d-preserved : goal.loop-d-preserved
loop-d-preserved c = let e : c.loop-d.d + 1 - 1 ≡ c.loop-d.d = omega arith in
    (omega (arith, c.loop-d-test.true), c.loop-d.invariant.1, c.further-x.ensures (rw e c.loop-d.invariant.2))

pub offset_bounds-half-d : goal.offset_bounds-half-d
offset_bounds-half-d c = omega (arith, c.loop-d.invariant.0, half_root _ _ c.requires.3, root_small c.args.q.0 c.requires.2)

pub bounds-half-d : goal.bounds-half-d
bounds-half-d c = omega (arith, c.requires.3.long, c.loop-d.invariant.0, half_root _ _ c.requires.3, root_small c.args.q.0 c.requires.2)

pub widen-requires : goal.widen-requires
widen-requires c = omega (
  arith,
  half_is _ c.loop-d.d _ c.requires.3 (reach_in c.args.q.0 _ (omega (arith, c.loop-d.invariant.0, half_root _ _ c.requires.3))),
  half_max c.args.q.0 c.loop-d.d
      c.requires.2,
)

pub returns : goal.returns
returns c = let args = c.args in
    let e : c.loop-d.d ≡ root args.q.0 = omega (arith, c.loop-d.invariant.0, half_root _ _ c.requires.3, c.loop-d-test.false) in
    let f = half_is _ c.loop-d.d _ c.requires.3 (reach_in args.q.0 _ (omega arith)) in
    λ w h z fr ly. near_all_lem w h args.q.0 args.y args.low.now (column c.loop-d.x) (column c.widen.result) z fr ly (rw e at c.loop-d.invariant.2)
    (rw (← e) (rw f at c.widen.ensures))
