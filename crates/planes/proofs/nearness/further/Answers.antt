use Prim.Native.Nat.{◌-◌}
use Rattle.planes.specs.PlaneLaws.{column_in}
use Rattle.planes.specs.NearLaws.{near_more, half_less, half_max, before_in, half_is}
use native.Mathlib.Omega.{arith}
use Rattle.planes.proofs.nearness.further.Goals as goal

pub bounds-half-d : goal.bounds-half-d
bounds-half-d c = omega (arith, c.requires.7.long, c.requires.4)

pub bounds-half-d-2 : goal.bounds-half-d-2
bounds-half-d-2 c = omega (arith, c.requires.7.long, c.requires.4)

pub overflow_sub-by-2 : goal.overflow_sub-by-2
overflow_sub-by-2 c = let pre = c.requires in
    omega (arith, half_is _ _ _ pre.7 pre.5, half_is _ _ _ pre.7 (before_in _ _ pre.5), half_less c.args.q.0 c.args.d pre.3 pre.5)

pub widen-wide-requires : goal.widen-wide-requires
widen-wide-requires c = omega (arith, half_is _ _ _ c.requires.7 (before_in _ _ c.requires.5), half_max c.args.q.0 (c.args.d - 1) c.requires.6)

pub returns : goal.returns
returns c = let pre = c.requires in
    λ N. near_more _ _ _ _ _ _ _ _ _ _ pre.3 (omega (arith, pre.2, pre.4)) pre.5 N
    (rw (half_is _ _ _ pre.7 (before_in _ _ pre.5), half_is _ _ _ pre.7 pre.5) at c.widen-wide.ensures) (λ c' e. column_in _ c' e) c.row.ensures
    c.row-2.ensures c.either-beside.ensures c.either.ensures
