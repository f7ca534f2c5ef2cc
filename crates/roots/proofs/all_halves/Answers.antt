use native.Mathlib.Nat.{mul-le-mul}
use mathlib.Core.Path.{sym, ◌∙◌}
use Rattle.laws.specs.Discs.{halves_none, halves_more, halves_all, square_small, some_row}
use native.Mathlib.Omega.{arith}
use Rattle.roots.proofs.all_halves.Goals as goal

pub loop-d-init : goal.loop-d-init
loop-d-init c = (halves_none _ _ c.requires.1, omega arith)

pub overflow_mul-d : goal.overflow_mul-d
overflow_mul-d c = omega (arith, mul-le-mul c.loop-d.invariant.1 c.loop-d.invariant.1)

pub half_width-half-requires : goal.half_width-half-requires
half_width-half-requires c = (square_small _ _ c.requires.0 c.loop-d-test.true, (c.loop-d-test.true, c.requires.0), c.requires.2)

pub offset_bounds-out-d : goal.offset_bounds-out-d
offset_bounds-out-d c = omega (arith, c.loop-d.invariant.1)

pub bounds-out-d : goal.bounds-out-d
bounds-out-d c = omega (arith, c.loop-d.invariant.0.long, square_small c.args.q c.loop-d.d c.requires.0 c.loop-d-test.true)

pub overflow_add-d : goal.overflow_add-d
overflow_add-d c = omega (arith, c.loop-d.invariant.1)

pub loop-d-smaller : goal.loop-d-smaller
loop-d-smaller c = omega (arith, square_small c.args.q c.loop-d.d c.requires.0 c.loop-d-test.true)

pub loop-d-preserved : goal.loop-d-preserved
loop-d-preserved c = (
  halves_more c.args.q c.loop-d.d c.half_width-half.result.0 c.loop-d.out (square_small c.args.q c.loop-d.d c.requires.0 c.loop-d-test.true)
      c.half_width-half.ensures c.loop-d.invariant.0,
  omega (arith, square_small c.args.q c.loop-d.d c.requires.0 c.loop-d-test.true),
)

pub shape_of-out : goal.shape_of-out
shape_of-out c = c.loop-d.invariant.0.long ∙ sym c.requires.1

pub returns : goal.returns
returns c = halves_all c.args.q c.loop-d.d c.loop-d.out c.requires.0 c.loop-d-test.false (some_row c.args.q c.loop-d.d c.loop-d-test.false)
    c.loop-d.invariant.0
