use native.Mathlib.Nat.{mul-le-mul}
use native.Mathlib.Omega.{arith}
use Rattle.judge.specs.Verdicts.{row_most, byte_there, number_is}
use Rattle.judge.proofs.unheld_number.Goals as goal

pub overflow_add-row : goal.overflow_add-row
overflow_add-row c = omega (arith, row_most c.args.s c.args.part.now c.args.u c.requires)

pub overflow_mul-row : goal.overflow_mul-row
overflow_mul-row c = omega (arith, mul-le-mul (row_most c.args.s c.args.part.now c.args.u c.requires) c.row_bytes.ensures.1)

pub pixel_at-requires : goal.pixel_at-requires
pixel_at-requires c = byte_there c.args.s c.args.part.now c.args.u c.requires _ c.row_bytes.ensures.0

pub returns-then-pixel_at : goal.returns-then-pixel_at
returns-then-pixel_at c = rw c.if-pixel_at.true at (number_is c.args.s c.args.part.now c.args.u c.requires _ _ c.row_bytes.ensures.0 c.pixel_at.ensures)

pub returns-else-pixel_at : goal.returns-else-pixel_at
returns-else-pixel_at c = rw c.if-pixel_at.false at (number_is c.args.s c.args.part.now c.args.u c.requires _ _ c.row_bytes.ensures.0 c.pixel_at.ensures)
