use Prim.Native.Nat.{ℕ, ◌+◌, ◌*◌, ◌/◌, ◌%◌}
use mathlib.Core.Path.{ap, ◌∙◌}
use lib.ListN.{get_or}
use Rattle.rules.specs.Images as images
use Rattle.rules.specs.Images.{bit_at}
use Rattle.lines.specs.Counts.{row_high, byte_in}
use native.Mathlib.Omega.{arith}
use Rattle.lines.proofs.counts.pixel.Goals as goal

pub overflow_mul-row : goal.overflow_mul-row
overflow_mul-row c = omega (arith, row_high c.requires.0 c.args.p c.requires.1)

pub overflow_add-row : goal.overflow_add-row
overflow_add-row c = omega (arith, row_high c.requires.0 c.args.p c.requires.1)

pub overflow_mul-row-2 : goal.overflow_mul-row-2
overflow_mul-row-2 c = omega (arith, byte_in c.requires.0 c.args.p c.row_bytes-rb.result c.row_bytes-rb.ensures.0 c.requires.1)

pub overflow_add-row-2 : goal.overflow_add-row-2
overflow_add-row-2 c = omega (arith, byte_in c.requires.0 c.args.p c.row_bytes-rb.result c.row_bytes-rb.ensures.0 c.requires.1)

pub bounds-s-row : goal.bounds-s-row
bounds-s-row c = byte_in c.requires.0 c.args.p c.row_bytes-rb.result c.row_bytes-rb.ensures.0 c.requires.1

pub returns : goal.returns
unfolding images.pixel
returns c = let args = c.args in
    c.bit.ensures ∙ ap (λ (rb : ℕ). bit_at (get_or args.s.now ((args.i * args.h + args.p / args.w) * rb + args.p % args.w / 8) 0) (args.p % args.w % 8))
    c.row_bytes-rb.ensures.0
