use Prim.Native.Nat.{◌*◌}
use mathlib.Core.Path.{refl, ap, ◌∙◌}
use Rattle.rules.specs.Tools.{bit, count}
use Rattle.rules.specs.Images as images
use Rattle.laws.specs.Tests.{count_le}
use Rattle.lines.specs.Counts.{area, count_next, count_end}
use native.Mathlib.Omega.{arith}
use Rattle.lines.proofs.counts.filled.Goals as goal

pub overflow_mul-all : goal.overflow_mul-all
overflow_mul-all c = omega (arith, area c.requires)

pub loop-p-init : goal.loop-p-init
unfolding count
loop-p-init c = (omega arith, refl)

pub pixel-requires : goal.pixel-requires
pixel-requires c = (c.requires, c.loop-p-test.true)

pub overflow_add-n : goal.overflow_add-n
overflow_add-n c = let args = c.args in
    omega (arith, c.one-n.ensures.1, count_le c.loop-p.p (images.pixel args.w args.h args.s.now args.i), c.loop-p.invariant.1, area c.requires, c.loop-p-test.true)

pub overflow_add-p : goal.overflow_add-p
overflow_add-p c = omega (arith, area c.requires, c.loop-p-test.true)

pub loop-p-preserved : goal.loop-p-preserved
loop-p-preserved c = let args = c.args in (
  omega arith,
  count_next (images.pixel args.w args.h args.s.now args.i) c.loop-p.p c.loop-p.n c.one-n.result c.loop-p.invariant.1
      (c.one-n.ensures.0 ∙ ap bit c.pixel.ensures),
)

pub returns : goal.returns
returns c = let args = c.args in
    count_end (images.pixel args.w args.h args.s.now args.i) c.loop-p.p (args.h * args.w) c.loop-p.n c.loop-p.invariant.0 c.loop-p-test.false
    c.loop-p.invariant.1 (area c.requires)
