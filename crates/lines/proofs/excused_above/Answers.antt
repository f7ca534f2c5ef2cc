use Rattle.rules.specs.Images.{ring_at}
use Rattle.lines.specs.Whole.{excused_some, excused_none}
use native.Mathlib.Omega.{arith}
use Rattle.lines.proofs.excused_above.Goals as goal

pub excused-requires : goal.excused-requires
excused-requires c = c.requires.1 c.if-i-s.true

pub returns-then-i-s : goal.returns-then-i-s
returns-then-i-s c = let args = c.args in
    (excused_some args.s (ring_at args.s.w args.s.h args.rings.now) args.i c.excused.result c.if-i-s.true c.excused.ensures.0, c.excused.ensures.1)

pub returns : goal.returns
returns c = let args = c.args in
    (excused_none args.s (ring_at args.s.w args.s.h args.rings.now) args.i c.if-i-s.false, omega arith)
