use native.Mathlib.Omega.{arith}
use Rattle.lines.specs.Lines.{wrote_long}
use Rattle.lines.specs.Text.{small_long, small_done, tenth_long, more_done}
use Rattle.lines.proofs.+put_decimal.Goals as goal

pub bounds-out-at : goal.bounds-out-at
bounds-out-at t c = omega (arith, small_long c.args.x c.if-x-lt10.true)

pub returns-then-x-lt10 : goal.returns-then-x-lt10
returns-then-x-lt10 t c = small_done c.args.x c.if-x-lt10.true c.requires c.digit.ensures

pub put_decimal-end-requires : goal.put_decimal-end-requires
put_decimal-end-requires t c = (omega arith, omega (arith, tenth_long c.args.x c.if-x-lt10.false))

pub bounds-out-end : goal.bounds-out-end
bounds-out-end t c =
    let w = c.put_decimal-end.ensures in
    omega (arith, tenth_long c.args.x c.if-x-lt10.false, w.ends, wrote_long w)

pub returns : goal.returns
returns t c = more_done c.args.x c.if-x-lt10.false c.requires c.put_decimal-end.ensures c.digit-2.ensures
