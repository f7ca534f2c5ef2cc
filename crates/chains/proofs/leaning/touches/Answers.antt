use Rattle.std.proofs.Common.{arith, sym, ◌∙◌, ◌*◌, ◌+◌}
use Rattle.chains.specs.NeighbourLaws.{own_lends, row_more, touch_hit, touch_none}
use Rattle.chains.specs.Amiss.{lender}
use Rattle.chains.proofs.leaning.touches.Goals as goal

pub rows-preserved : goal.rows-preserved
rows-preserved c = let args = c.args in
    (c.loop-x.invariant.0, row_more args.w args.h args.r args.c (lender args.w args.low.now args.up.now args.rings.now args.k) c.rows.y c.loop-x.x c.rows.invariant.1 c.loop-x.invariant.1 (omega arith))

pub returns-then-lends : goal.returns-then-lends
returns-then-lends c = let args = c.args in
    sym (touch_hit args.w args.h (lender args.w args.low.now args.up.now args.rings.now args.k) args.r args.c c.requires.fits.1.1.1
    (own_lends args.w args.low.now args.up.now args.rings.now (args.r * args.w + args.c) args.k c.requires.fits.0 c.requires.own) c.rows.y c.loop-x.x
    (omega arith) (omega arith) (omega arith) (omega arith) (omega arith) (omega arith) (sym c.lends.ensures ∙ c.if-lends.true))

pub returns-after-rows : goal.returns-after-rows
returns-after-rows c = let args = c.args in
    c.rows.invariant.0 ∙ sym (touch_none args.w args.h (lender args.w args.low.now args.up.now args.rings.now args.k) args.r args.c c.requires.fits.1.1.1
    (own_lends args.w args.low.now args.up.now args.rings.now (args.r * args.w + args.c) args.k c.requires.fits.0 c.requires.own) c.rows.y
    c.rows.invariant.1 (omega arith))
