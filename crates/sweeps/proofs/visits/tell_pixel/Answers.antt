use Rattle.std.proofs.Common.{◌+◌, ap, arith, get_or-set_same}
use Rattle.sweeps.specs.Rings.{level}
use Rattle.sweeps.specs.Relaxing.{level_pos}
use Rattle.sweeps.specs.Telling.{none, more}
use Rattle.sweeps.proofs.visits.tell_pixel.Goals as goal

pub overflow_add-ring : goal.overflow_add-ring
overflow_add-ring c = omega (arith, c.above.ensures.0 c.if-above.true)

pub returns-then-above : goal.returns-then-above
returns-then-above c = record {
  lowers = (λ at B b e. more none _ _ b e (c.above.ensures.0 c.if-above.true).0 c.set_bit.ensures c.set_bit-then-above.ensures);
  ring = omega (arith, ap level (get_or-set_same c.args.ring.now c.args.p (c.args.v + 1) 0 c.requires.3), level_pos (c.args.v + 1) (omega arith));
}

pub returns-else-above : goal.returns-else-above
returns-else-above c = record {
  lowers = (λ at B b e. none);
  ring = c.above.ensures.1 c.if-above.false;
}
