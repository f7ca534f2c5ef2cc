use Rattle.std.proofs.Common.{arith}
use Rattle.sweeps.specs.Relaxing.{level_wraps}
use Rattle.sweeps.proofs.levels.level_of.Goals as goal

pub returns : goal.returns
returns c = let x = c.wrapping_sub_u16.result in
    let e = level_wraps c.args.v x (omega arith) c.wrapping_sub_u16.ensures.value in
    (rw c.wide.ensures e, omega (arith, c.wide.ensures))
