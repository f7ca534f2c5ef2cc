use Rattle.std.proofs.Common.{◌+◌, arith, ltb-false, ltb-true}
use Rattle.sweeps.proofs.levels.above.Goals as goal

pub returns : goal.returns
returns c = let a = c.wide.result + 1 in
    let b = c.level_of.result in
    ((λ e. (omega (arith, ltb-true a b e), omega (arith, ltb-true a b e))), (λ e. omega (arith, ltb-false a b e)))
