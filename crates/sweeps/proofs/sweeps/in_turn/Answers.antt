use Rattle.std.proofs.Common.{Bool, sym, ap}
use Rattle.sweeps.specs.Telling.{turned}
use Rattle.sweeps.proofs.sweeps.in_turn.Goals as goal

pub returns-then-up : goal.returns-then-up
unfolding turned
returns-then-up c = let a = c.args in ap (λ (b : Bool). turned b a.h a.r) (sym c.if-up.true)

pub returns-else-up : goal.returns-else-up
unfolding turned
returns-else-up c = let a = c.args in ap (λ (b : Bool). turned b a.h a.r) (sym c.if-up.false)
