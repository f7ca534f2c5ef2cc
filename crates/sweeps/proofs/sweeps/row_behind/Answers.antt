use Rattle.std.proofs.Common.{Bool, sym, ap}
use Rattle.sweeps.specs.Telling.{behind_row}
use Rattle.sweeps.proofs.sweeps.row_behind.Goals as goal

pub returns-then-up : goal.returns-then-up
unfolding behind_row
returns-then-up c = ap (λ (b : Bool). behind_row b c.args.y) (sym c.if-up.true)

pub returns-else-up : goal.returns-else-up
unfolding behind_row
returns-else-up c = ap (λ (b : Bool). behind_row b c.args.y) (sym c.if-up.false)
