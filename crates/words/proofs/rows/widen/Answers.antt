use mathlib.Core.Path.{sym, subst}
use Prim.Native.Nat.{ℕ}
use Rattle.words.specs.Words.{column, Widened}
use Rattle.words.specs.RowLaws.{widened_none, widened_more, column_end}
use native.Mathlib.Omega.{arith}
use Rattle.words.proofs.rows.widen.Goals as goal

pub returns-then-by-eq0 : goal.returns-then-by-eq0
returns-then-by-eq0 c = let x = column c.args.x in subst (λ (k : ℕ). Widened k x x) (sym c.if-by-eq0.true) (widened_none x)

pub returns : goal.returns
unfolding column
returns c = let x = column c.args.x in
    c.widen_on.ensures x (λ c h. column_end _ _ _ _ c h) (widened_more 0 1 x x _ (omega arith) (λ c h. column_end _ _ _ _ c h) (λ c h. column_end _ _ _ _ c h) c.wide.ensures (widened_none x))
