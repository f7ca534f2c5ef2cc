use mathlib.Core.Path.{◌≡◌, subst}
use Prim.Native.Nat.{ℕ}
use Rattle.words.specs.Words.{column, Widened}
use Rattle.words.specs.RowLaws.{widened_more, column_end}
use native.Mathlib.Omega.{arith}
use Rattle.words.proofs.rows.widen_on.Goals as goal

pub loop-done-init : goal.loop-done-init
loop-done-init c = (omega arith, λ x e W. W)

pub loop-done-preserved : goal.loop-done-preserved
unfolding column
loop-done-preserved c = (omega arith, λ x e W. widened_more _ _ _ _ _ (omega arith) e (λ c h. column_end _ _ _ _ c h) c.wide-t.ensures (c.loop-done.invariant.1 x e W))

pub returns : goal.returns
returns c = λ x e W. let z : c.loop-done.done ≡ c.args.n = omega (arith, c.loop-done.invariant.0, c.loop-done-test.false) in subst (λ (k : ℕ). Widened k x (column c.loop-done.t)) z (c.loop-done.invariant.1 x e W)
