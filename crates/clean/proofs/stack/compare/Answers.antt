use mathlib.Core.Path.{◌≡◌, subst}
use Prim.Native.Nat.{ℕ, ◌+◌}
use borrow.Author.Tests.{eqb-true}
use Rattle.clean.specs.StretchLaws.{SameTo, same_more, same_all, NoneTo, none_more, none_all}
use native.Mathlib.Omega.{arith}
use Rattle.clean.proofs.stack.compare.Goals as goal

pub loop-i-init : goal.loop-i-init
loop-i-init c = (omega arith, (λ e k m lk lm. absurd (omega arith)), (λ e k m lk lm. absurd (omega arith)))

pub overflow_add-x : goal.overflow_add-x
overflow_add-x c = omega (arith, c.requires, c.loop-i-test.true)

pub bounds-s-at : goal.bounds-s-at
bounds-s-at c = omega (arith, c.requires, c.loop-i-test.true)

pub overflow_add-y : goal.overflow_add-y
overflow_add-y c = omega (arith, c.requires, c.loop-i-test.true)

pub overflow_add-y-in-loop-i : goal.overflow_add-y-in-loop-i
overflow_add-y-in-loop-i c = omega (arith, c.requires, c.loop-i-test.true)

pub bounds-s-at-in-loop-i : goal.bounds-s-at-in-loop-i
bounds-s-at-in-loop-i c = omega (arith, c.requires, c.loop-i-test.true)

pub overflow_add-i : goal.overflow_add-i
overflow_add-i c = omega (arith, c.requires, c.loop-i-test.true)

pub loop-i-smaller : goal.loop-i-smaller
loop-i-smaller c = omega (arith, c.loop-i-test.true)

pub loop-i-preserved : goal.loop-i-preserved
loop-i-preserved c = let A = c.args in
    let i = c.loop-i.i in (
      omega (arith, c.loop-i-test.true),
      (λ e. same_more A.at A.size i c.loop-i.other A.s.now (c.type_inv.s (A.at + i)).fits (c.type_inv.s (A.at + A.size + i)).fits e c.loop-i.invariant.1),
      (λ e. none_more A.at i c.loop-i.all A.s.now e c.loop-i.invariant.2),
    )

pub returns : goal.returns
returns c = let A = c.args in
    let z : c.loop-i.i ≡ A.size = omega (arith, c.loop-i.invariant.0, c.loop-i-test.false) in record {
      same = (λ t. same_all _ _ _ (subst (λ (i : ℕ). SameTo A.at A.size i A.s.now) z (c.loop-i.invariant.1 (eqb-true _ _ t))));
      empty = (λ t. none_all _ _ _ (subst (λ (i : ℕ). NoneTo A.at i A.s.now) z (c.loop-i.invariant.2 (eqb-true _ _ t))));
    }
