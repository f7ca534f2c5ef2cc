use mathlib.Core.Path.{sym, ap, ◌∙◌}
use mathlib.Core.Bool.{cond}
use Prim.Native.Nat.{ℕ}
use lib.ListN.{length}
use Rattle.rules.specs.Images.{padding_set}
use Rattle.rules.specs.Calls.{both_cases}
use Rattle.laws.specs.Limits.{ranged}
use Rattle.laws.specs.Refusals.{stack_numbered, stops_before, goes_behind}
use Rattle.laws.specs.StackTables.{stack_exactly}
use Rattle.limits.proofs.Lengths.{same_stored, rows_fit}
use Rattle.limits.proofs.both_refusal.Goals as goal

pub returns-then-a-ne0 : goal.returns-then-a-ne0
unfolding both_cases
returns-then-a-ne0 c = stops_before _ _ (stack_numbered _ _ _ _ _) c.stack_refusal-a.ensures c.if-a-ne0.true

pub rows_of-requires : goal.rows_of-requires
rows_of-requires c = ((stack_exactly _ _ _ _ _).0 (sym c.stack_refusal-a.ensures ∙ c.if-a-ne0.false)).settings

pub padding_refusal-requires : goal.padding_refusal-requires
padding_refusal-requires c = let A = c.args in
    let v = (stack_exactly A.s A.stored A.part.now (length A.support.now) A.rings).0 (sym c.stack_refusal-a.ensures ∙ c.if-a-ne0.false) in
    let r = ranged A.s v.settings in
    (r.w_low, (r.w_high, rows_fit A.s A.stored _ _ _ v.lengths.support_long c.where_stored.ensures c.rows_of.ensures.0))

pub returns : goal.returns
unfolding both_cases
returns c = let A = c.args in
    let k = same_stored A.stored c.where_stored.ensures c.rows_of.ensures.0 in
    let p = c.padding_refusal.ensures ∙ ap (λ (x : ℕ). cond (padding_set A.s.w x A.support.now) 8 0) k in
    goes_behind _ _ (stack_numbered _ _ _ _ _) c.stack_refusal-a.ensures c.if-a-ne0.false p
