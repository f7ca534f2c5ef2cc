use mathlib.Core.Path.{refl, sym, ap, ◌∙◌}
use mathlib.Core.Bool.{true, cond}
use Prim.Native.Nat.{ℕ}
use lib.ListN.{length}
use Rattle.rules.specs.Images.{padding_set}
use Rattle.laws.specs.Limits.{ranged}
use Rattle.laws.specs.Refusals.{stops, goes_on}
use Rattle.laws.specs.StackTables.{lengths_out, stack_parts}
use Rattle.limits.proofs.Lengths.{rows_fit}
use Rattle.limits.proofs.stack_refusal.Goals as goal

pub returns-then-a-ne0 : goal.returns-then-a-ne0
returns-then-a-ne0 c = stops _ c.settings_refusal-a.ensures c.if-a-ne0.true ∙ sym (stack_parts _ _ _ _ _)

pub returns-then-b-ne0 : goal.returns-then-b-ne0
returns-then-b-ne0 c = goes_on c.settings_refusal-a.ensures c.if-a-ne0.false (stops _ c.length_refusal-b.ensures c.if-b-ne0.true) ∙ sym (stack_parts _ _ _ _ _)

pub padding_refusal-requires : goal.padding_refusal-requires
padding_refusal-requires c = let A = c.args in
    let r = ranged A.s (sym c.settings_refusal-a.ensures ∙ c.if-a-ne0.false) in
    let l = lengths_out A.s A.stored (length A.part.now) A.support A.rings (sym c.length_refusal-b.ensures ∙ c.if-b-ne0.false) in
    (r.w_low, (r.w_high, rows_fit A.s true _ _ _ l.part_long refl c.rows_of.ensures.0))

pub returns : goal.returns
returns c = let A = c.args in
    let p = c.padding_refusal.ensures ∙ ap (λ (x : ℕ). cond (padding_set A.s.w x A.part.now) 7 0) c.rows_of.ensures.0 in
    let l = goes_on c.length_refusal-b.ensures c.if-b-ne0.false p in
    goes_on c.settings_refusal-a.ensures c.if-a-ne0.false l ∙ sym (stack_parts _ _ _ _ _)
