use mathlib.Core.Path.{sym, ap, ◌∙◌}
use mathlib.Core.Bool.{cond}
use Prim.Native.Nat.{ℕ}
use Rattle.rules.specs.Images.{padding_set}
use Rattle.laws.specs.Limits.{ranged}
use Rattle.laws.specs.StackTables.{posts_settings, posts_radius, posts_part, posts_length, posts_rest}
use Rattle.posts.specs.CallLaws.{rows_fit}
use Rattle.posts.proofs.refusal.Goals as goal

pub returns-then-a-ne0 : goal.returns-then-a-ne0
returns-then-a-ne0 c = c.settings_refusal-a.ensures ∙ sym (posts_settings _ _ _ _ (λ z. c.if-a-ne0.true (c.settings_refusal-a.ensures ∙ z)))

pub returns-then-reach_refusal-ne0 : goal.returns-then-reach_refusal-ne0
returns-then-reach_refusal-ne0 c = sym (posts_radius _ _ _ _ (sym c.settings_refusal-a.ensures ∙ c.if-a-ne0.false) (λ z. c.if-reach_refusal-ne0.true (c.reach_refusal.ensures ∙ z)))

pub stack_bytes-bytes-requires : goal.stack_bytes-bytes-requires
stack_bytes-bytes-requires c = sym c.settings_refusal-a.ensures ∙ c.if-a-ne0.false

pub returns-then-part-bytes : goal.returns-then-part-bytes
returns-then-part-bytes c = let a = sym c.settings_refusal-a.ensures ∙ c.if-a-ne0.false in
    let f = sym c.reach_refusal.ensures ∙ c.if-reach_refusal-ne0.false in
    sym (posts_part _ _ _ _ a f (λ z. c.if-part-bytes.true (z ∙ sym c.stack_bytes-bytes.ensures.0)))

pub returns-then-posts-bytes : goal.returns-then-posts-bytes
returns-then-posts-bytes c = let b = c.stack_bytes-bytes.ensures.0 in
    let a = sym c.settings_refusal-a.ensures ∙ c.if-a-ne0.false in
    let f = sym c.reach_refusal.ensures ∙ c.if-reach_refusal-ne0.false in
    sym (posts_length _ _ _ _ a f (c.if-part-bytes.false ∙ b) (λ z. c.if-posts-bytes.true (z ∙ sym b)))

pub rows_of-requires : goal.rows_of-requires
rows_of-requires c = sym c.settings_refusal-a.ensures ∙ c.if-a-ne0.false

pub padding_refusal-requires : goal.padding_refusal-requires
padding_refusal-requires c = let A = c.args in
    let r = ranged A.s (sym c.settings_refusal-a.ensures ∙ c.if-a-ne0.false) in
    (r.w_low, (r.w_high, rows_fit A.s A.part.now _ (c.if-part-bytes.false ∙ c.stack_bytes-bytes.ensures.0) c.rows_of.ensures.0))

pub returns : goal.returns
returns c = let A = c.args in
    let b = c.stack_bytes-bytes.ensures.0 in
    let a = sym c.settings_refusal-a.ensures ∙ c.if-a-ne0.false in
    let f = sym c.reach_refusal.ensures ∙ c.if-reach_refusal-ne0.false in
    c.padding_refusal.ensures ∙ ap (λ (x : ℕ). cond (padding_set A.s.w x A.part.now) 7 0) c.rows_of.ensures.0
    ∙ sym (posts_rest _ _ _ _ a f (c.if-part-bytes.false ∙ b) (c.if-posts-bytes.false ∙ b))
