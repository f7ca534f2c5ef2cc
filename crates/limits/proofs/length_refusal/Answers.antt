use mathlib.Core.Path.{sym, ◌∙◌}
use Rattle.laws.specs.StackTables.{lengths_in}
use Rattle.limits.proofs.Lengths.{refused_4, refused_5, refused_6, same_stored}
use Rattle.limits.proofs.length_refusal.Goals as goal

pub returns-then-part-bytes : goal.returns-then-part-bytes
returns-then-part-bytes c = let A = c.args in refused_4 A.s A.stored A.part A.support A.rings (λ e. c.if-part-bytes.true (e ∙ sym c.stack_bytes-bytes.ensures.0))

pub returns-then-support-where_stored : goal.returns-then-support-where_stored
returns-then-support-where_stored c = let A = c.args in
    let b = c.stack_bytes-bytes.ensures.0 in
    refused_5 A.s A.stored A.part A.support A.rings (c.if-part-bytes.false ∙ b) (λ e. c.if-support-where_stored.true (e ∙ sym (same_stored A.stored c.where_stored.ensures b)))

pub returns-then-rings-where_stored : goal.returns-then-rings-where_stored
returns-then-rings-where_stored c = let A = c.args in
    let b = c.stack_bytes-bytes.ensures.0 in
    let k = same_stored A.stored c.where_stored-2.ensures c.rings_in.ensures.0 in
    let u = c.if-support-where_stored.false ∙ same_stored A.stored c.where_stored.ensures b in
    refused_6 A.s A.stored A.part A.support A.rings (c.if-part-bytes.false ∙ b) u (λ e. c.if-rings-where_stored.true (e ∙ sym k))

pub returns : goal.returns
returns c = let A = c.args in
    let b = c.stack_bytes-bytes.ensures.0 in
    let k = same_stored A.stored c.where_stored-2.ensures c.rings_in.ensures.0 in
    let u = c.if-support-where_stored.false ∙ same_stored A.stored c.where_stored.ensures b in
    let p = c.if-part-bytes.false ∙ b in
    sym (lengths_in A.s A.stored A.part A.support A.rings (record { part_long = p; support_long = u; rings_counted = c.if-rings-where_stored.false ∙ k }))
