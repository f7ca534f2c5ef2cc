use mathlib.Core.Path.{sym, ap, ◌∙◌}
use Prim.Native.Nat.{ℕ}
use Rattle.rules.specs.Tools.{refusal}
use Rattle.rules.specs.Jobs.{job_end, file_length}
use Rattle.laws.specs.Refusals.{stops, goes_on}
use Rattle.laws.specs.JobFiles.{write_room, write_parts}
use Rattle.laws.specs.StackTables.{both_exactly}
use Rattle.job.proofs.writing.write_refusal.Goals as goal

pub returns-then-k-ne0 : goal.returns-then-k-ne0
returns-then-k-ne0 c = stops _ c.both_refusal-k.ensures c.if-k-ne0.true ∙ sym (write_parts _ _)

pub stored_rows-c-requires : goal.stored_rows-c-requires
stored_rows-c-requires c = ((both_exactly _ _ _ _ _).0 (sym c.both_refusal-k.ensures ∙ c.if-k-ne0.false)).stack.settings

pub job_end-requires : goal.job_end-requires
job_end-requires c = (((both_exactly _ _ _ _ _).0 (sym c.both_refusal-k.ensures ∙ c.if-k-ne0.false)).stack.settings, c.stored_rows-c.ensures.1)

pub returns : goal.returns
unfolding file_length
returns c = let A = c.args in
    let e = c.job_end.ensures.0 ∙ ap (job_end A.s) c.stored_rows-c.ensures.0 in
    let r = c.room_refusal.ensures ∙ ap (λ (k : ℕ). refusal (write_room k A.room)) e in
    goes_on c.both_refusal-k.ensures c.if-k-ne0.false r ∙ sym (write_parts _ _)
