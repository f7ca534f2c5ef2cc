use mathlib.Core.Path.{sym, ap, ◌∙◌}
use Rattle.rules.specs.Jobs.{job_end, file_length}
use Rattle.rules.specs.Calls.{write_answer, write_to, refused}
use Rattle.rules.specs.declared.WrittenJob.TheVariants.{Length, Refused}
use Rattle.laws.specs.JobFiles.{writable_exactly}
use Rattle.job.specs.Writing.{padding_told}
use Rattle.laws.specs.Refusals.{says_no, says_yes}
use Rattle.job.proofs.write.Goals as goal

pub with_rows-requires : goal.with_rows-requires
with_rows-requires c = let A = c.args in padding_told A.s A.part.now A.support.now A.rings.now _ _ c.write_refusal-k.ensures

pub returns-then-k-ne0 : goal.returns-then-k-ne0
unfolding write_answer write_to
returns-then-k-ne0 c = let A = c.args in
    record {
      answer = ap Refused c.with_rows.ensures ∙ says_no _ (λ k. Refused (refused A.s A.part.now A.support.now k)) c.write_refusal-k.ensures c.if-k-ne0.true;
      destination = says_no _ (λ k. A.out.now) c.write_refusal-k.ensures c.if-k-ne0.true;
    }

pub put_job-requires : goal.put_job-requires
put_job-requires c = (writable_exactly _ _).0 (sym c.write_refusal-k.ensures ∙ c.if-k-ne0.false)

pub stored_rows-c-requires : goal.stored_rows-c-requires
stored_rows-c-requires c = ((writable_exactly _ _).0 (sym c.write_refusal-k.ensures ∙ c.if-k-ne0.false)).0.settings

pub job_end-requires : goal.job_end-requires
job_end-requires c = (((writable_exactly _ _).0 (sym c.write_refusal-k.ensures ∙ c.if-k-ne0.false)).0.settings, c.stored_rows-c.ensures.1)

pub returns : goal.returns
unfolding write_answer write_to file_length
returns c = record {
  answer = says_yes _ (λ k. Refused (refused c.args.s c.args.part.now c.args.support.now k)) c.write_refusal-k.ensures c.if-k-ne0.false
      (ap Length (c.job_end.ensures.0 ∙ ap (job_end c.args.s) c.stored_rows-c.ensures.0));
  destination = says_yes _ (λ k. c.args.out.now) c.write_refusal-k.ensures c.if-k-ne0.false c.put_job.ensures;
}
