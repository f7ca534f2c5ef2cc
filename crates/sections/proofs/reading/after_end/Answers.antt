use borrow.Author.Tests.{lt-ltb, le-ltb}
use Rattle.sections.proofs.reading.after_end.Goals as goal

pub returns-then-job_end-length : goal.returns-then-job_end-length
returns-then-job_end-length c = simp (lt-ltb _ _ (rw c.job_end.ensures.0 at c.if-job_end-length.true))

pub returns-else-job_end-length : goal.returns-else-job_end-length
returns-else-job_end-length c = simp (le-ltb _ _ (rw c.job_end.ensures.0 at c.if-job_end-length.false))
