use Rattle.lines.specs.Printed.{seventeen_short, refusal_short, refused_printed, printed_report, longer_report, job_planable, job_printed, refused_report}
use native.Mathlib.Omega.{arith}
use borrow.Author.Rules.{rules}
use Rattle.lines.proofs.output.report.Goals as goal

pub refused_line-requires : goal.refused_line-requires
refused_line-requires c = omega (arith, seventeen_short)

pub returns-then-more : goal.returns-then-more
returns-then-more c = printed_report _ _ _ _ _ (rw c.if-more.true (refused_printed _ _ _ _ seventeen_short c.refused_line.ensures))

pub refused_line-requires-then-file-gt65536 : goal.refused_line-requires-then-file-gt65536
refused_line-requires-then-file-gt65536 c = omega (arith, seventeen_short)

pub returns-then-file-gt65536 : goal.returns-then-file-gt65536
returns-then-file-gt65536 c = printed_report _ _ _ _ _ (rw c.if-more.false (longer_report _ _ _ _ c.if-file-gt65536.true (refused_printed _ _ _ _ seventeen_short c.refused_line-then-file-gt65536.ensures)))

pub refused_line-requires-in-Refused : goal.refused_line-requires-in-Refused
refused_line-requires-in-Refused c = omega (arith, refusal_short _ c.if-file-gt65536.false _ c.read.ensures _ c.in-Refused.is)

pub read_text-requires : goal.read_text-requires
read_text-requires c = (job_planable _ c.if-file-gt65536.false _ c.read.ensures _ _ c.in-Job.is c.part.ensures, search rules)

pub returns-in-Refused : goal.returns-in-Refused
returns-in-Refused c = let short = refusal_short _ c.if-file-gt65536.false _ c.read.ensures _ c.in-Refused.is in
    printed_report _ _ _ _ _ (rw c.if-more.false (refused_report _ c.if-file-gt65536.false _ c.read.ensures _ _ _ _ c.in-Refused.is (refused_printed _ _ _ _ short c.refused_line-in-Refused.ensures)))

pub returns-in-Job : goal.returns-in-Job
returns-in-Job c = printed_report _ _ _ _ _ (rw c.if-more.false (job_printed _ c.if-file-gt65536.false _ c.read.ensures _ _ _ _ _ c.in-Job.is c.part.ensures c.read_text.ensures))
