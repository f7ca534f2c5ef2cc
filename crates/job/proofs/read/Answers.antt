use mathlib.Core.Path.{sym, ap, ◌∙◌}
use Rattle.rules.specs.Calls.{read_answer, refused_in}
use Rattle.rules.specs.declared.ReadJob.TheVariants.{Job, Refused}
use Rattle.laws.specs.Refusals.{says_no, says_yes}
use Rattle.job.proofs.read.Goals as goal

pub with_rows_in-requires : goal.with_rows_in-requires
with_rows_in-requires c = ((λ e. sym c.read_refusal-k.ensures ∙ e), (λ e. sym c.read_refusal-k.ensures ∙ e))

pub returns-then-k-ne0 : goal.returns-then-k-ne0
unfolding read_answer
returns-then-k-ne0 c = record { answer = ap Refused c.with_rows_in.ensures ∙ says_no _ (λ k. Refused (refused_in c.args.file.now k)) c.read_refusal-k.ensures c.if-k-ne0.true }

pub returns : goal.returns
unfolding read_answer
returns c = record { answer = says_yes _ (λ k. Refused (refused_in c.args.file.now k)) c.read_refusal-k.ensures c.if-k-ne0.false (ap Job c.layout.ensures) }
