use mathlib.Core.Path.{sym, ◌∙◌}
use mathlib.Core.List.{[]}
use Rattle.rules.specs.Jobs.{support_in}
use Rattle.rules.specs.Calls.{support_answer}
use Rattle.sections.specs.Reading.{whole, head_whole, behind, stored_file}
use Rattle.laws.specs.Refusals.{says_no, says_yes}
use Rattle.job.proofs.support.Goals as goal

pub returns-then-read_refusal-ne0 : goal.returns-then-read_refusal-ne0
unfolding support_answer
returns-then-read_refusal-ne0 c = record { stretch = says_no (support_in c.args.file.now) (λ k. []) c.read_refusal.ensures c.if-read_refusal-ne0.true }

pub settings_in-s-requires : goal.settings_in-s-requires
settings_in-s-requires c = head_whole _ (whole _ (sym c.read_refusal.ensures ∙ c.if-read_refusal-ne0.false))

pub stored_in-c-requires : goal.stored_in-c-requires
stored_in-c-requires c = let b = behind _ _ (whole _ (sym c.read_refusal.ensures ∙ c.if-read_refusal-ne0.false)) c.settings_in-s.ensures in (b.fine, b.count)

pub support_in-requires : goal.support_in-requires
support_in-requires c = stored_file _ _ _ c.stored_in-c.ensures (whole _ (sym c.read_refusal.ensures ∙ c.if-read_refusal-ne0.false)) c.settings_in-s.ensures

pub returns : goal.returns
unfolding support_answer
returns c = record { stretch = says_yes (support_in c.args.file.now) (λ k. []) c.read_refusal.ensures c.if-read_refusal-ne0.false c.support_in.ensures }
