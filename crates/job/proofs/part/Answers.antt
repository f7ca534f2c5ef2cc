use mathlib.Core.Path.{sym, ◌∙◌}
use mathlib.Core.List.{[]}
use Rattle.rules.specs.Jobs.{part_in}
use Rattle.rules.specs.Calls.{part_answer}
use Rattle.sections.specs.Reading.{whole, head_whole, behind}
use Rattle.laws.specs.Refusals.{says_no, says_yes}
use native.Mathlib.Omega.{arith}
use Rattle.job.proofs.part.Goals as goal

pub returns-then-read_refusal-ne0 : goal.returns-then-read_refusal-ne0
unfolding part_answer
returns-then-read_refusal-ne0 c = record { stretch = says_no (part_in c.args.file.now) (λ k. []) c.read_refusal.ensures c.if-read_refusal-ne0.true }

pub settings_in-s-requires : goal.settings_in-s-requires
settings_in-s-requires c = head_whole _ (whole _ (sym c.read_refusal.ensures ∙ c.if-read_refusal-ne0.false))

pub part_in-requires : goal.part_in-requires
part_in-requires c = let b = behind _ _ (whole _ (sym c.read_refusal.ensures ∙ c.if-read_refusal-ne0.false)) c.settings_in-s.ensures in
    (b.fine, c.settings_in-s.ensures, omega (arith, b.count))

pub returns : goal.returns
unfolding part_answer
returns c = record { stretch = says_yes (part_in c.args.file.now) (λ k. []) c.read_refusal.ensures c.if-read_refusal-ne0.false c.part_in.ensures }
