use mathlib.Core.Path.{sym, ap, ◌∙◌}
use Rattle.laws.specs.JobFiles.{body_refusal, read_parts}
use Rattle.rules.specs.Tools.{refusal}
use Rattle.rules.specs.Calls.{setting_cases}
use Rattle.rules.specs.declared.Settings.{Settings}
use Rattle.sections.specs.Reading.{first_whole}
use Rattle.laws.specs.Refusals.{stops, goes_on}
use Rattle.sections.proofs.reading.read_refusal.Goals as goal

pub returns-then-k-ne0 : goal.returns-then-k-ne0
returns-then-k-ne0 c = stops _ c.settings_section-k.ensures c.if-k-ne0.true ∙ sym (read_parts c.args.f.now)

pub settings_in-s-requires : goal.settings_in-s-requires
settings_in-s-requires c = first_whole _ (sym c.settings_section-k.ensures ∙ c.if-k-ne0.false)

pub returns-then-m-ne0 : goal.returns-then-m-ne0
returns-then-m-ne0 c = goes_on c.settings_section-k.ensures c.if-k-ne0.false
    (stops _ (c.settings_refusal-m.ensures ∙ ap (λ (s : Settings). refusal (setting_cases s)) c.settings_in-s.ensures) c.if-m-ne0.true)
    ∙ sym (read_parts c.args.f.now)

pub from_part-requires : goal.from_part-requires
from_part-requires c = (sym c.settings_refusal-m.ensures ∙ c.if-m-ne0.false, c.settings_in-s.ensures)

pub returns : goal.returns
returns c = goes_on c.settings_section-k.ensures c.if-k-ne0.false
    (goes_on (c.settings_refusal-m.ensures ∙ ap (λ (s : Settings). refusal (setting_cases s)) c.settings_in-s.ensures) c.if-m-ne0.false
    (c.from_part.ensures ∙ ap (body_refusal c.args.f.now) c.settings_in-s.ensures)) ∙ sym (read_parts c.args.f.now)
