use mathlib.Core.Path.{sym, ap, ◌∙◌}
use Rattle.laws.specs.JobFiles.{body_refusal, rings_refusal, section_out}
use Rattle.sections.specs.Reading.{stored_whole}
use Rattle.laws.specs.Refusals.{stops, goes_on}
use Rattle.sections.proofs.reading.from_part.Goals as goal

pub returns-then-k-ne0 : goal.returns-then-k-ne0
unfolding body_refusal
returns-then-k-ne0 c = stops _ c.part_section-k.ensures c.if-k-ne0.true

pub returns-then-m-ne0 : goal.returns-then-m-ne0
unfolding body_refusal
returns-then-m-ne0 c = goes_on c.part_section-k.ensures c.if-k-ne0.false (stops _ c.support_section-m.ensures c.if-m-ne0.true)

pub stored_in-c-requires : goal.stored_in-c-requires
stored_in-c-requires c = (c.requires.0, (section_out _ _ _ _ (sym c.support_section-m.ensures ∙ c.if-m-ne0.false)).room)

pub from_rings-requires : goal.from_rings-requires
from_rings-requires c = stored_whole _ _ _ c.stored_in-c.ensures c.requires.0 c.requires.1 (section_out _ _ _ _ (sym c.support_section-m.ensures ∙ c.if-m-ne0.false))

pub returns : goal.returns
unfolding body_refusal
returns c = goes_on c.part_section-k.ensures c.if-k-ne0.false
    (goes_on c.support_section-m.ensures c.if-m-ne0.false (c.from_rings.ensures ∙ ap (rings_refusal c.args.f.now c.args.s) c.stored_in-c.ensures))
