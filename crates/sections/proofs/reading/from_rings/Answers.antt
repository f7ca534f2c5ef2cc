use mathlib.Core.Path.{ap₂, ◌∙◌}
use Rattle.laws.specs.Refusals.{or_else}
use Rattle.laws.specs.JobFiles.{rings_refusal}
use Rattle.laws.specs.Refusals.{stops, goes_on}
use Rattle.sections.proofs.reading.from_rings.Goals as goal

pub returns-then-k-ne0 : goal.returns-then-k-ne0
unfolding rings_refusal
returns-then-k-ne0 c = stops _ c.rings_section-k.ensures c.if-k-ne0.true

pub returns : goal.returns
unfolding rings_refusal
returns c = goes_on c.rings_section-k.ensures c.if-k-ne0.false (c.first_of.ensures ∙ ap₂ or_else c.after_end-m.ensures c.padding-p.ensures)
