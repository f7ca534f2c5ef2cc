use mathlib.Core.Path.{sym, ◌∙◌}
use Rattle.laws.specs.JobFiles.{copy_parts}
use Rattle.sections.specs.Reading.{whole, head_whole, behind, rings_right, rings_wrong}
use Rattle.laws.specs.Refusals.{stops, goes_on}
use Rattle.sections.proofs.reading.copy_refusal.Goals as goal

pub returns-then-read-ne0 : goal.returns-then-read-ne0
returns-then-read-ne0 c = stops _ c.read_refusal-read.ensures c.if-read-ne0.true ∙ sym (copy_parts _ _)

pub settings_in-s-requires : goal.settings_in-s-requires
settings_in-s-requires c = head_whole _ (whole _ (sym c.read_refusal-read.ensures ∙ c.if-read-ne0.false))

pub stored_in-c-requires : goal.stored_in-c-requires
stored_in-c-requires c = let b = behind _ _ (whole _ (sym c.read_refusal-read.ensures ∙ c.if-read-ne0.false)) c.settings_in-s.ensures in (b.fine, b.count)

pub ring_count-requires : goal.ring_count-requires
ring_count-requires c = (behind _ _ (whole _ (sym c.read_refusal-read.ensures ∙ c.if-read-ne0.false)) c.settings_in-s.ensures).fine

pub returns-then-room-ring_count : goal.returns-then-room-ring_count
returns-then-room-ring_count c = goes_on c.read_refusal-read.ensures c.if-read-ne0.false
    (rings_wrong c.args.f.now _ _ _ c.args.room c.settings_in-s.ensures c.stored_in-c.ensures c.ring_count.ensures.0 c.if-room-ring_count.true)
    ∙ sym (copy_parts _ _)

pub returns : goal.returns
returns c = goes_on c.read_refusal-read.ensures c.if-read-ne0.false
    (rings_right c.args.f.now _ _ _ c.args.room c.settings_in-s.ensures c.stored_in-c.ensures c.ring_count.ensures.0 c.if-room-ring_count.false)
    ∙ sym (copy_parts _ _)
