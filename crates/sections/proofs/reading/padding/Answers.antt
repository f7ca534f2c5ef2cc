use Rattle.laws.specs.Limits.{ranged}
use Rattle.laws.specs.JobFiles.{padding_refusal}
use Rattle.laws.specs.Refusals.{stops, goes_on}
use Rattle.sections.specs.Reading.{part_room, part_rows, support_rows}
use Rattle.sections.proofs.reading.padding.Goals as goal

pub part_in-part-requires : goal.part_in-part-requires
part_in-part-requires c = (c.requires.fine, c.requires.same, part_room _ _ _ c.requires)

pub padding_refusal-k-requires : goal.padding_refusal-k-requires
padding_refusal-k-requires c = let r = ranged c.args.s c.requires.fine in
    (r.w_low, (r.w_high, rw (c.part_in-part.ensures, c.rows_of.ensures.0) (part_rows _ _ _ c.requires)))

pub returns-then-k-ne0 : goal.returns-then-k-ne0
unfolding padding_refusal
returns-then-k-ne0 c = stops _ (rw (c.part_in-part.ensures, c.rows_of.ensures.0) at c.padding_refusal-k.ensures) c.if-k-ne0.true

pub padding_refusal-requires : goal.padding_refusal-requires
padding_refusal-requires c = let r = ranged c.args.s c.requires.fine in
    (r.w_low, (r.w_high, rw c.support_in-support.ensures (support_rows _ _ _ c.requires)))

pub returns : goal.returns
unfolding padding_refusal
returns c = let a = rw (c.part_in-part.ensures, c.rows_of.ensures.0) at c.padding_refusal-k.ensures in
    goes_on a c.if-k-ne0.false (rw c.support_in-support.ensures at c.padding_refusal.ensures)
