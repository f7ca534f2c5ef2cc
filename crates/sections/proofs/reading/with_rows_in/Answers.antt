use native.Mathlib.Omega.{arith}
use Rattle.laws.specs.JobFiles.{read_seven, read_eight}
use Rattle.sections.specs.Reading.{head_whole, behind, stored_file, told_part, told_support, told_alone, part_padded, support_padded}
use Rattle.sections.proofs.reading.with_rows_in.Goals as goal

pub settings_in-s-requires : goal.settings_in-s-requires
settings_in-s-requires c = head_whole _ (read_seven _ (c.requires.0 c.if-k-eq7.true)).0

pub part_in-requires : goal.part_in-requires
part_in-requires c = let b = behind _ _ (read_seven _ (c.requires.0 c.if-k-eq7.true)).0 c.settings_in-s.ensures in
    (b.fine, c.settings_in-s.ensures, omega (arith, b.count))

pub with_first_row-requires : goal.with_first_row-requires
with_first_row-requires c = part_padded _ _ c.args.k c.settings_in-s.ensures (c.requires.0 c.if-k-eq7.true) _ c.part_in.ensures

pub returns-then-k-eq7 : goal.returns-then-k-eq7
returns-then-k-eq7 c = told_part _ _ _ c.settings_in-s.ensures c.if-k-eq7.true _ c.part_in.ensures _ c.with_first_row.ensures

pub settings_in-s-requires-then-k-eq8 : goal.settings_in-s-requires-then-k-eq8
settings_in-s-requires-then-k-eq8 c = head_whole _ (read_eight _ (c.requires.1 c.if-k-eq8.true)).0

pub stored_in-c-requires : goal.stored_in-c-requires
stored_in-c-requires c = let b = behind _ _ (read_eight _ (c.requires.1 c.if-k-eq8.true)).0 c.settings_in-s-then-k-eq8.ensures in
    (b.fine, b.count)

pub support_in-requires : goal.support_in-requires
support_in-requires c = stored_file _ _ _ c.stored_in-c.ensures (read_eight _ (c.requires.1 c.if-k-eq8.true)).0 c.settings_in-s-then-k-eq8.ensures

pub with_first_row-requires-then-k-eq8 : goal.with_first_row-requires-then-k-eq8
with_first_row-requires-then-k-eq8 c = support_padded _ _ c.args.k c.settings_in-s-then-k-eq8.ensures (c.requires.1 c.if-k-eq8.true) _ c.support_in.ensures

pub returns-then-k-eq8 : goal.returns-then-k-eq8
returns-then-k-eq8 c = told_support _ _ _ c.settings_in-s-then-k-eq8.ensures c.if-k-eq8.true _ c.support_in.ensures _ c.with_first_row-then-k-eq8.ensures

pub returns : goal.returns
returns c = told_alone _ _ c.if-k-eq7.false c.if-k-eq8.false
