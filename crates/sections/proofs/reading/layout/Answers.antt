use Rattle.rules.specs.Jobs.{head_end, stored_in, layout_of}
use Rattle.sections.specs.Reading.{whole, head_whole, behind, stored_file}
use Rattle.sections.proofs.reading.layout.Goals as goal

pub settings_in-s-requires : goal.settings_in-s-requires
settings_in-s-requires c = head_whole _ (whole _ c.requires)

pub stored_in-c-requires : goal.stored_in-c-requires
stored_in-c-requires c = let b = behind _ _ (whole _ c.requires) c.settings_in-s.ensures in (b.fine, b.count)

pub part_end-support-requires : goal.part_end-support-requires
part_end-support-requires c = (behind _ _ (whole _ c.requires) c.settings_in-s.ensures).fine

pub support_end-rings-requires : goal.support_end-rings-requires
support_end-rings-requires c = let v = stored_file _ _ _ c.stored_in-c.ensures (whole _ c.requires) c.settings_in-s.ensures in (v.fine, v.most)

pub returns : goal.returns
unfolding layout_of stored_in head_end
returns c = rw (c.part_end-support.ensures.0, c.support_end-rings.ensures.0, c.stored_in-c.ensures, c.settings_in-s.ensures)
