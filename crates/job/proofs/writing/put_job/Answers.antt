use mathlib.Core.Path.{ap, ◌∙◌}
use Rattle.rules.specs.Jobs.{support_end}
use Rattle.job.specs.Writing.{the_room, sections}
use native.Mathlib.Omega.{arith}
use Rattle.job.proofs.writing.put_job.Goals as goal

pub put_head-requires : goal.put_head-requires
put_head-requires c = (the_room _ _ _ _ c.requires.0 _ c.requires.1).for_head

pub put_rows-requires : goal.put_rows-requires
put_rows-requires c = let r = the_room _ _ _ _ c.requires.0 _ c.requires.1 in omega (arith, r.for_part, c.put_head.auto.d)

pub put_rows-requires-2 : goal.put_rows-requires-2
put_rows-requires-2 c = let r = the_room _ _ _ _ c.requires.0 _ c.requires.1 in omega (arith, r.for_support, c.part_end.ensures.0, c.put_rows.auto.d, c.put_head.auto.d)

pub put_rings-requires : goal.put_rings-requires
put_rings-requires c = let r = the_room _ _ _ _ c.requires.0 _ c.requires.1 in
    let e = c.support_end.ensures.0 ∙ ap (support_end c.args.s) c.stored_rows-c.ensures.0 in
    omega (arith, r.for_rings, c.put_rows-2.auto.d, c.put_rows.auto.d, c.put_head.auto.d)

pub returns : goal.returns
returns c = sections _ _ _ _ c.requires.0 _ _ _ _ _ _ _ _ _ c.requires.1 c.put_head.ensures c.rows_of.ensures.0 c.put_rows.ensures c.stored_rows-c.ensures.0
    c.part_end.ensures.0 c.put_rows-2.ensures c.support_end.ensures.0 c.put_rings.ensures
