use Rattle.waves.proofs.rows.number_row.Goals as goal

pub number_many-requires : goal.number_many-requires
number_many-requires c = (c.many.ensures c.if-many.true, c.requires.2)
