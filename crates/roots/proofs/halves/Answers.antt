use Rattle.roots.proofs.halves.Goals as goal
-- The rule of the table, once over all of it: its entries are held against the 33 runs of roots, by computing.
use Rattle.rules.specs.Tools.{joined_up}
use Rattle.laws.specs.Discs.{table_roots}

pub all_halves-requires : goal.all_halves-requires
unfolding joined_up
all_halves-requires c = (c.requires.0, c.requires.1, table_roots)
