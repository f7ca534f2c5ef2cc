use Rattle.roots.proofs.root.Goals as goal
-- The rule of the table, once over all of it: its entries are held against the 32 runs of roots, by computing.
use mathlib.Core.Path.{◌∙◌}
use Rattle.rules.specs.Tools.{joined_up}
use Rattle.laws.specs.Discs.{table_rule}

pub returns : goal.returns
unfolding joined_up
returns c = c.wide.ensures.0 ∙ table_rule c.args.m c.requires
