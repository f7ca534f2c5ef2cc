use Rattle.planes.specs.PlaneLaws.{zero_ready}
use Rattle.quick.proofs.pair.shaded_pair.Goals as goal

pub rows-requires-clause-scratch : goal.rows-requires-clause-scratch
rows-requires-clause-scratch c = (c.requires.tables.0, (zero_ready c.args.w c.args.h, c.requires.tables.1))
