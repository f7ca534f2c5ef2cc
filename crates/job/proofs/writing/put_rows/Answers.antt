use mathlib.Core.Path.{refl}
use Rattle.sections.specs.Runs.{counted}
use Rattle.job.proofs.writing.put_rows.Goals as goal

pub returns : goal.returns
returns c = counted _ _ _ _ c.args.at c.args.count _ c.put32.ensures c.put_bytes.ensures refl c.requires
