use mathlib.Core.Path.{refl}
use Rattle.laws.specs.Refusals.{stops}
use Rattle.sections.proofs.reading.first_of.Goals as goal

pub returns-else-a-eq0 : goal.returns-else-a-eq0
returns-else-a-eq0 c = stops _ refl c.if-a-eq0.false
