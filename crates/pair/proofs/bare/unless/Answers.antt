use mathlib.Core.Path.{refl}
use Rattle.laws.specs.Tests.{clash}
use Rattle.pair.proofs.bare.unless.Goals as goal

pub returns-then-not-wanted : goal.returns-then-not-wanted
returns-then-not-wanted c = ((λ e. clash e c.if-not-wanted.true), λ e. c.rows.ensures)

pub returns-else-not-wanted : goal.returns-else-not-wanted
returns-else-not-wanted c = ((λ e. refl), λ e. clash c.if-not-wanted.false e)
