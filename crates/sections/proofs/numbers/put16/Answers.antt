use lib.ListN.{length-set}
use Rattle.laws.specs.Runs.{stores2}
use native.Mathlib.Omega.{arith}
use Rattle.sections.proofs.numbers.put16.Goals as goal

pub bounds-d-at-2 : goal.bounds-d-at-2
bounds-d-at-2 c = simp length-set (omega arith)

pub returns : goal.returns
returns c = stores2 _ _ _ _ c.requires
