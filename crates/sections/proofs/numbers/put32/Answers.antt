use lib.ListN.{length-set}
use Rattle.laws.specs.Runs.{stores4}
use native.Mathlib.Omega.{arith}
use Rattle.sections.proofs.numbers.put32.Goals as goal

pub bounds-d-at-2 : goal.bounds-d-at-2
bounds-d-at-2 c = simp length-set (omega arith)

pub bounds-d-at-3 : goal.bounds-d-at-3
bounds-d-at-3 c = simp length-set (omega arith)

pub bounds-d-at-4 : goal.bounds-d-at-4
bounds-d-at-4 c = simp length-set (omega arith)

pub returns : goal.returns
returns c = stores4 _ _ _ _ _ _ c.requires
