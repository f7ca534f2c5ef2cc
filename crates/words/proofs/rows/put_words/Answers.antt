use lib.ListN.{length-set}
use Rattle.words.specs.RowLaws.{row_put}
use native.Mathlib.Omega.{arith}
use Rattle.words.proofs.rows.put_words.Goals as goal

pub bounds-l-i-2 : goal.bounds-l-i-2
bounds-l-i-2 c = simp length-set (omega arith)

pub bounds-l-i-3 : goal.bounds-l-i-3
bounds-l-i-3 c = simp length-set (omega arith)

pub bounds-l-i-4 : goal.bounds-l-i-4
bounds-l-i-4 c = simp length-set (omega arith)

pub returns : goal.returns
returns c = row_put _ _ _ _ _ _ c.requires c.ranges.a.fits c.ranges.b.fits c.ranges.c.fits c.ranges.d.fits
