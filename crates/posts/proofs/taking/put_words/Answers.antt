use lib.ListN.{length-set}
use Rattle.posts.specs.TwoLaws.{two_put}
use native.Mathlib.Omega.{arith}
use Rattle.posts.proofs.taking.put_words.Goals as goal

pub bounds-l-i-2 : goal.bounds-l-i-2
bounds-l-i-2 c = simp length-set (omega arith)

pub returns : goal.returns
returns c = λ x y. two_put _ _ _ _ x y c.requires c.ranges.a.fits c.ranges.b.fits
