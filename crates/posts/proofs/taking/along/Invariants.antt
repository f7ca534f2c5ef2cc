use Rattle.rules.specs.Tools.{count}
use mathlib.Core.Bool.{not, ◌&&◌}
use Rattle.words.specs.Words.{column}
use Rattle.posts.specs.AlongLaws.{Joining, More}
use Rattle.posts.proofs.taking.along.Given as goal

abbrev pub invariant-loop-free : goal.invariant-loop-free
invariant-loop-free l = Joining (column l.initial.s) (column l.free) (column l.s) × More (column l.initial.s) (column l.free) (column l.s) (column l.more)

abbrev pub decreases-loop-free : goal.decreases-loop-free
decreases-loop-free l = count 256 (λ c. column l.free c && not (column l.s c))
