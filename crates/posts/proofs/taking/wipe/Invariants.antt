use mathlib.Core.Path.{◌≡◌}
use Prim.Native.Nat.{◌-◌, ◌≤◌}
use lib.ListN.{length}
use Rattle.posts.specs.TwoLaws.{WipedTo}
use Rattle.posts.proofs.taking.wipe.Given as goal

abbrev pub invariant-loop-d : goal.invariant-loop-d
invariant-loop-d l = (length l.got ≡ length l.initial.got) × (l.d ≤ l.rows) × WipedTo l.i l.d l.initial.got l.got

abbrev pub decreases-loop-d : goal.decreases-loop-d
decreases-loop-d l = l.rows - l.d
