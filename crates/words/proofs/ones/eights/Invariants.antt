use Rattle.words.specs.OneLaws.{Wanted}
use Rattle.words.specs.Words.{Placed}
use lib.ListN.{length}
use Prim.Native.Nat.{◌*◌, ◌≤◌, ◌-◌}
use mathlib.Core.Path.{◌≡◌}
use Rattle.words.proofs.ones.eights.Given as goal

abbrev pub invariant-loop-b : goal.invariant-loop-b
invariant-loop-b l = (length l.l ≡ length l.initial.l) × (l.b ≤ 8) × Placed l.x (8 * l.b) (Wanted l.x l.m l.v l.initial.l) l.initial.l l.l

abbrev pub decreases-loop-b : goal.decreases-loop-b
decreases-loop-b l = 8 - l.b
