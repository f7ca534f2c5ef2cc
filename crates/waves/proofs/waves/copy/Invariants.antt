use mathlib.Core.Path.{◌≡◌}
use Prim.Native.Nat.{◌-◌, ◌≤◌}
use lib.ListN.{length}
use Rattle.words.specs.Words.{word_bit}
use Rattle.waves.specs.Rows.{Upto}
use Rattle.waves.proofs.waves.copy.Given as goal

abbrev pub invariant-loop-y : goal.invariant-loop-y
invariant-loop-y l = (l.y ≤ l.h) × (length l.to ≡ length l.initial.to) × Upto l.y (word_bit l.p) l.initial.to l.to

abbrev pub decreases-loop-y : goal.decreases-loop-y
decreases-loop-y l = l.h - l.y
