use mathlib.Core.Path.{◌≡◌}
use mathlib.Core.Bool.{false}
use Prim.Native.Nat.{◌-◌, ◌≤◌}
use lib.ListN.{length}
use Rattle.waves.specs.Rows.{Upto}
use Rattle.pair.proofs.rows.empty.Given as goal

abbrev pub invariant-loop-y : goal.invariant-loop-y
invariant-loop-y l = (l.y ≤ l.h) × (length l.a ≡ length l.initial.a) × (length l.b ≡ length l.initial.b) × (length l.c ≡ length l.initial.c) × (length l.d ≡ length l.initial.d) × Upto l.y (λ j. false) l.initial.a l.a
    × Upto l.y (λ j. false) l.initial.b l.b × Upto l.y (λ j. false) l.initial.c l.c × Upto l.y (λ j. false) l.initial.d l.d

abbrev pub decreases-loop-y : goal.decreases-loop-y
decreases-loop-y l = l.h - l.y
