use Rattle.chains.specs.Amiss.{amiss_here}
use mathlib.Core.Path.{◌≡◌}
use mathlib.Core.Bool.{false}
use Prim.Native.Nat.{ℕ, ◌+◌, ◌*◌, ◌<◌, ◌≤◌}
use Rattle.words.specs.Words.{word_bit}
use Rattle.rules.specs.Planning.{near}
use Rattle.image.specs.Rows.{packed}
use Rattle.chains.proofs.search.in_columns.Given as goal

abbrev pub invariant-loop-c : goal.invariant-loop-c
invariant-loop-c l = (q : ℕ) → ((k : ℕ) → k < l.w → word_bit l.close k ≡ near l.w l.h q (packed l.w l.low) (l.r * l.w + k)) → (y : ℕ) → 0 ≤ y → y < l.c
    → amiss_here l.ringed l.w l.h q l.low l.up l.below l.above l.rings (l.r * l.w + y) ≡ false
