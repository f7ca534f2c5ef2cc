use Rattle.std.proofs.Common.{◌≡◌, false, ℕ, ◌<◌, ◌≤◌}
use Rattle.rules.specs.Images.{bit_at}
use Rattle.places.proofs.bits.bit_from.Given as goal

abbrev pub invariant-loop-k : goal.invariant-loop-k
invariant-loop-k l = (y : ℕ) → l.from ≤ y → y < l.k → bit_at l.m y ≡ false
