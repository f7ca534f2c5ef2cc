use Rattle.std.proofs.Common.{◌≡◌, ℕ, ◌<◌}
use Rattle.quick.specs.Sureness.{NoShadow, NoneHangs}
use Rattle.quick.proofs.looks.look.Given as goal

abbrev pub invariant-loop-j : goal.invariant-loop-j
invariant-loop-j l = (l.shade ≡ 0 → (i : ℕ) → i < l.j → NoShadow l.low l.up i) × (l.hung ≡ 0 → (i : ℕ) → i < l.j → NoneHangs l.low l.below l.above i)
