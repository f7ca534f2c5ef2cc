use Rattle.std.proofs.Common.{◌≡◌, ℕ, ◌+◌, ◌<◌}
use Rattle.quick.specs.Sureness.{NoShadow}
use Rattle.quick.proofs.looks.gathered.Given as goal

abbrev pub invariant-loop-j : goal.invariant-loop-j
invariant-loop-j l = l.shade ≡ 0 → (i : ℕ) → i < l.j → NoShadow l.low l.up (l.a + i)
