use Rattle.std.proofs.Common.{◌≡◌, ℕ, ◌<◌, ◌&&◌, false, get_or}
use Rattle.rules.specs.Images.{bit_at}
use Rattle.places.proofs.overlaps.apart.Given as goal

abbrev pub invariant-loop-j : goal.invariant-loop-j
invariant-loop-j l = l.all ≡ 0 → (i : ℕ) → i < l.j → (k : ℕ) → k < 8 → (bit_at (get_or l.sup i 0) k && bit_at (get_or l.part i 0) k) ≡ false
