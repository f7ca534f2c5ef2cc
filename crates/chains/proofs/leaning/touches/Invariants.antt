use Rattle.std.proofs.Common.{◌≡◌, false, ℕ, ◌*◌, ◌+◌, ◌-◌, ◌<◌, ◌≤◌}
use Rattle.chains.specs.Amiss.{lender}
use Rattle.chains.proofs.leaning.touches.Given as goal

abbrev pub invariant-loop-x : goal.invariant-loop-x
invariant-loop-x l = (l.found ≡ false) × ((n : ℕ) → n < l.x → l.c - 1 ≤ n → lender l.w l.low l.up l.rings l.k (l.y * l.w + n) ≡ false)

abbrev pub invariant-rows : goal.invariant-rows
invariant-rows l = (l.found ≡ false) × ((n : ℕ) → n < l.y → n < l.h → l.r - 1 ≤ n → (m : ℕ) → m < l.w → l.c - 1 ≤ m → m < l.c + 2 → lender l.w l.low l.up l.rings l.k (n * l.w + m) ≡ false)
