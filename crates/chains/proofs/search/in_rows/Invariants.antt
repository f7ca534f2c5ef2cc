use Rattle.chains.specs.Amiss.{amiss_here}
use Rattle.std.proofs.Common.{◌≡◌, false, ℕ, ◌*◌, ◌<◌}
use Rattle.chains.proofs.search.in_rows.Given as goal

abbrev pub invariant-loop-r : goal.invariant-loop-r
invariant-loop-r l = (y : ℕ) → y < l.r * l.w → y < l.h * l.w → amiss_here l.ringed l.w l.h l.q.0 l.low l.up l.below l.above l.rings y ≡ false
