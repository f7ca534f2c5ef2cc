use Rattle.places.specs.Search.{flat}
use Rattle.chains.specs.Amiss.{amiss_in}
use Rattle.std.proofs.Common.{◌≡◌, false, ℕ, ◌-◌, ◌*◌, ◌<◌}
use Rattle.chains.proofs.search.in_pairs.Given as goal

abbrev pub invariant-loop-i : goal.invariant-loop-i
invariant-loop-i l = (y : ℕ) → y < l.i * l.area → y < (l.n - 1) * (l.h * l.w) → flat l.w l.h (amiss_in l.ringed l.w l.h l.q.0 l.part l.sup l.rings) y ≡ false
