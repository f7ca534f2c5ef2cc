use Rattle.std.proofs.Common.{◌≡◌, true, ℕ, ◌-◌, ◌<◌, ◌≤◌}
use Rattle.image.specs.Rows.{packed}
use Rattle.planes.specs.Scratch.{Ready, Drawn}
use Rattle.quick.specs.Sureness.{RowGood, RowHeld}
use Rattle.quick.proofs.pair.rows.Given as goal

abbrev pub invariant-loop-r : goal.invariant-loop-r
invariant-loop-r l = (l.from ≤ l.h) × (Ready l.w l.h l.disc × (l.drawn ≡ true → Drawn l.w l.h (packed l.w l.low) l.disc))
    × ((y : ℕ) → y < l.from → RowGood l.w l.h l.q.0 l.t l.low l.up l.rings y) × (l.held ≡ true → (y : ℕ) → y < l.from → RowHeld l.w l.low l.up l.below l.rings y)

abbrev pub decreases-loop-r : goal.decreases-loop-r
decreases-loop-r l = l.h - l.from
