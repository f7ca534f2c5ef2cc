use mathlib.Core.Path.{◌≡◌}
use mathlib.Core.Bool.{false, not, ◌&&◌}
use Prim.Native.Nat.{ℕ, ◌+◌, ◌-◌, ◌*◌, ◌<◌, ◌≤◌}
use lib.ListN.{length}
use Rattle.words.specs.Words.{word_bit}
use Rattle.planes.specs.Scratch.{fresh}
use Rattle.waves.specs.Rows.{WaveTo}
use Rattle.waves.proofs.waves.wave.Given as goal

abbrev pub invariant-loop-y : goal.invariant-loop-y
invariant-loop-y l = (l.y ≤ l.h) × (l.rows ≤ l.y) × (length l.ring ≡ length l.initial.ring) × (length l.to ≡ length l.initial.to)
    × (length l.left ≡ length l.initial.left) × (length l.got ≡ length l.initial.got) × WaveTo l.w l.y l.v l.from l.initial.to l.to l.initial.left l.left l.initial.got l.got l.initial.ring l.ring × (l.rows ≡ 0 → (j : ℕ) → j < (l.y + 33) * 320 → fresh l.from l.initial.left j ≡ false)
    × (l.more ≡ false → (j : ℕ) → j < (l.y + 33) * 320 → (word_bit l.initial.left j && not (fresh l.from l.initial.left j)) ≡ false)

abbrev pub decreases-loop-y : goal.decreases-loop-y
decreases-loop-y l = l.h - l.y
