use Rattle.std.proofs.Common.{◌≡◌, ℕ, ◌+◌, ◌*◌, ◌<◌, ◌≤◌, true, false}
use Rattle.words.specs.Words.{word_bit}
use Rattle.sweeps.specs.Marks.{SweepPlanes, Onward}
use Rattle.sweeps.specs.Telling.{Falls, Nearby}
use Rattle.sweeps.specs.SweepLaws.{work}
use Rattle.sweeps.proofs.sweeps.settle_row.Given as goal

abbrev pub invariant-loop-q : goal.invariant-loop-q
invariant-loop-q l = (l.q ≤ 4) × SweepPlanes l.w l.h l.ring l.marks l.got l.cand
    × Falls l.ring l.initial.ring ((j : ℕ) → word_bit l.marks j ≡ true → word_bit l.initial.marks j ≡ true) × ((j : ℕ) → (l.r + 33) * 320 ≤ j → j < ((l.r + 33) * 5 + l.q) * 64 → word_bit l.marks j ≡ false)
    × Nearby (l.r + 33) l.marks l.initial.marks × Onward l.w l.h l.ring l.initial.ring l.marks l.initial.marks l.got l.initial.got l.cand

abbrev pub decreases-loop-q : goal.decreases-loop-q
decreases-loop-q l = work l.ring l.marks ((l.r + 33) * 5) l.q
