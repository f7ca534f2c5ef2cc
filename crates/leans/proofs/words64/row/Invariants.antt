use Rattle.std.proofs.Common.{◌≡◌, true, ℕ, ◌+◌, ◌*◌, ◌<◌, get_or}
use Rattle.words.specs.Words.{word_bit}
use Rattle.leans.specs.Joined.{Lined}
use Rattle.leans.proofs.words64.row.Given as goal

abbrev pub invariant-loop-i : goal.invariant-loop-i
invariant-loop-i l = Lined l.w l.h l.rings l.r l.i l.free l.first l.got l.most
    × (l.bare ≡ 0 → (y : ℕ) → y < l.i * 64 → y < l.w → word_bit l.hang y ≡ true → 0 < get_or l.rings (l.r * l.w + y) 0)
