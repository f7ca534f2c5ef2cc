use mathlib.Core.Path.{◌≡◌}
use mathlib.Core.List.{List}
use Prim.Native.Nat.{ℕ, ◌+◌, ◌-◌, ◌*◌, ◌<◌, ◌≤◌}
use lib.ListN.{length}
use Rattle.rules.specs.Reach.{most_bound}
use Rattle.rules.specs.Tools.{count}
use Rattle.laws.specs.Discs.{Halves}
use Rattle.words.specs.Words.{word_bit}
use Rattle.posts.specs.Taking.{Taking, Ahead, ClosedBut}
use Rattle.posts.proofs.taking.grow.Given as goal

abbrev pub invariant-loop-d : goal.invariant-loop-d
invariant-loop-d l = (length l.rest ≡ 1610) × (length l.got ≡ 1610) × (1 ≤ l.rows) × (l.rows ≤ l.reach + 1) × ((l.d ≤ l.sure) × (l.sure ≤ l.reach + 1) × (l.d < l.sure → (l.d < l.rows) × (l.d ≤ l.reach)))
    × ((q : ℕ) → q ≤ most_bound → Halves q l.half → (was : List ℕ) → Ahead l.y l.c was → Taking q l.y l.c 1 was l.initial.rest l.initial.got → Taking q l.y l.c l.rows was l.rest l.got × ClosedBut q l.y l.c l.sure l.d l.rest l.got)

abbrev pub decreases-loop-d : goal.decreases-loop-d
decreases-loop-d l = count 103040 (word_bit l.rest) * 64 + (40 - l.d)
