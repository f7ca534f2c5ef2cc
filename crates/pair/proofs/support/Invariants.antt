use mathlib.Core.Path.{◌≡◌}
use mathlib.Core.Bool.{not, ◌&&◌, ◌||◌}
use Prim.Native.Nat.{◌≤◌, ◌-◌}
use lib.ListN.{length}
use Rattle.image.specs.Filling.{Filling}
use Rattle.image.specs.Scratch.{bit_of}
use Rattle.pair.specs.PairLaws.{NoneHangs}
use Rattle.pair.proofs.support.Given as goal

abbrev pub invariant-loop-i : goal.invariant-loop-i
invariant-loop-i l = (l.i ≤ length l.initial.out) × Filling 0 l.i (λ j. (bit_of l.up j || bit_of l.above j) && not (bit_of l.low j)) l.out l.initial.out × (l.all ≡ 0 → NoneHangs l.i l.low l.up)

abbrev pub decreases-loop-i : goal.decreases-loop-i
decreases-loop-i l = length l.initial.out - l.i
