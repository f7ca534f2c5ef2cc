use mathlib.Core.Path.{◌≡◌}
use Prim.Native.Nat.{◌≤◌, ◌-◌}
use lib.ListN.{length}
use Rattle.plan.specs.Stacks.{Down}
use Rattle.pair.specs.Found.{Spare}
use Rattle.plan.proofs.stack.layers.Given as goal

abbrev pub invariant-loop-i : goal.invariant-loop-i
invariant-loop-i l = (length l.support ≡ length l.initial.support) × (length l.rings ≡ length l.initial.rings) × (length l.above ≡ length l.initial.above) × (l.i ≤ l.n - 1) × Down l.keep l.w l.h l.n l.q.0 l.i l.part l.support l.rings l.above
    × Spare l.w l.h l.left l.got l.front l.next l.seed l.lower l.ahead

abbrev pub decreases-loop-i : goal.decreases-loop-i
decreases-loop-i l = l.i
