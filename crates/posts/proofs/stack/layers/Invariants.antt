use mathlib.Core.Path.{◌≡◌}
use Prim.Native.Nat.{◌≤◌, ◌-◌}
use lib.ListN.{length}
use Rattle.posts.specs.Stacks.{Down, Scratch}
use Rattle.posts.proofs.stack.layers.Given as goal

abbrev pub invariant-loop-i : goal.invariant-loop-i
invariant-loop-i l = (length l.posts ≡ length l.initial.posts) × (length l.above ≡ length l.initial.above) × (l.i ≤ l.n - 1) × Down l.w l.h l.n l.q.0 l.r.0 l.i l.part l.posts l.above × Scratch l.w l.h l.two l.held l.ring l.got l.plane

abbrev pub decreases-loop-i : goal.decreases-loop-i
decreases-loop-i l = l.i
