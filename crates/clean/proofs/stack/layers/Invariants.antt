use mathlib.Core.Path.{◌≡◌}
use Prim.Native.Nat.{◌≤◌, ◌-◌, ◌*◌}
use lib.ListN.{length}
use Rattle.planes.specs.Scratch.{Ready}
use Rattle.clean.specs.Layers.{Down}
use Rattle.clean.proofs.stack.layers.Given as goal

abbrev pub invariant-loop-i : goal.invariant-loop-i
invariant-loop-i l = (length l.clean ≡ length l.initial.clean) × (l.i ≤ l.n - 1) × Down l.w l.h l.n (l.c.0 * l.c.0) l.i l.part l.support l.clean l.wide × Ready l.w l.h l.a × Ready l.w l.h l.b

abbrev pub decreases-loop-i : goal.decreases-loop-i
decreases-loop-i l = l.i
