use Rattle.std.proofs.Common.{◌≡◌, length}
use Rattle.planes.specs.Scratch.{Framed}
use Rattle.quick.specs.Layers.{Reading}
use Rattle.quick.proofs.layers.read.Given as goal

abbrev pub invariant-loop-r : goal.invariant-loop-r
invariant-loop-r l = (length l.out ≡ 1610) × Framed l.w l.h l.out × Reading l.w l.r l.s l.out
