use Rattle.std.proofs.Common.{ℕ, ◌*◌, ◌<◌}
use Rattle.quick.specs.Sureness.{Fine}
use Rattle.quick.proofs.stack.pairs.Given as goal

abbrev pub invariant-loop-i : goal.invariant-loop-i
invariant-loop-i l = (y : ℕ) → y < l.i * (l.h * l.w) → Fine l.w l.h l.q.0 l.part l.sup l.rings y
