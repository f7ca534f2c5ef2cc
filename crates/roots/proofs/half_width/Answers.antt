use mathlib.Core.Path.{◌∙◌}
use Prim.Native.Nat.{◌-◌, ◌*◌}
use native.Mathlib.Omega.{arith}
use Rattle.rules.specs.Reach.{square, half_width}
use Rattle.roots.proofs.half_width.Goals as goal

pub returns : goal.returns
unfolding half_width square
returns c = c.wide.ensures.0 ∙ c.requires.2.roots (c.args.q.0 - c.args.d.0 * c.args.d.0) (omega (arith, c.requires.1.1))
