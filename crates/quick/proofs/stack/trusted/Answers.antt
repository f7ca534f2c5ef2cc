use Rattle.quick.specs.NearByThemselves.{trust_small, trust_fits}
use native.Mathlib.Omega.{arith}
use Rattle.quick.proofs.stack.trusted.Goals as goal
use Rattle.std.proofs.Common.{refl}

pub overflow_cast-result : goal.overflow_cast-result
overflow_cast-result c = record { fits = omega (arith, trust_small c.args.q.0 c.root.result c.requires c.root.ensures) }

pub returns : goal.returns
returns c = trust_fits c.args.q.0 c.root.result c.root.result c.root.ensures refl
