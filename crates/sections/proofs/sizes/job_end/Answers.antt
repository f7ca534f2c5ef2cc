use mathlib.Core.Path.{ap₂}
use Prim.Native.Nat.{ℕ, ◌+◌, ◌*◌}
use Rattle.rules.specs.Jobs.{job_end}
use native.Mathlib.Omega.{arith}
use Rattle.sections.proofs.sizes.job_end.Goals as goal

pub returns : goal.returns
unfolding job_end
returns c = (ap₂ (λ (a b : ℕ). a + 4 + b * 2) c.support_end.ensures.0 c.ring_count.ensures.0, omega arith)
