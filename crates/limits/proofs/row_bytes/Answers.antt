use Rattle.rules.specs.Images.{row_bytes}
use native.Mathlib.Omega.{arith}
use Rattle.limits.proofs.row_bytes.Goals as goal

pub returns : goal.returns
unfolding row_bytes
returns c = (omega arith, omega arith)
