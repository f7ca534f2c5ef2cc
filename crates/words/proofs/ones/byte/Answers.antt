use Rattle.words.specs.OneLaws.{byte_bit}
use native.Mathlib.Omega.{arith}
use Rattle.words.proofs.ones.byte.Goals as goal

pub returns : goal.returns
returns c = (omega arith, λ k l. byte_bit _ _ k (omega arith) l)
