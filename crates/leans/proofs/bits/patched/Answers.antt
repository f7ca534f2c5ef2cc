use Rattle.leans.specs.BitLaws.{patched_bit}
use Rattle.leans.proofs.bits.patched.Goals as goal

pub returns : goal.returns
returns c = λ k l. patched_bit c.args.x c.args.y c.args.b k c.requires l
