use Rattle.image.specs.Bits.{stored_more}
use Rattle.rules.specs.Images.{bit_at}
use Rattle.rules.specs.Tools.{bit}
use lib.ListN.{length-set}
use Prim.Native.Nat.{◌/◌, ◌%◌}
use mathlib.Core.Path.{◌≡◌}
use native.Mathlib.Omega.{arith}
use Rattle.words.proofs.ones.fill.Goals as goal

pub loop-i-init : goal.loop-i-init
loop-i-init c = (c.requires, omega arith, λ k l. absurd (omega arith))

pub overflow_cast-i : goal.overflow_cast-i
overflow_cast-i c = omega arith

pub digit-requires : goal.digit-requires
digit-requires c = omega arith

pub loop-i-preserved : goal.loop-i-preserved
loop-i-preserved c = (simp length-set (omega arith), omega arith, stored_more (λ k v. v ≡ bit (bit_at (k / 8) (k % 8))) c.loop-i.ones c.loop-i.i _ (omega arith) c.loop-i.invariant.2 c.digit.ensures)

pub returns : goal.returns
returns c = record { long = c.loop-i.invariant.0; is = λ i l. c.loop-i.invariant.2 i (omega arith) }
