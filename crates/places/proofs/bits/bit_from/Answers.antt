use Rattle.std.proofs.Common.{sym, ◌∙◌, arith}
use Rattle.rules.specs.Images.{bit_at}
use Rattle.places.specs.BitLaws.{no_bit}
use Rattle.places.specs.Finding.{least_none, least_one, fails_more}
use Rattle.places.proofs.bits.bit_from.Goals as goal

pub returns-then-m-eq0-clause-first : goal.returns-then-m-eq0-clause-first
returns-then-m-eq0-clause-first c = least_none c.args.from c.args.to _ c.requires.0 (λ y a l. no_bit c.args.m y c.if-m-eq0.true)

pub loop-k-init : goal.loop-k-init
loop-k-init c = λ y a l. absurd (omega arith)

pub returns-then-bit-clause-first : goal.returns-then-bit-clause-first
returns-then-bit-clause-first c = least_one c.args.from c.args.to _ c.loop-k.k (omega arith) (omega arith) c.loop-k.invariant (sym c.bit.ensures ∙ c.if-bit.true)

pub loop-k-preserved : goal.loop-k-preserved
loop-k-preserved c = fails_more c.args.from (bit_at c.args.m) c.loop-k.k c.loop-k.invariant (sym c.bit.ensures ∙ c.if-bit.false)

pub returns-clause-first : goal.returns-clause-first
returns-clause-first c = least_none c.args.from c.args.to _ c.requires.0 (λ y a l. c.loop-k.invariant y a (omega arith))
