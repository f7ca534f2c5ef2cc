use Rattle.std.proofs.Common.{sym, ◌∙◌}
use Rattle.leans.specs.BitLaws.{bit_at_lem}
use Rattle.leans.proofs.bits.column_at.Goals as goal

pub returns : goal.returns
returns c = c.bit.ensures ∙ sym (bit_at_lem _ c.args.c)
