use Rattle.limits.specs.Padding.{row_some, row_none}
use Rattle.limits.proofs.padding_refusal.Goals as goal

pub returns-then-padding_row-k : goal.returns-then-padding_row-k
returns-then-padding_row-k c = simp (row_some _ _ _ _ c.padding_row.ensures c.if-padding_row-k.true)

pub returns-else-padding_row-k : goal.returns-else-padding_row-k
returns-else-padding_row-k c = simp (row_none _ _ _ _ c.padding_row.ensures c.if-padding_row-k.false)
