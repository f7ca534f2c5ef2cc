use mathlib.Core.Path.{sym, ◌∙◌}
use mathlib.Core.List.{[]}
use Rattle.laws.specs.Padding.{refused_seven, refused_by_number}
use Rattle.limits.proofs.with_part_row.Goals as goal

pub with_first_row-requires : goal.with_first_row-requires
with_first_row-requires c = c.requires c.if-k-eq7.true

pub returns-then-k-eq7 : goal.returns-then-k-eq7
returns-then-k-eq7 c = let A = c.args in
    c.with_first_row.ensures ∙ sym (refused_seven A.s A.part.now [] A.k c.if-k-eq7.true)

pub returns : goal.returns
returns c = let A = c.args in sym (refused_by_number A.s A.part.now A.k c.if-k-eq7.false)
