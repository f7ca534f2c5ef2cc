use mathlib.Core.Path.{sym, ◌∙◌}
use Rattle.laws.specs.Padding.{refused_eight, refused_by_part}
use Rattle.limits.proofs.with_rows.Goals as goal

pub with_first_row-requires : goal.with_first_row-requires
with_first_row-requires c = c.requires.1 c.if-k-eq8.true

pub returns-then-k-eq8 : goal.returns-then-k-eq8
returns-then-k-eq8 c = let A = c.args in
    c.with_first_row.ensures ∙ sym (refused_eight A.s A.part.now A.support.now A.k c.if-k-eq8.true)

pub returns : goal.returns
returns c = let A = c.args in
    c.with_part_row.ensures ∙ sym (refused_by_part A.s A.part.now A.support.now A.k c.if-k-eq8.false)
