use mathlib.Core.Path.{sym, ◌∙◌}
use Rattle.words.specs.Words.{column}
use Rattle.planes.specs.PlaneLaws.{column_in, fresh_in}
use Rattle.waves.specs.RowLaws.{row_done, row_kept, row_waved, plane_row}
use native.Mathlib.Omega.{arith}
use Rattle.waves.proofs.rows.wave_row.Goals as goal

pub returns-then-not-any : goal.returns-then-not-any
returns-then-not-any c = row_done _ _ _ _ _ _ _ _ _ (column c.row-own.result) c.row-own.ensures (column c.none.result) c.none.ensures (c.any.ensures.none c.if-not-any.true)
    c.put.ensures

pub returns-then-not-any-2 : goal.returns-then-not-any-2
returns-then-not-any-2 c = row_kept _ _ _ _ _ _ _ _ _ (column c.row-own.result) c.row-own.ensures (column c.fresh_row-now.result) c.fresh_row-now.ensures (c.any-2.ensures.none c.if-not-any-2.true)
    c.put-2.ensures

pub put-requires-3 : goal.put-requires-3
put-requires-3 c = (c.requires.sizes.2, omega (arith, c.requires.sizes.4))

pub row-requires : goal.row-requires
row-requires c = (c.requires.sizes.3, omega (arith, c.requires.sizes.4))

pub put-requires-4 : goal.put-requires-4
put-requires-4 c = (c.requires.sizes.3, omega (arith, c.requires.sizes.4))

pub overflow_mul-y : goal.overflow_mul-y
overflow_mul-y c = omega (arith, plane_row c.args.y c.args.w c.requires.sizes.4 c.requires.sizes.5)

pub number_row-requires : goal.number_row-requires
number_row-requires c = (
  λ x e.
      let l = column_in _ x e in
      c.requires.inside x l (fresh_in _ _ _ (sym (c.fresh_row-now.ensures x l) ∙ e)),
  plane_row c.args.y c.args.w c.requires.sizes.4 c.requires.sizes.5,
  c.requires.sizes.6,
)

pub returns : goal.returns
returns c = row_waved _ _ _ _ _ _ _ _ _ (column c.row-own.result) c.row-own.ensures (column c.fresh_row-now.result) (column c.but_not-rest.result) (column c.either-all.result)
    (column c.row.result) _ _ _ _ c.fresh_row-now.ensures c.put-2.ensures c.but_not-rest.ensures c.put-3.ensures c.row.ensures c.either-all.ensures
    c.put-4.ensures c.number_row.ensures c.any-3.ensures.none
