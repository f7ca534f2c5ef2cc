use mathlib.Core.Path.{refl, ◌∙◌}
use Rattle.words.specs.Words.{column}
use Rattle.clean.specs.PackLaws.{pack_none, pack_more, pack_all, row_in, row_small}
use native.Mathlib.Omega.{arith}
use Rattle.clean.proofs.closing.pack.Goals as goal

pub loop-y-init : goal.loop-y-init
loop-y-init c = (omega arith, refl, pack_none _ _ _ c.zero.ensures)

pub overflow_mul-y : goal.overflow_mul-y
overflow_mul-y c = omega (arith, row_small _ _ _ c.loop-y.y c.requires.0 c.requires.1 (omega (arith, c.loop-y-test.true)))

pub overflow_add-y : goal.overflow_add-y
overflow_add-y c = omega (arith, c.requires.0.h_max, c.loop-y-test.true)

pub row-requires : goal.row-requires
row-requires c = (c.requires.2.long, omega (arith, c.requires.0.h_max, c.loop-y-test.true))

pub lay-requires : goal.lay-requires
lay-requires c = row_in _ _ _ c.loop-y.y _ c.requires.0 c.requires.1 (omega (arith, c.loop-y-test.true)) (c.loop-y.invariant.1 ∙ c.zero.auto.s ∙ c.requires.3)

pub overflow_add-y-in-loop-y : goal.overflow_add-y-in-loop-y
overflow_add-y-in-loop-y c = omega (arith, c.requires.0.h_max, c.loop-y-test.true)

pub loop-y-smaller : goal.loop-y-smaller
loop-y-smaller c = omega (arith, c.loop-y-test.true)

pub loop-y-preserved : goal.loop-y-preserved
loop-y-preserved c = (
  omega (arith, c.loop-y-test.true),
  c.lay.auto.out ∙ c.loop-y.invariant.1,
  pack_more _ _ _ _ _ (column c.row.result) c.row.ensures c.lay.ensures c.loop-y.invariant.2,
)

pub shape_of-out : goal.shape_of-out
shape_of-out c = c.loop-y.invariant.1 ∙ c.zero.auto.s

pub returns : goal.returns
returns c = pack_all _ _ _ _ _ _ c.requires.0 c.requires.1 c.requires.2 (omega (arith, c.loop-y-test.false)) (c.loop-y.invariant.1 ∙ c.zero.auto.s ∙ c.requires.3) c.loop-y.invariant.2
