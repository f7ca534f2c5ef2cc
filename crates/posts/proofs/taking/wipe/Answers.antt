use mathlib.Core.Path.{refl, ◌∙◌}
use Rattle.words.specs.Words.{column}
use Rattle.posts.specs.TwoLaws.{wiped_none, wiped_more}
use native.Mathlib.Omega.{arith}
use Rattle.posts.proofs.taking.wipe.Goals as goal

pub loop-d-init : goal.loop-d-init
loop-d-init c = (refl, omega arith, wiped_none _ _)

pub overflow_mul-d : goal.overflow_mul-d
overflow_mul-d c = omega (arith, c.loop-d-test.true, c.requires)

pub overflow_add-i : goal.overflow_add-i
overflow_add-i c = omega (arith, c.loop-d-test.true, c.requires)

pub put_two-requires : goal.put_two-requires
put_two-requires c = omega (arith, c.requires, c.loop-d-test.true, c.loop-d.invariant)

pub overflow_add-d : goal.overflow_add-d
overflow_add-d c = omega (arith, c.loop-d-test.true, c.requires)

pub loop-d-smaller : goal.loop-d-smaller
loop-d-smaller c = omega (arith, c.loop-d-test.true)

pub loop-d-preserved : goal.loop-d-preserved
loop-d-preserved c = (
  c.put_two.auto.l ∙ c.loop-d.invariant.0,
  omega (arith, c.loop-d-test.true),
  wiped_more _ c.loop-d.d _ _ _ (column c.none.result) c.none.ensures c.put_two.ensures c.loop-d.invariant.2,
)

pub shape_of-got : goal.shape_of-got
shape_of-got c = c.loop-d.invariant.0

pub returns : goal.returns
returns c = λ j u. let (x, y) = c.loop-d.invariant.2 j u in (x, λ d l. y d (omega (arith, c.loop-d-test.false)))
