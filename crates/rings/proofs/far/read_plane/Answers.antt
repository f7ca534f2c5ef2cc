use mathlib.Core.Path.{refl, ◌∙◌}
use Rattle.words.specs.Words.{column}
use Rattle.rings.specs.ByteLaws.{row_at_lem, row_column, row_place, read_start, read_more, read_all}
use native.Mathlib.Omega.{arith}
use Rattle.rings.proofs.far.read_plane.Goals as goal

pub loop-y-init : goal.loop-y-init
loop-y-init c = (omega arith, refl, read_start _ _ _ c.requires.0 _ c.requires.3)

pub overflow_add-y : goal.overflow_add-y
overflow_add-y c = omega (arith, c.requires.0.h_max)

pub overflow_mul-y : goal.overflow_mul-y
overflow_mul-y c = omega (arith, row_place _ _ _ c.loop-y.y _ c.requires.0 c.requires.1 c.requires.2 (omega arith))

pub read-requires : goal.read-requires
read-requires c = row_at_lem _ _ _ c.loop-y.y _ c.requires.0 c.requires.1 c.requires.2 (omega arith)

pub put-requires : goal.put-requires
put-requires c = (c.loop-y.invariant.1 ∙ c.requires.3.long, omega (arith, c.requires.0.h_max))

pub overflow_add-y-in-loop-y : goal.overflow_add-y-in-loop-y
overflow_add-y-in-loop-y c = omega (arith, c.requires.0.h_max)

pub loop-y-preserved : goal.loop-y-preserved
loop-y-preserved c = let pre = c.requires in (
  omega arith,
  c.put.auto.l ∙ c.loop-y.invariant.1,
  read_more _ _ _ pre.0 _ pre.3 _ (column c.read.result) _ _ (omega arith)
      (row_column _ _ _ _ _ pre.0 pre.1 pre.2 (omega arith) (column c.read.result) c.read.ensures) c.put.ensures c.loop-y.invariant.2,
)

pub shape_of-out : goal.shape_of-out
shape_of-out c = c.loop-y.invariant.1

pub returns : goal.returns
returns c = read_all _ _ _ c.requires.0 _ c.requires.3 _ _ (omega arith) c.loop-y.invariant.1 c.loop-y.invariant.2
