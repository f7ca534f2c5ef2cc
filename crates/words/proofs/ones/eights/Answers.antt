use Rattle.words.specs.OneLaws.{placed_none, eights_more, eights_all}
use Prim.Native.Nat.{◌*◌}
use mathlib.Core.Path.{◌≡◌, refl, ◌∙◌}
use native.Mathlib.Omega.{arith}
use Rattle.words.proofs.ones.eights.Goals as goal

pub loop-b-init : goal.loop-b-init
loop-b-init c = (refl, omega arith, placed_none _ _ _)

pub overflow_mul-byte : goal.overflow_mul-byte
overflow_mul-byte c = omega (arith, c.byte.ensures.0)

pub eight-requires : goal.eight-requires
eight-requires c = (omega (arith, c.loop-b.invariant.0), omega (arith, c.byte.ensures.0, c.requires.1.long))

pub loop-b-preserved : goal.loop-b-preserved
loop-b-preserved c = (c.eight.auto.l ∙ c.loop-b.invariant.0, omega arith, eights_more _ _ _ _ _ _ _ _ _ c.requires.1 c.byte.ensures c.loop-b.invariant.2 c.eight.ensures)

pub shape_of-l : goal.shape_of-l
shape_of-l c = c.loop-b.invariant.0

pub returns : goal.returns
returns c = let s = c.loop-b in
    let e : 8 * s.b ≡ 64 = omega arith in
    eights_all _ _ _ _ _ (rw e at s.invariant.2)
