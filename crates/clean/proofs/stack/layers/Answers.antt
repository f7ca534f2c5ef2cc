use mathlib.Core.Path.{◌≡◌, refl, sym, subst, ◌∙◌}
use Prim.Native.Nat.{ℕ, suc, ◌-◌, ◌*◌}
use Rattle.clean.specs.Layers.{Down}
use Rattle.clean.specs.LayerLaws.{down_end}
use native.Mathlib.Omega.{arith}
use Rattle.clean.proofs.stack.layers.Goals as goal

pub overflow_sub-i : goal.overflow_sub-i
overflow_sub-i c = omega (arith, c.requires.sized.1)

pub loop-i-init : goal.loop-i-init
loop-i-init c = (refl, omega arith, c.requires.down, c.requires.lent.1, c.requires.lent.2)

pub overflow_sub-i-in-loop-i : goal.overflow_sub-i-in-loop-i
overflow_sub-i-in-loop-i c = omega (arith, c.loop-i-test.true)

pub layer_at-requires : goal.layer_at-requires
layer_at-requires c = let A = c.args in
    let L = c.loop-i in
    let e : L.i ≡ suc (L.i - 1) = omega (arith, c.loop-i-test.true) in record {
      sized = (c.requires.sized.0, omega (arith, L.invariant.1, c.loop-i-test.true), c.requires.sized.2, c.requires.sized.3, c.requires.sized.4);
      lent = (
        record {
          part_long = c.requires.lent.0.part_long;
          support_long = c.requires.lent.0.support_long;
          support_clear = c.requires.lent.0.support_clear;
          clean_long = L.invariant.0 ∙ c.requires.lent.0.clean_long;
        },
        L.invariant.3,
        L.invariant.4,
      );
      down = subst (λ (k : ℕ). Down A.w A.h A.n (A.c.0 * A.c.0) k A.part.now A.support.now L.clean L.wide) e L.invariant.2;
    }

pub loop-i-smaller : goal.loop-i-smaller
loop-i-smaller c = omega (arith, c.loop-i-test.true)

pub loop-i-preserved : goal.loop-i-preserved
loop-i-preserved c = (c.layer_at.auto.clean ∙ c.loop-i.invariant.0, omega (arith, c.loop-i.invariant.1), c.layer_at.ensures.0, c.layer_at.ensures.1, c.layer_at.ensures.2)

pub shape_of-clean : goal.shape_of-clean
shape_of-clean c = c.loop-i.invariant.0

pub shape_of-wide : goal.shape_of-wide
shape_of-wide c = c.loop-i.invariant.2.wide_is.clean.long ∙ sym c.requires.down.wide_is.clean.long

pub shape_of-a : goal.shape_of-a
shape_of-a c = c.loop-i.invariant.3.long ∙ sym c.requires.lent.1.long

pub shape_of-b : goal.shape_of-b
shape_of-b c = c.loop-i.invariant.4.long ∙ sym c.requires.lent.2.long

pub returns : goal.returns
returns c = let A = c.args in
    let L = c.loop-i in
    let z : L.i ≡ 0 = omega (arith, c.loop-i-test.false) in
    down_end A.w A.h A.n (A.c.0 * A.c.0) A.part.now A.support.now L.clean L.wide (L.invariant.0 ∙ c.requires.lent.0.clean_long)
    (subst (λ (k : ℕ). Down A.w A.h A.n (A.c.0 * A.c.0) k A.part.now A.support.now L.clean L.wide) z L.invariant.2)
