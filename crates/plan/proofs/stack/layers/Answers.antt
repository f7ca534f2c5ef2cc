use mathlib.Core.Path.{◌≡◌, refl, sym, subst, ◌∙◌}
use Prim.Native.Nat.{ℕ, ◌-◌, ◌+◌}
use Rattle.plan.specs.StackLaws.{down_end}
use Rattle.plan.specs.Stacks.{Down}
use native.Mathlib.Omega.{arith}
use Rattle.plan.proofs.stack.layers.Goals as goal

pub overflow_sub-i : goal.overflow_sub-i
overflow_sub-i c = omega (arith, c.requires.sized.2)

pub loop-i-init : goal.loop-i-init
loop-i-init c = (refl, refl, refl, omega arith, c.requires.down, c.requires.spare)

pub overflow_sub-i-in-loop-i : goal.overflow_sub-i-in-loop-i
overflow_sub-i-in-loop-i c = omega (arith, c.loop-i-test.true)

pub layer_at-requires : goal.layer_at-requires
layer_at-requires c = let A = c.args in
    let L = c.loop-i in
    let e : L.i ≡ L.i - 1 + 1 = omega (arith, c.loop-i-test.true) in record {
      sized = (c.requires.sized.0, c.requires.sized.1, omega (arith, L.invariant.3, c.loop-i-test.true), c.requires.sized.3, c.requires.sized.4);
      buffers = record {
        part_long = c.requires.buffers.part_long;
        clean = c.requires.buffers.clean;
        support_long = L.invariant.0 ∙ c.requires.buffers.support_long;
        rings_long = L.invariant.1 ∙ c.requires.buffers.rings_long;
        bare = L.invariant.4.bare;
      };
      down = subst (λ (k : ℕ). Down A.keep A.w A.h A.n A.q.0 k A.part.now L.support L.rings L.above) e L.invariant.4;
      spare = L.invariant.5;
    }

pub loop-i-smaller : goal.loop-i-smaller
loop-i-smaller c = omega (arith, c.loop-i-test.true)

pub loop-i-preserved : goal.loop-i-preserved
loop-i-preserved c = (
  c.layer_at.auto.support ∙ c.loop-i.invariant.0,
  c.layer_at.auto.rings ∙ c.loop-i.invariant.1,
  c.layer_at.auto.above
      ∙ c.loop-i.invariant.2,
  omega (arith, c.loop-i.invariant.3),
  c.layer_at.ensures.down,
  c.layer_at.ensures.spare,
)

pub shape_of-support : goal.shape_of-support
shape_of-support c = c.loop-i.invariant.0

pub shape_of-rings : goal.shape_of-rings
shape_of-rings c = c.loop-i.invariant.1

pub shape_of-above : goal.shape_of-above
shape_of-above c = c.loop-i.invariant.2

pub shape_of-left : goal.shape_of-left
shape_of-left c = c.loop-i.invariant.5.left_empty.long ∙ sym c.requires.spare.left_empty.long

pub shape_of-got : goal.shape_of-got
shape_of-got c = c.loop-i.invariant.5.got_empty.long ∙ sym c.requires.spare.got_empty.long

pub shape_of-front : goal.shape_of-front
shape_of-front c = c.loop-i.invariant.5.front_empty.long ∙ sym c.requires.spare.front_empty.long

pub shape_of-next : goal.shape_of-next
shape_of-next c = c.loop-i.invariant.5.next_empty.long ∙ sym c.requires.spare.next_empty.long

pub shape_of-seed : goal.shape_of-seed
shape_of-seed c = c.loop-i.invariant.5.seed_ready.long ∙ sym c.requires.spare.seed_ready.long

pub shape_of-lower : goal.shape_of-lower
shape_of-lower c = c.loop-i.invariant.5.lower_ready.long ∙ sym c.requires.spare.lower_ready.long

pub shape_of-ahead : goal.shape_of-ahead
shape_of-ahead c = c.loop-i.invariant.5.ahead_long ∙ sym c.requires.spare.ahead_long

pub returns : goal.returns
returns c = let A = c.args in
    let L = c.loop-i in
    let z : L.i ≡ 0 = omega (arith, c.loop-i-test.false) in let all = down_end A.keep A.w A.h A.n A.q.0 c.requires.sized.0.sizes.w_min A.part.now c.requires.buffers.part_long L.support L.rings L.above (L.invariant.0 ∙ c.requires.buffers.support_long)
    (L.invariant.1 ∙ c.requires.buffers.rings_long)
    (subst (λ (k : ℕ). Down A.keep A.w A.h A.n A.q.0 k A.part.now L.support L.rings L.above) z L.invariant.4) in record {
      support_planned = all.0;
      rings_planned = all.1;
    }
