use mathlib.Core.Path.{◌≡◌, refl, sym, subst, ◌∙◌}
use Prim.Native.Nat.{ℕ, ◌-◌, ◌+◌}
use Rattle.posts.specs.StackLaws.{down_end}
use Rattle.posts.specs.Stacks.{Down}
use native.Mathlib.Omega.{arith}
use Rattle.posts.proofs.stack.layers.Goals as goal

pub overflow_sub-i : goal.overflow_sub-i
overflow_sub-i c = omega (arith, c.requires.sized.3)

pub loop-i-init : goal.loop-i-init
loop-i-init c = (refl, refl, omega arith, c.requires.down, c.requires.scratch)

pub overflow_sub-i-in-loop-i : goal.overflow_sub-i-in-loop-i
overflow_sub-i-in-loop-i c = omega (arith, c.loop-i-test.true)

pub layer_at-requires : goal.layer_at-requires
layer_at-requires c = let A = c.args in
    let B = c.requires.lent in
    let L = c.loop-i in
    let I = L.invariant in
    let e : L.i ≡ L.i - 1 + 1 = omega (arith, c.loop-i-test.true) in record {
      sized = (c.requires.sized.0, c.requires.sized.1, c.requires.sized.2, omega (arith, I.2, c.loop-i-test.true));
      lent = record { part_long = B.part_long; clean = B.clean; posts_long = I.0 ∙ B.posts_long };
      down = subst (λ (k : ℕ). Down A.w A.h A.n A.q.0 A.r.0 k A.part.now L.posts L.above) e I.3;
      scratch = I.4;
    }

pub loop-i-smaller : goal.loop-i-smaller
loop-i-smaller c = omega (arith, c.loop-i-test.true)

pub loop-i-preserved : goal.loop-i-preserved
loop-i-preserved c = let I = c.loop-i.invariant in
    (c.layer_at.auto.posts ∙ I.0, c.layer_at.auto.above ∙ I.1, omega (arith, I.2), c.layer_at.ensures.down, c.layer_at.ensures.scratch)

pub shape_of-posts : goal.shape_of-posts
shape_of-posts c = c.loop-i.invariant.0

pub shape_of-above : goal.shape_of-above
shape_of-above c = c.loop-i.invariant.1

pub shape_of-two : goal.shape_of-two
shape_of-two c = c.loop-i.invariant.4.two_long ∙ sym c.requires.scratch.two_long

pub shape_of-held : goal.shape_of-held
shape_of-held c = c.loop-i.invariant.4.held_long ∙ sym c.requires.scratch.held_long

pub shape_of-ring : goal.shape_of-ring
shape_of-ring c = c.loop-i.invariant.4.ring_long ∙ sym c.requires.scratch.ring_long

pub shape_of-got : goal.shape_of-got
shape_of-got c = c.loop-i.invariant.4.got_empty.long ∙ sym c.requires.scratch.got_empty.long

pub shape_of-plane : goal.shape_of-plane
shape_of-plane c = c.loop-i.invariant.4.plane_ready.long ∙ sym c.requires.scratch.plane_ready.long

pub returns : goal.returns
returns c = let A = c.args in
    let L = c.loop-i in
    let z : L.i ≡ 0 = omega (arith, c.loop-i-test.false) in
    down_end A.w A.h A.n A.q.0 A.r.0 c.requires.sized.0.sizes.w_min A.part.now c.requires.lent.part_long L.posts L.above (L.invariant.0 ∙ c.requires.lent.posts_long)
    (subst (λ (k : ℕ). Down A.w A.h A.n A.q.0 A.r.0 k A.part.now L.posts L.above) z L.invariant.3)
