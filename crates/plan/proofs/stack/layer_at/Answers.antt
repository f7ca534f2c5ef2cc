use mathlib.Core.Path.{◌≡◌, sym, ap, subst, ◌∙◌}
use mathlib.Core.List.{List}
use Prim.Native.Nat.{ℕ, ◌-◌, ◌+◌, ◌*◌}
use borrow.Rule.Slice.PartMut.{same_len_mid, put_mid}
use lib.ListN.{length}
use Rattle.pair.specs.PairLaws.{plane_size}
use Rattle.plan.specs.StackLaws.{layer_room, up_room, ring_room, area_max, lent_low, lent_up, lent_rings, lent_bare, lent_support, cut_low, cut_up, layer_done, above_apart}
use Rattle.plan.specs.Stacks.{Down}
use Rattle.image.specs.Rows.{packed, Packs}
use Rattle.image.specs.Stretches.{mid_put}
use Rattle.pair.specs.Pairs.{pair_support}
use native.Mathlib.Omega.{arith}
use Rattle.plan.proofs.stack.layer_at.Goals as goal

pub overflow_mul-size : goal.overflow_mul-size
overflow_mul-size c = omega (arith, plane_size c.args.w c.args.h c.args.rb c.requires.sized.0)

pub overflow_mul-area : goal.overflow_mul-area
overflow_mul-area c = omega (arith, area_max c.args.w c.args.h c.requires.sized.0.sizes.w_max c.requires.sized.0.sizes.h_max)

pub overflow_mul-a : goal.overflow_mul-a
overflow_mul-a c = let A = c.args in
    omega (arith, layer_room A.w A.h A.n (A.h * A.rb) A.i (length A.part.now) (plane_size A.w A.h A.rb c.requires.sized.0).0 c.requires.buffers.part_long (omega (arith, c.requires.sized.2)))

pub overflow_add-m : goal.overflow_add-m
overflow_add-m c = let A = c.args in
    omega (arith, layer_room A.w A.h A.n (A.h * A.rb) A.i (length A.part.now) (plane_size A.w A.h A.rb c.requires.sized.0).0 c.requires.buffers.part_long (omega (arith, c.requires.sized.2)))

pub overflow_mul-x : goal.overflow_mul-x
overflow_mul-x c = let A = c.args in
    omega (arith, ring_room A.keep A.w A.h A.n c.plane_step-step.result A.i (length A.rings.now) c.plane_step-step.ensures c.requires.buffers.rings_long c.requires.sized.2, c.well_formed.1.1.0)

pub slice_bounds-layer-end : goal.slice_bounds-layer-end
slice_bounds-layer-end c = let A = c.args in
    layer_room A.w A.h A.n (A.h * A.rb) A.i (length A.part.now) (plane_size A.w A.h A.rb c.requires.sized.0).0 c.requires.buffers.part_long (omega (arith, c.requires.sized.2))

pub overflow_add-m-2 : goal.overflow_add-m-2
overflow_add-m-2 c = let A = c.args in
    omega (arith, up_room A.w A.h A.n (A.h * A.rb) A.i (length A.part.now) (plane_size A.w A.h A.rb c.requires.sized.0).0 c.requires.buffers.part_long c.requires.sized.2)

pub slice_bounds-layer-end-2 : goal.slice_bounds-layer-end-2
slice_bounds-layer-end-2 c = let A = c.args in
    up_room A.w A.h A.n (A.h * A.rb) A.i (length A.part.now) (plane_size A.w A.h A.rb c.requires.sized.0).0 c.requires.buffers.part_long c.requires.sized.2

pub slice_bounds-layer-end-3 : goal.slice_bounds-layer-end-3
slice_bounds-layer-end-3 c = let A = c.args in
    layer_room A.w A.h A.n (A.h * A.rb) A.i (length A.support.now) (plane_size A.w A.h A.rb c.requires.sized.0).0 c.requires.buffers.support_long (omega (arith, c.requires.sized.2))

pub overflow_add-x : goal.overflow_add-x
overflow_add-x c = let A = c.args in
    omega (arith, ring_room A.keep A.w A.h A.n c.plane_step-step.result A.i (length A.rings.now) c.plane_step-step.ensures c.requires.buffers.rings_long c.requires.sized.2, c.well_formed.1.1.0)

pub offset_bounds-rings-x : goal.offset_bounds-rings-x
offset_bounds-rings-x c = let A = c.args in
    omega (arith, ring_room A.keep A.w A.h A.n c.plane_step-step.result A.i (length A.rings.now) c.plane_step-step.ensures c.requires.buffers.rings_long c.requires.sized.2, c.well_formed.1.1.0)

pub slice_bounds-layer-end-4 : goal.slice_bounds-layer-end-4
slice_bounds-layer-end-4 c = let A = c.args in
    ring_room A.keep A.w A.h A.n c.plane_step-step.result A.i (length A.rings.now) c.plane_step-step.ensures c.requires.buffers.rings_long c.requires.sized.2

pub layer-requires : goal.layer-requires
layer-requires c = let A = c.args in
    let B = c.requires.buffers in
    let es = (plane_size A.w A.h A.rb c.requires.sized.0).0 in
    let size = A.h * A.rb in record {
      sizes = (c.requires.sized.0.sizes, c.requires.sized.0.bytes, c.requires.sized.1, c.requires.sized.3, c.requires.sized.4);
      clean = (
        lent_low A.w A.h A.n size A.i A.part.now es B.part_long B.clean c.requires.sized.2,
        lent_up A.w A.h A.n size A.i A.part.now es B.part_long B.clean c.requires.sized.2,
        c.requires.down.above_is.clean,
        lent_support A.w A.h A.n size A.i A.support.now es B.support_long (omega (arith, c.requires.sized.2)),
        lent_rings A.keep A.w A.h A.n c.plane_step-step.result A.i A.rings.now c.plane_step-step.ensures B.rings_long c.requires.sized.2,
      );
      apart = above_apart A.keep A.w A.h A.n A.q.0 size A.i c.requires.sized.0.sizes.w_min A.part.now A.support.now A.rings.now A.above.now es
          B.part_long c.requires.sized.2 c.requires.down;
      spare = c.requires.spare;
      unasked = lent_bare A.keep A.w A.h A.n c.plane_step-step.result A.i A.rings.now c.plane_step-step.ensures B.rings_long c.requires.sized.2 B.bare;
    }

pub slice_bounds-put-end : goal.slice_bounds-put-end
slice_bounds-put-end c = let A = c.args in
    let B = c.requires.buffers in
    let size = A.h * A.rb in
    let es = (plane_size A.w A.h A.rb c.requires.sized.0).0 in
    let room = layer_room A.w A.h A.n size A.i (length A.support.now) es B.support_long (omega (arith, c.requires.sized.2)) in
    let lent = lent_support A.w A.h A.n size A.i A.support.now es B.support_long (omega (arith, c.requires.sized.2)) in
    let X = c.layer.new.out in
    omega (arith, room, same_len_mid (A.i * size) (A.i * size + size - A.i * size) A.support.now X c.layer.auto.out)

pub put-requires : goal.put-requires
put-requires c = let A = c.args in
    let B = c.requires.buffers in
    let size = A.h * A.rb in
    let es = (plane_size A.w A.h A.rb c.requires.sized.0).0 in
    let room = layer_room A.w A.h A.n size A.i (length A.support.now) es B.support_long (omega (arith, c.requires.sized.2)) in
    let lent = lent_support A.w A.h A.n size A.i A.support.now es B.support_long (omega (arith, c.requires.sized.2)) in
    let X = c.layer.new.out in
    c.requires.down.above_is.clean.long ∙ sym (ap length (mid_put (A.i * size) (A.i * size + size - A.i * size) A.support.now X (omega (arith, room))
    (c.layer.auto.out ∙ lent ∙ sym es ∙ omega arith)) ∙ c.layer.auto.out ∙ lent)

pub shape_of-support : goal.shape_of-support
shape_of-support c = let A = c.args in
    let size = A.h * A.rb in
    same_len_mid (A.i * size) (A.i * size + size - A.i * size) A.support.now c.layer.new.out c.layer.auto.out

pub shape_of-rings : goal.shape_of-rings
shape_of-rings c = let A = c.args in
    let x = A.i * c.plane_step-step.result in
    same_len_mid x (x + A.h * A.w - x) A.rings.now c.layer.new.ring c.layer.auto.ring

pub shape_of-above : goal.shape_of-above
shape_of-above c = c.put.auto.to

pub returns : goal.returns
returns c = let A = c.args in
    let B = c.requires.buffers in
    let size = A.h * A.rb in
    let es = (plane_size A.w A.h A.rb c.requires.sized.0).0 in
    let room = layer_room A.w A.h A.n size A.i (length A.support.now) es B.support_long (omega (arith, c.requires.sized.2)) in
    let lent = lent_support A.w A.h A.n size A.i A.support.now es B.support_long (omega (arith, c.requires.sized.2)) in
    let X = c.layer.new.out in
    let above' = c.put.new.to in
    let e : above' ≡ X = c.put.ensures ∙ mid_put (A.i * size) (A.i * size + size - A.i * size) A.support.now X (omega (arith, room)) (c.layer.auto.out ∙ lent ∙ sym es ∙ omega arith) in
    let x = A.i * c.plane_step-step.result in
    let rings' = put_mid x (x + A.h * A.w - x) A.rings.now c.layer.new.ring in record {
      down = subst (λ (ys : List ℕ). Down A.keep A.w A.h A.n A.q.0 A.i A.part.now (put_mid (A.i * size) (A.i * size + size - A.i * size) A.support.now ys) rings' above') e
          (layer_done A.keep A.w A.h A.n A.q.0 c.requires.sized.0.sizes.w_min A.part.now B.part_long A.i A.support.now A.rings.now A.above.now above'
          c.layer.new.ring c.requires.sized.2 B.support_long B.rings_long c.requires.down c.plane_step-step.result c.plane_step-step.ensures
          size es (c.put.auto.to ∙ c.requires.down.above_is.clean.long ∙ sym lent) c.layer.auto.ring c.layer.ensures.rings (λ b. (c.slice_known-20-1.given b).fits)
          (subst (Packs A.w A.h (pair_support A.w A.h A.q.0 (packed A.w (cut_low size A.i A.part.now)) (packed A.w (cut_up size A.i A.part.now))
          (packed A.w A.above.now))) (sym e) c.layer.ensures.packs));
      spare = c.layer.ensures.spare;
    }
