use mathlib.Core.Path.{sym, ap, ◌∙◌}
use Prim.Native.Nat.{◌-◌, ◌+◌, ◌*◌}
use borrow.Rule.Slice.PartMut.{same_len_mid}
use lib.ListN.{length}
use Rattle.pair.specs.PairLaws.{plane_size}
use Rattle.plan.specs.StackLaws.{layer_room, up_room, lent_low, lent_up}
use Rattle.posts.specs.StackLaws.{own_packs, above_apart, above_inside, layer_done, given_long, given_room, given_back}
use native.Mathlib.Omega.{arith}
use Rattle.posts.proofs.stack.layer_at.Goals as goal

pub overflow_mul-size : goal.overflow_mul-size
overflow_mul-size c = omega (arith, plane_size c.args.w c.args.h c.args.rb c.requires.sized.0)

pub overflow_mul-a : goal.overflow_mul-a
overflow_mul-a c = let A = c.args in
    omega (arith, layer_room A.w A.h A.n (A.h * A.rb) A.i (length A.part.now) (plane_size A.w A.h A.rb c.requires.sized.0).0 c.requires.lent.part_long (omega (arith, c.requires.sized.3)))

pub overflow_add-m : goal.overflow_add-m
overflow_add-m c = let A = c.args in
    omega (arith, layer_room A.w A.h A.n (A.h * A.rb) A.i (length A.part.now) (plane_size A.w A.h A.rb c.requires.sized.0).0 c.requires.lent.part_long (omega (arith, c.requires.sized.3)))

pub slice_bounds-layer-end : goal.slice_bounds-layer-end
slice_bounds-layer-end c = let A = c.args in
    layer_room A.w A.h A.n (A.h * A.rb) A.i (length A.part.now) (plane_size A.w A.h A.rb c.requires.sized.0).0 c.requires.lent.part_long (omega (arith, c.requires.sized.3))

pub overflow_add-m-2 : goal.overflow_add-m-2
overflow_add-m-2 c = let A = c.args in
    omega (arith, up_room A.w A.h A.n (A.h * A.rb) A.i (length A.part.now) (plane_size A.w A.h A.rb c.requires.sized.0).0 c.requires.lent.part_long c.requires.sized.3)

pub slice_bounds-layer-end-2 : goal.slice_bounds-layer-end-2
slice_bounds-layer-end-2 c = let A = c.args in
    up_room A.w A.h A.n (A.h * A.rb) A.i (length A.part.now) (plane_size A.w A.h A.rb c.requires.sized.0).0 c.requires.lent.part_long c.requires.sized.3

pub slice_bounds-layer-end-3 : goal.slice_bounds-layer-end-3
slice_bounds-layer-end-3 c = let A = c.args in
    layer_room A.w A.h A.n (A.h * A.rb) A.i (length A.posts.now) (plane_size A.w A.h A.rb c.requires.sized.0).0 c.requires.lent.posts_long (omega (arith, c.requires.sized.3))

pub layer-requires : goal.layer-requires
layer-requires c = let A = c.args in
    let B = c.requires.lent in
    let D = c.requires.down in
    let es = (plane_size A.w A.h A.rb c.requires.sized.0).0 in
    let size = A.h * A.rb in record {
      sized = (c.requires.sized.0, c.requires.sized.1, c.requires.sized.2);
      clean = (
        lent_low A.w A.h A.n size A.i A.part.now es B.part_long B.clean c.requires.sized.3,
        lent_up A.w A.h A.n size A.i A.part.now es B.part_long B.clean c.requires.sized.3,
        D.above_is.clean,
        (own_packs A.w A.h A.n A.q.0 A.r.0 c.requires.sized.0.sizes.w_min A.part.now c.requires.lent.part_long A.i A.posts.now A.above.now c.requires.sized.3 c.requires.down (A.h * A.rb) es).clean,
      );
      apart = above_apart A.w A.h A.n A.q.0 A.r.0 c.requires.sized.0.sizes.w_min A.part.now c.requires.lent.part_long A.i A.posts.now A.above.now c.requires.sized.3 c.requires.down (A.h * A.rb) es;
      gone_down_in = above_inside A.w A.h A.n A.q.0 A.r.0 c.requires.sized.0.sizes.w_min A.part.now c.requires.lent.part_long A.i A.posts.now A.above.now c.requires.sized.3 c.requires.down (A.h * A.rb) es;
      scratch = c.requires.scratch;
    }

pub slice_bounds-put-end : goal.slice_bounds-put-end
slice_bounds-put-end c = let A = c.args in
    given_room A.w A.h A.n (A.h * A.rb) A.i A.posts.now c.layer.new.out (plane_size A.w A.h A.rb c.requires.sized.0).0 c.requires.lent.posts_long (omega (arith, c.requires.sized.3)) c.layer.auto.out

pub put-requires : goal.put-requires
put-requires c = let A = c.args in
    c.requires.down.above_is.clean.long
    ∙ sym (ap length (given_back A.w A.h A.n (A.h * A.rb) A.i A.posts.now c.layer.new.out (plane_size A.w A.h A.rb c.requires.sized.0).0 c.requires.lent.posts_long (omega (arith, c.requires.sized.3)) c.layer.auto.out)
    ∙ given_long A.w A.h A.n (A.h * A.rb) A.i A.posts.now c.layer.new.out (plane_size A.w A.h A.rb c.requires.sized.0).0 c.requires.lent.posts_long (omega (arith, c.requires.sized.3)) c.layer.auto.out)

pub shape_of-posts : goal.shape_of-posts
shape_of-posts c = let A = c.args in
    same_len_mid (A.i * (A.h * A.rb)) (A.i * (A.h * A.rb) + A.h * A.rb - A.i * (A.h * A.rb)) A.posts.now c.layer.new.out c.layer.auto.out

pub shape_of-above : goal.shape_of-above
shape_of-above c = c.put.auto.to

pub shape_of-two : goal.shape_of-two
shape_of-two c = c.layer.auto.two

pub shape_of-held : goal.shape_of-held
shape_of-held c = c.layer.auto.held

pub shape_of-ring : goal.shape_of-ring
shape_of-ring c = c.layer.auto.ring

pub shape_of-got : goal.shape_of-got
shape_of-got c = c.layer.auto.got

pub shape_of-plane : goal.shape_of-plane
shape_of-plane c = c.layer.auto.plane

pub returns : goal.returns
returns c = let A = c.args in
    let es = (plane_size A.w A.h A.rb c.requires.sized.0).0 in record {
      down = layer_done A.w A.h A.n A.q.0 A.r.0 c.requires.sized.0.sizes.w_min A.part.now c.requires.lent.part_long A.i A.posts.now A.above.now c.requires.sized.3 c.requires.down (A.h * A.rb) es c.layer.new.out c.requires.lent.posts_long c.layer.auto.out
          c.put.new.to c.put.ensures (λ b. (c.slice_known-14-1.given b).fits) c.layer.ensures.packs;
      scratch = c.layer.ensures.scratch;
    }
