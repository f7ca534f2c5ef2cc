use mathlib.Core.Path.{refl, sym, subst, ◌∙◌}
use Prim.Native.Nat.{◌+◌, ◌-◌, ◌*◌}
use borrow.Rule.Slice.PartMut.{put_mid, same_len_mid}
use Rattle.rules.specs.Posts.{gone_down}
use Rattle.image.specs.Rows.{packed, Packs}
use Rattle.pair.specs.PairLaws.{plane_size}
use Rattle.posts.specs.LayerLaws.{down_packs, posts_packs, two_room, upper_long, lower_long, stacked_long, stacked_clear, stacked_held}
use native.Mathlib.Omega.{arith}
use Rattle.posts.proofs.layer.thin.Goals as goal

pub overflow_mul-size : goal.overflow_mul-size
overflow_mul-size c = omega (arith, plane_size c.args.w c.args.h c.args.n c.requires.sized.0)

pub overflow_add-size : goal.overflow_add-size
overflow_add-size c = omega (arith, plane_size c.args.w c.args.h c.args.n c.requires.sized.0)

pub slice_bounds-join-end : goal.slice_bounds-join-end
slice_bounds-join-end c = let A = c.args in
    omega (arith, two_room A.w A.h (A.h * A.n) (plane_size A.w A.h A.n c.requires.sized.0).0 A.two.now c.requires.scratch.two_long)

pub join-requires : goal.join-requires
join-requires c = let A = c.args in
    let e = sym (upper_long A.w A.h (A.h * A.n) (plane_size A.w A.h A.n c.requires.sized.0).0 A.two.now c.requires.scratch.two_long) in
    (c.requires.clean.3.long ∙ e, c.requires.clean.1.long ∙ e, c.requires.clean.2.long ∙ e, c.requires.clean.0.long ∙ e)

pub carry-requires : goal.carry-requires
carry-requires c = let C = c.requires.clean in (C.2.long ∙ sym C.3.long, C.0.long ∙ sym C.3.long)

pub slice_bounds-put-end : goal.slice_bounds-put-end
slice_bounds-put-end c = let A = c.args in
    omega (
      arith,
      two_room A.w A.h (A.h * A.n) (plane_size A.w A.h A.n c.requires.sized.0).0 A.two.now c.requires.scratch.two_long,
      same_len_mid (A.h * A.n) (A.h * A.n + A.h * A.n - A.h * A.n) A.two.now c.join.new.to c.join.auto.to,
    )

pub put-requires : goal.put-requires
put-requires c = let A = c.args in
    lower_long A.w A.h (A.h * A.n) (plane_size A.w A.h A.n c.requires.sized.0).0 _
    (same_len_mid (A.h * A.n) (A.h * A.n + A.h * A.n - A.h * A.n) A.two.now c.join.new.to c.join.auto.to ∙ c.requires.scratch.two_long)
    ∙ sym (c.carry.auto.out ∙ c.requires.clean.3.long)

pub stack-requires : goal.stack-requires
stack-requires c = let A = c.args in
    let C = c.requires.clean in
    let S = c.requires.scratch in
    let lw = c.requires.sized.0.sizes.w_min in
    let es = (plane_size A.w A.h A.n c.requires.sized.0).0 in
    let D = subst (Packs A.w A.h (gone_down (packed A.w A.low.now) (packed A.w A.above.now))) (sym c.put.ensures)
    (down_packs A.w A.h lw A.low.now A.up.now A.above.now A.out.now C.2 _ _ (c.carry.auto.out ∙ C.3.long) C.3.long c.carry.ensures) in
    let long = stacked_long A.w A.h (A.h * A.n) A.r.0 lw es A.low.now A.up.now A.above.now A.out.now A.two.now c.put.new.to c.join.new.to
    C.2 C.3 c.requires.apart S.two_long c.join.auto.to c.join.ensures D in
    let clear = stacked_clear A.w A.h (A.h * A.n) A.r.0 lw es A.low.now A.up.now A.above.now A.out.now A.two.now c.put.new.to c.join.new.to
    C.2 C.3 c.requires.apart S.two_long c.join.auto.to c.join.ensures D (λ b. (c.slice_known-9-1.given b).fits) in record {
      sized = (c.requires.sized.0, c.requires.sized.1, omega arith);
      buffers = record { part_long = long; clean = clear; support_long = S.held_long; rings_long = S.ring_long; bare = λ e. S.ring_bare };
    }

pub slice_bounds-read_plane-end : goal.slice_bounds-read_plane-end
slice_bounds-read_plane-end c = let A = c.args in
    omega (
      arith,
      two_room A.w A.h (A.h * A.n) (plane_size A.w A.h A.n c.requires.sized.0).0 c.stack.new.support (c.stack.auto.support ∙ c.requires.scratch.held_long),
    )

pub read_plane-requires : goal.read_plane-requires
read_plane-requires c = let A = c.args in
    let C = c.requires.clean in
    let lw = c.requires.sized.0.sizes.w_min in
    let es = (plane_size A.w A.h A.n c.requires.sized.0).0 in
    let D = subst (Packs A.w A.h (gone_down (packed A.w A.low.now) (packed A.w A.above.now))) (sym c.put.ensures)
    (down_packs A.w A.h lw A.low.now A.up.now A.above.now A.out.now C.2 _ _ (c.carry.auto.out ∙ C.3.long) C.3.long c.carry.ensures) in
    let held = stacked_held A.w A.h (A.h * A.n) A.r.0 lw es A.low.now A.up.now A.above.now A.out.now A.two.now c.put.new.to c.join.new.to
    C.2 C.3 c.requires.apart c.requires.scratch.two_long c.join.auto.to c.join.ensures D _ c.stack.ensures.support_planned in
    (c.requires.sized.0.sizes, c.requires.sized.0.bytes, held.clean, c.requires.scratch.plane_ready)

pub scan-requires : goal.scan-requires
scan-requires c = let A = c.args in
    let C = c.requires.clean in
    let D = down_packs A.w A.h c.requires.sized.0.sizes.w_min A.low.now A.up.now A.above.now A.out.now C.2 _ _ (c.carry.auto.out ∙ C.3.long) C.3.long c.carry.ensures in record {
      sizes = (c.requires.sized.0.sizes, c.requires.sized.0.bytes, c.read_plane.ensures.ready, c.requires.scratch.got_empty, D.clean);
      disc = (c.requires.sized.1, c.requires.sized.2);
    }

pub shape_of-out : goal.shape_of-out
shape_of-out c = c.scan.auto.out ∙ c.carry.auto.out

pub shape_of-two : goal.shape_of-two
shape_of-two c = let A = c.args in
    same_len_mid 0 (A.h * A.n - 0) (put_mid (A.h * A.n) (A.h * A.n + A.h * A.n - A.h * A.n) A.two.now c.join.new.to) c.put.new.to c.put.auto.to
    ∙ same_len_mid (A.h * A.n) (A.h * A.n + A.h * A.n - A.h * A.n) A.two.now c.join.new.to c.join.auto.to

pub shape_of-held : goal.shape_of-held
shape_of-held c = c.stack.auto.support

pub shape_of-ring : goal.shape_of-ring
shape_of-ring c = c.stack.auto.rings

pub shape_of-got : goal.shape_of-got
shape_of-got c = c.scan.auto.got

pub shape_of-plane : goal.shape_of-plane
shape_of-plane c = c.scan.auto.rest ∙ c.read_plane.auto.out

pub returns : goal.returns
returns c = let A = c.args in
    let C = c.requires.clean in
    let S = c.requires.scratch in
    let lw = c.requires.sized.0.sizes.w_min in
    let es = (plane_size A.w A.h A.n c.requires.sized.0).0 in
    let F = down_packs A.w A.h lw A.low.now A.up.now A.above.now A.out.now C.2 _ _ (c.carry.auto.out ∙ C.3.long) C.3.long c.carry.ensures in
    let D = subst (Packs A.w A.h (gone_down (packed A.w A.low.now) (packed A.w A.above.now))) (sym c.put.ensures) F in
    let long = stacked_long A.w A.h (A.h * A.n) A.r.0 lw es A.low.now A.up.now A.above.now A.out.now A.two.now c.put.new.to c.join.new.to
    C.2 C.3 c.requires.apart S.two_long c.join.auto.to c.join.ensures D in
    let held = stacked_held A.w A.h (A.h * A.n) A.r.0 lw es A.low.now A.up.now A.above.now A.out.now A.two.now c.put.new.to c.join.new.to
    C.2 C.3 c.requires.apart S.two_long c.join.auto.to c.join.ensures D _ c.stack.ensures.support_planned in record {
      packs = posts_packs A.w A.h lw A.low.now A.up.now A.above.now A.out.now C.2 A.r.0 c.requires.apart _ F _ _ _ held c.read_plane.ensures c.scan.ensures.packs;
      scratch = record {
        two_long = long;
        held_long = c.stack.auto.support ∙ S.held_long;
        ring_long = c.stack.auto.rings ∙ S.ring_long;
        ring_bare = c.stack.ensures.rings_planned.1 refl;
        got_empty = c.scan.ensures.ready.1;
        plane_ready = c.scan.ensures.ready.0;
      };
    }
