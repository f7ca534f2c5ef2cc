use mathlib.Core.Path.{sym, ◌∙◌}
use Prim.Native.Nat.{◌*◌}
use lib.ListN.{length}
use Rattle.pair.specs.PairLaws.{plane_size}
use Rattle.plan.specs.StackLaws.{layer_room, up_room}
use Rattle.clean.specs.LayerLaws.{layer_done}
use native.Mathlib.Omega.{arith}
use Rattle.clean.proofs.stack.layer_at.Goals as goal

pub widen-requires : goal.widen-requires
widen-requires c = let L = c.requires.lent.0 in record {
  sized = c.requires.sized;
  lent = (L.support_long, L.support_clear, c.requires.lent.1, c.requires.lent.2);
  packs = c.requires.down.wide_is;
}

pub overflow_mul-size : goal.overflow_mul-size
overflow_mul-size c = omega (arith, plane_size c.args.w c.args.h c.args.rb c.requires.sized.0)

pub overflow_mul-i : goal.overflow_mul-i
overflow_mul-i c = let A = c.args in
    omega (arith, layer_room A.w A.h A.n (A.h * A.rb) A.i (length A.support.now) (plane_size A.w A.h A.rb c.requires.sized.0).0 c.requires.lent.0.support_long (omega (arith, c.requires.sized.1)))

pub join-requires : goal.join-requires
join-requires c = let A = c.args in
    let L = c.requires.lent.0 in
    let es = (plane_size A.w A.h A.rb c.requires.sized.0).0 in
    let size = A.h * A.rb in (
      up_room A.w A.h A.n size A.i (length A.part.now) es L.part_long c.requires.sized.1,
      layer_room A.w A.h A.n size A.i (length A.support.now) es L.support_long (omega (arith, c.requires.sized.1)),
      omega (arith, es, c.widen.ensures.0.clean.long),
      up_room A.w A.h A.n size A.i (length A.clean.now) es L.clean_long c.requires.sized.1,
    )

pub shape_of-clean : goal.shape_of-clean
shape_of-clean c = c.join.ensures.long

pub shape_of-wide : goal.shape_of-wide
shape_of-wide c = c.widen.ensures.0.clean.long ∙ sym c.requires.down.wide_is.clean.long

pub shape_of-a : goal.shape_of-a
shape_of-a c = c.widen.ensures.1.long ∙ sym c.requires.lent.1.long

pub shape_of-b : goal.shape_of-b
shape_of-b c = c.widen.ensures.2.long ∙ sym c.requires.lent.2.long

pub returns : goal.returns
returns c = let A = c.args in
    let W = c.widen.ensures in (
      layer_done A.w A.h A.n (A.c.0 * A.c.0) A.part.now A.support.now c.requires.sized.0.sizes.w_min A.i (A.h * A.rb) (plane_size A.w A.h A.rb c.requires.sized.0).0
          A.clean.now _ A.wide.now _ c.requires.sized.1 c.requires.lent.0 c.requires.down W.0 (λ b. (c.slice_known-8-1.given b).fits) c.join.ensures,
      W.1,
      W.2,
    )
