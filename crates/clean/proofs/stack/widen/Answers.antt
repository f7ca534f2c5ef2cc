use mathlib.Core.Path.{sym, ◌∙◌}
use Prim.Native.Nat.{◌*◌}
use lib.ListN.{length}
use Rattle.pair.specs.PairLaws.{plane_size}
use Rattle.plan.specs.StackLaws.{layer_room, up_room, lent_low}
use Rattle.clean.specs.LayerLaws.{same_closing, no_closing, cut_closing}
use native.Mathlib.Omega.{arith}
use Rattle.clean.proofs.stack.widen.Goals as goal

pub overflow_mul-size : goal.overflow_mul-size
overflow_mul-size c = omega (arith, plane_size c.args.w c.args.h c.args.rb c.requires.sized.0)

pub overflow_mul-at : goal.overflow_mul-at
overflow_mul-at c = let A = c.args in
    omega (arith, layer_room A.w A.h A.n (A.h * A.rb) A.i (length A.support.now) (plane_size A.w A.h A.rb c.requires.sized.0).0 c.requires.lent.0 (omega (arith, c.requires.sized.1)))

pub compare-l-requires : goal.compare-l-requires
compare-l-requires c = let A = c.args in
    up_room A.w A.h A.n (A.h * A.rb) A.i (length A.support.now) (plane_size A.w A.h A.rb c.requires.sized.0).0 c.requires.lent.0 c.requires.sized.1

pub returns-then-l : goal.returns-then-l
returns-then-l c = let A = c.args in (
  same_closing A.w A.h A.n (A.c.0 * A.c.0) A.support.now A.support.now c.requires.sized.0.sizes.w_min A.i (A.h * A.rb) (plane_size A.w A.h A.rb c.requires.sized.0).0
      A.wide.now c.requires.lent.0 (c.compare-l.ensures.same c.if-l.true) c.requires.packs,
  c.requires.lent.2,
  c.requires.lent.3,
)

pub returns-then-l-2 : goal.returns-then-l-2
returns-then-l-2 c = let A = c.args in (
  no_closing A.w A.h A.n (A.c.0 * A.c.0) A.support.now A.support.now c.requires.sized.0.sizes.w_min A.i (A.h * A.rb) (plane_size A.w A.h A.rb c.requires.sized.0).0 _
      c.requires.lent.0 (c.zero.auto.s ∙ c.requires.packs.clean.long) (c.compare-l.ensures.empty c.if-l-2.true) c.zero.ensures,
  c.requires.lent.2,
  c.requires.lent.3,
)

pub overflow_add-at : goal.overflow_add-at
overflow_add-at c = let A = c.args in
    omega (arith, layer_room A.w A.h A.n (A.h * A.rb) A.i (length A.support.now) (plane_size A.w A.h A.rb c.requires.sized.0).0 c.requires.lent.0 (omega (arith, c.requires.sized.1)))

pub slice_bounds-close-end : goal.slice_bounds-close-end
slice_bounds-close-end c = let A = c.args in
    layer_room A.w A.h A.n (A.h * A.rb) A.i (length A.support.now) (plane_size A.w A.h A.rb c.requires.sized.0).0 c.requires.lent.0 (omega (arith, c.requires.sized.1))

pub close-requires : goal.close-requires
close-requires c = let A = c.args in record {
  sizes = (
    c.requires.sized.0.sizes,
    c.requires.sized.0.bytes,
    lent_low A.w A.h A.n (A.h * A.rb) A.i A.support.now (plane_size A.w A.h A.rb c.requires.sized.0).0 c.requires.lent.0 c.requires.lent.1 c.requires.sized.1,
    c.requires.packs.clean.long,
    c.requires.lent.2,
    c.requires.lent.3,
  );
  disc = (c.requires.sized.2, c.requires.sized.3, c.requires.sized.4);
}

pub shape_of-wide : goal.shape_of-wide
shape_of-wide c = c.close.ensures.0.clean.long ∙ sym c.requires.packs.clean.long

pub shape_of-a : goal.shape_of-a
shape_of-a c = c.close.ensures.1.long ∙ sym c.requires.lent.2.long

pub shape_of-b : goal.shape_of-b
shape_of-b c = c.close.ensures.2.long ∙ sym c.requires.lent.3.long

pub returns : goal.returns
returns c = let A = c.args in (
  cut_closing A.w A.h A.n (A.c.0 * A.c.0) A.support.now A.support.now c.requires.sized.0.sizes.w_min A.i (A.h * A.rb) (plane_size A.w A.h A.rb c.requires.sized.0).0 _
      c.requires.lent.0 c.close.ensures.0,
  c.close.ensures.1,
  c.close.ensures.2,
)
