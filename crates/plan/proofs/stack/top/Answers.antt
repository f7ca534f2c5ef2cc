use mathlib.Core.Path.{sym, ◌∙◌}
use Prim.Native.Nat.{◌-◌, ◌+◌, ◌*◌}
use borrow.Rule.Slice.PartMut.{same_len_mid}
use lib.ListN.{length}
use Rattle.pair.specs.PairLaws.{plane_size}
use Rattle.plan.specs.StackLaws.{layer_room, lent_support, top_done}
use native.Mathlib.Omega.{arith}
use Rattle.plan.proofs.stack.top.Goals as goal

pub overflow_mul-size : goal.overflow_mul-size
overflow_mul-size c = omega (arith, plane_size c.args.w c.args.h c.args.rb c.requires.sized.0)

pub overflow_mul-a : goal.overflow_mul-a
overflow_mul-a c = let A = c.args in
    omega (
      arith,
      layer_room A.w A.h A.n (A.h * A.rb) (A.n - 1) (length A.support.now) (plane_size A.w A.h A.rb c.requires.sized.0).0 c.requires.lent.0 (omega (arith, c.requires.sized.1)),
      c.well_formed.0,
    )

pub overflow_add-a : goal.overflow_add-a
overflow_add-a c = let A = c.args in
    omega (
      arith,
      layer_room A.w A.h A.n (A.h * A.rb) (A.n - 1) (length A.support.now) (plane_size A.w A.h A.rb c.requires.sized.0).0 c.requires.lent.0 (omega (arith, c.requires.sized.1)),
      c.well_formed.0,
    )

pub slice_bounds-put-end : goal.slice_bounds-put-end
slice_bounds-put-end c = let A = c.args in
    layer_room A.w A.h A.n (A.h * A.rb) (A.n - 1) (length A.support.now) (plane_size A.w A.h A.rb c.requires.sized.0).0 c.requires.lent.0 (omega (arith, c.requires.sized.1))

pub put-requires : goal.put-requires
put-requires c = let A = c.args in
    lent_support A.w A.h A.n (A.h * A.rb) (A.n - 1) A.support.now (plane_size A.w A.h A.rb c.requires.sized.0).0 c.requires.lent.0 (omega (arith, c.requires.sized.1)) ∙ sym c.requires.lent.1.clean.long

pub shape_of-support : goal.shape_of-support
shape_of-support c = let args = c.args in
    same_len_mid ((args.n - 1) * (args.h * args.rb)) ((args.n - 1) * (args.h * args.rb) + args.h * args.rb - (args.n - 1) * (args.h * args.rb)) args.support.now
    c.put.new.to c.put.auto.to

pub returns : goal.returns
returns c = let A = c.args in
    let D = top_done A.w A.h A.n A.support.now c.put.new.to c.requires.sized.1 c.requires.lent.0 (A.h * A.rb) (plane_size A.w A.h A.rb c.requires.sized.0).0 c.put.auto.to in
    (D.0 ∙ c.put.ensures, D.1)
