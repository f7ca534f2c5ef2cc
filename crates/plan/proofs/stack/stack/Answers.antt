use mathlib.Core.Path.{sym, ◌∙◌}
use Prim.Native.Nat.{◌*◌}
use lib.ListN.{take, replicate}
use Rattle.pair.specs.PairLaws.{plane_size, fresh_pack, zeros_small}
use Rattle.plan.specs.StackLaws.{down_start, fresh_spare}
use native.Mathlib.Omega.{arith}
use Rattle.plan.proofs.stack.stack.Goals as goal

pub overflow_mul-size : goal.overflow_mul-size
overflow_mul-size c = omega (arith, plane_size c.args.w c.args.h c.args.rb c.requires.sized.0)

pub slice_bounds-above-end : goal.slice_bounds-above-end
slice_bounds-above-end c = (plane_size c.args.w c.args.h c.args.rb c.requires.sized.0).1

pub slice_bounds-top-end : goal.slice_bounds-top-end
slice_bounds-top-end c = let args = c.args in
    let Z = plane_size args.w args.h args.rb c.requires.sized.0 in
    Z.0 ∙ sym (fresh_pack args.w args.h c.requires.sized.0.sizes.w_min (args.h * args.rb) Z.0 Z.1).clean.long

pub top-requires : goal.top-requires
top-requires c = let args = c.args in
    let Z = plane_size args.w args.h args.rb c.requires.sized.0 in record {
      sized = (c.requires.sized.0, c.requires.sized.2);
      lent = (c.requires.buffers.support_long, fresh_pack args.w args.h c.requires.sized.0.sizes.w_min (args.h * args.rb) Z.0 Z.1);
    }

pub slice_bounds-above-end-2 : goal.slice_bounds-above-end-2
slice_bounds-above-end-2 c = (plane_size c.args.w c.args.h c.args.rb c.requires.sized.0).1

pub slice_bounds-layers-end : goal.slice_bounds-layers-end
slice_bounds-layers-end c = let args = c.args in
    let Z = plane_size args.w args.h args.rb c.requires.sized.0 in
    Z.0 ∙ sym (fresh_pack args.w args.h c.requires.sized.0.sizes.w_min (args.h * args.rb) Z.0 Z.1).clean.long

pub layers-requires : goal.layers-requires
layers-requires c = let A = c.args in
    let Z = plane_size A.w A.h A.rb c.requires.sized.0 in
    let size = A.h * A.rb in record {
      sized = (c.requires.sized.0, c.requires.sized.1, c.requires.sized.2, c.halves.ensures, c.fill.ensures);
      buffers = record { part_long = c.requires.buffers.part_long; clean = c.requires.buffers.clean; support_long = c.top.auto.support ∙ c.requires.buffers.support_long; rings_long = c.requires.buffers.rings_long; bare = c.requires.buffers.bare };
      down = down_start A.keep A.w A.h A.n A.q.0 c.requires.sized.0.sizes.w_min A.part.now c.requires.buffers.part_long A.support.now c.top.new.support A.rings.now
          (take size (replicate 8192 0)) c.requires.sized.2 c.requires.buffers.support_long c.requires.buffers.rings_long c.requires.buffers.bare c.top.ensures.1 c.top.ensures.0
          (zeros_small size) (fresh_pack A.w A.h c.requires.sized.0.sizes.w_min size Z.0 Z.1);
      spare = fresh_spare A.w A.h;
    }

pub shape_of-support : goal.shape_of-support
shape_of-support c = c.layers.auto.support ∙ c.top.auto.support
