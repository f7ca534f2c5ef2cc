use mathlib.Core.Path.{sym}
use Prim.Native.Nat.{◌*◌}
use Rattle.pair.specs.PairLaws.{plane_size, fresh_pack}
use Rattle.posts.specs.StackLaws.{fresh_long, fresh_scratch, down_start}
use native.Mathlib.Omega.{arith}
use Rattle.posts.proofs.stack.thinned.Goals as goal

pub overflow_mul-size : goal.overflow_mul-size
overflow_mul-size c = omega (arith, plane_size c.args.w c.args.h c.args.rb c.requires.sized.0)

pub slice_bounds-above-end : goal.slice_bounds-above-end
slice_bounds-above-end c = (plane_size c.args.w c.args.h c.args.rb c.requires.sized.0).1

pub slice_bounds-layers-end : goal.slice_bounds-layers-end
slice_bounds-layers-end c = sym (fresh_long _ 8192 (plane_size c.args.w c.args.h c.args.rb c.requires.sized.0).1)

pub overflow_add-two : goal.overflow_add-two
overflow_add-two c = omega (arith, plane_size c.args.w c.args.h c.args.rb c.requires.sized.0)

pub slice_bounds-two-end : goal.slice_bounds-two-end
slice_bounds-two-end c = omega (arith, plane_size c.args.w c.args.h c.args.rb c.requires.sized.0)

pub slice_bounds-layers-end-2 : goal.slice_bounds-layers-end-2
slice_bounds-layers-end-2 c = sym (fresh_long _ 16384 (omega (arith, plane_size c.args.w c.args.h c.args.rb c.requires.sized.0)))

pub overflow_add-held : goal.overflow_add-held
overflow_add-held c = omega (arith, plane_size c.args.w c.args.h c.args.rb c.requires.sized.0)

pub slice_bounds-held-end : goal.slice_bounds-held-end
slice_bounds-held-end c = omega (arith, plane_size c.args.w c.args.h c.args.rb c.requires.sized.0)

pub slice_bounds-layers-end-3 : goal.slice_bounds-layers-end-3
slice_bounds-layers-end-3 c = sym (fresh_long _ 16384 (omega (arith, plane_size c.args.w c.args.h c.args.rb c.requires.sized.0)))

pub layers-requires : goal.layers-requires
layers-requires c = let A = c.args in
    let lw = c.requires.sized.0.sizes.w_min in
    let Z = plane_size A.w A.h A.rb c.requires.sized.0 in record {
      sized = (c.requires.sized.0, c.requires.sized.1, c.halves.ensures, c.requires.sized.2);
      lent = c.requires.lent.0;
      down = down_start A.w A.h A.n A.q.0 A.r.0 lw A.part.now c.requires.lent.0.part_long A.posts.now _ c.requires.sized.2 c.requires.planned
          (fresh_pack A.w A.h lw (A.h * A.rb) Z.0 Z.1);
      scratch = fresh_scratch A.w A.h (A.h * A.rb) A.ring.now Z.0 Z.1 c.requires.lent.1 c.requires.lent.2;
    }

pub shape_of-posts : goal.shape_of-posts
shape_of-posts c = c.layers.auto.posts

pub shape_of-ring : goal.shape_of-ring
shape_of-ring c = c.layers.auto.ring

pub returns : goal.returns
returns c = c.layers.ensures
