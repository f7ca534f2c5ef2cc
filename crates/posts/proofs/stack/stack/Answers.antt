use mathlib.Core.Path.{sym}
use Prim.Native.Nat.{◌*◌}
use Rattle.plan.specs.StackLaws.{area_max}
use Rattle.posts.specs.StackLaws.{fresh_long, fresh_bare}
use native.Mathlib.Omega.{arith}
use Rattle.posts.proofs.stack.stack.Goals as goal

pub overflow_mul-area : goal.overflow_mul-area
overflow_mul-area c = omega (arith, area_max c.args.w c.args.h c.requires.sized.0.sizes.w_max c.requires.sized.0.sizes.h_max)

pub slice_bounds-ring-end : goal.slice_bounds-ring-end
slice_bounds-ring-end c = area_max c.args.w c.args.h c.requires.sized.0.sizes.w_max c.requires.sized.0.sizes.h_max

pub slice_bounds-planned-end : goal.slice_bounds-planned-end
slice_bounds-planned-end c = sym (fresh_long _ 65536 (area_max c.args.w c.args.h c.requires.sized.0.sizes.w_max c.requires.sized.0.sizes.h_max))

pub planned-requires : goal.planned-requires
planned-requires c = let A = c.args in
    let most = area_max A.w A.h c.requires.sized.0.sizes.w_max c.requires.sized.0.sizes.h_max in record {
      sized = c.requires.sized;
      lent = (c.requires.lent, fresh_long (A.h * A.w) 65536 most, λ p lp. fresh_bare (A.h * A.w) p most lp);
    }

pub shape_of-posts : goal.shape_of-posts
shape_of-posts c = c.planned.auto.posts

pub returns : goal.returns
returns c = c.planned.ensures
