use mathlib.Core.Path.{refl, sym, ◌∙◌}
use Prim.Native.Nat.{◌*◌}
use lib.ListN.{take, replicate}
use Rattle.planes.specs.PlaneLaws.{zero_ready}
use Rattle.pair.specs.PairLaws.{plane_size, fresh_pack, zeros_small}
use Rattle.clean.specs.FarLaws.{disc_small}
use Rattle.clean.specs.LayerLaws.{down_start}
use native.Mathlib.Omega.{arith}
use Rattle.clean.proofs.stack.stack.Goals as goal

pub overflow_mul-size : goal.overflow_mul-size
overflow_mul-size c = omega (arith, plane_size c.args.w c.args.h c.args.rb c.requires.sized.0)

pub slice_bounds-wide-end : goal.slice_bounds-wide-end
slice_bounds-wide-end c = (plane_size c.args.w c.args.h c.args.rb c.requires.sized.0).1

pub slice_bounds-top-end : goal.slice_bounds-top-end
slice_bounds-top-end c = let A = c.args in
    let Z = plane_size A.w A.h A.rb c.requires.sized.0 in
    Z.0 ∙ sym (fresh_pack A.w A.h c.requires.sized.0.sizes.w_min (A.h * A.rb) Z.0 Z.1).clean.long

pub top-requires : goal.top-requires
top-requires c = let A = c.args in
    let Z = plane_size A.w A.h A.rb c.requires.sized.0 in record {
      sized = (c.requires.sized.0, c.requires.sized.1);
      lent = (c.requires.lent.0.clean_long, fresh_pack A.w A.h c.requires.sized.0.sizes.w_min (A.h * A.rb) Z.0 Z.1);
    }

pub overflow_mul-c : goal.overflow_mul-c
overflow_mul-c c = omega (arith, disc_small _ c.requires.sized.2)

pub halves-requires : goal.halves-requires
halves-requires c = (omega (arith, disc_small _ c.requires.sized.2), refl)

pub slice_bounds-wide-end-2 : goal.slice_bounds-wide-end-2
slice_bounds-wide-end-2 c = (plane_size c.args.w c.args.h c.args.rb c.requires.sized.0).1

pub slice_bounds-layers-end : goal.slice_bounds-layers-end
slice_bounds-layers-end c = let A = c.args in
    let Z = plane_size A.w A.h A.rb c.requires.sized.0 in
    Z.0 ∙ sym (fresh_pack A.w A.h c.requires.sized.0.sizes.w_min (A.h * A.rb) Z.0 Z.1).clean.long

pub layers-requires : goal.layers-requires
layers-requires c = let A = c.args in
    let L = c.requires.lent.0 in
    let Z = plane_size A.w A.h A.rb c.requires.sized.0 in
    let size = A.h * A.rb in record {
      sized = (c.requires.sized.0, c.requires.sized.1, c.requires.sized.2, c.halves.ensures, c.full-all.ensures);
      lent = (
        record { part_long = L.part_long; support_long = L.support_long; support_clear = L.support_clear; clean_long = c.top.auto.support ∙ L.clean_long },
        zero_ready A.w A.h,
        zero_ready A.w A.h,
      );
      down = down_start A.w A.h A.n (A.c.0 * A.c.0) A.part.now A.support.now c.requires.sized.0.sizes.w_min A.clean.now c.top.new.support (take size (replicate 8192 0)) c.requires.sized.1 L c.requires.lent.1
          c.top.ensures.1 c.top.ensures.0 (zeros_small size) (fresh_pack A.w A.h c.requires.sized.0.sizes.w_min size Z.0 Z.1);
    }

pub shape_of-clean : goal.shape_of-clean
shape_of-clean c = c.layers.auto.clean ∙ c.top.auto.support
