use Rattle.std.proofs.Common.{◌≡◌, ℕ, ◌+◌, ◌-◌, ◌*◌, ◌^◌, refl, ap, ◌∙◌, subst, arith}
use lib.Bits.{and_le_l}
use Rattle.words.specs.Words.{word_bit}
use Rattle.planes.specs.Scratch.{spot}
use Rattle.sweeps.specs.Marks.{Cleared}
use Rattle.sweeps.specs.TellLaws.{lowers_then, told_still}
use Rattle.sweeps.specs.VisitLaws.{pixel_at_lem, pixel_small, pixel_of, tellable, asks, aimed, own_masks, before_masks, after_masks, all_told, visit_around, visit_planes, visit_falls, visit_onward}
use Rattle.sweeps.proofs.visits.visit.Goals as goal

pub overflow_mul-x : goal.overflow_mul-x
overflow_mul-x c = omega (arith, pixel_small c.requires)

pub overflow_add-x : goal.overflow_add-x
overflow_add-x c = omega (arith, pixel_small c.requires)

pub overflow_add-v : goal.overflow_add-v
overflow_add-v c = omega (arith, pixel_small c.requires)

pub offset_bounds-ring-x : goal.offset_bounds-ring-x
offset_bounds-ring-x c = omega (arith, pixel_small c.requires)

pub bounds-ring-x : goal.bounds-ring-x
bounds-ring-x c = omega (arith, c.requires.planes.ring_long, pixel_at_lem c.requires)

pub overflow_add-x-2 : goal.overflow_add-x-2
overflow_add-x-2 c = omega (arith, pixel_small c.requires)

pub tell_rows-requires : goal.tell_rows-requires
tell_rows-requires c = let K = c.requires in
    let own = c.spread-own.result in
    asks K 1 _ _ own _ (omega arith) (omega (arith, K)) (omega arith) (own_masks K _ c.bit-b.ensures own c.spread-own.ensures) _ _ _ refl refl refl
    (λ e. omega (arith, and_le_l own (2 ^ 64 - 1 - c.bit-b.result)))

pub tell_rows-requires-2 : goal.tell_rows-requires-2
tell_rows-requires-2 c = let K = c.requires in
    asks K 0 _ _ _ _ (omega arith) (omega (arith, K)) (omega arith) (before_masks K _ c.bit-b.ensures _ c.spread-before.ensures) _ _ _ c.tell_rows.auto.ring c.tell_rows.auto.marks c.tell_rows.auto.got
    (λ e. e)

pub overflow_add-x-3 : goal.overflow_add-x-3
overflow_add-x-3 c = omega (arith, pixel_small c.requires)

pub tell_rows-requires-3 : goal.tell_rows-requires-3
tell_rows-requires-3 c = let K = c.requires in
    asks K 2 _ _ _ _ (omega arith) (omega (arith, K)) (omega arith) (after_masks K _ c.bit-b.ensures _ c.spread-after.ensures) _ _ _ (c.tell_rows-2.auto.ring ∙ c.tell_rows.auto.ring)
    (c.tell_rows-2.auto.marks ∙ c.tell_rows.auto.marks) (c.tell_rows-2.auto.got ∙ c.tell_rows.auto.got) (λ e. e)

pub clear_bit-requires : goal.clear_bit-requires
clear_bit-requires c = (
  omega (arith, c.requires.planes.marks_long, c.tell_rows.auto.marks, c.tell_rows-2.auto.marks, c.tell_rows-3.auto.marks, c.requires, c.requires.planes.sizes.h_max),
  c.requires.bit_inside,
)

pub shape_of-ring : goal.shape_of-ring
shape_of-ring c = c.tell_rows-3.auto.ring ∙ c.tell_rows-2.auto.ring ∙ c.tell_rows.auto.ring

pub returns : goal.returns
returns c = let K = c.requires in
    let w = c.args.w in
    let r = c.args.r in
    let q = c.args.q in
    let k = c.args.k in
    let Mo = own_masks K _ c.bit-b.ensures c.spread-own.result c.spread-own.ensures in
    let Mb = before_masks K _ c.bit-b.ensures c.spread-before.result c.spread-before.ensures in
    let Ma = after_masks K _ c.bit-b.ensures c.spread-after.result c.spread-after.ensures in
    let Ao = aimed K 1 ((r + 33) * 5 + q - 5) (r * w + q * 64 + 64) c.spread-own.result _ (omega arith) (omega arith) (omega arith) Mo in
    let Ab = aimed K 0 ((r + 33) * 5 + q - 6) (r * w + q * 64) c.spread-before.result _ (omega arith) (omega arith) (omega arith) Mb in
    let Aa = aimed K 2 ((r + 33) * 5 + q - 4) (r * w + q * 64 + 128) c.spread-after.result _ (omega arith) (omega arith) (omega arith) Ma in
    let B = tellable (spot r (q * 64 + k)) c.args.cand.now in
    let (L1, x1, y1, z1) = c.tell_rows.ensures (pixel_of w) B Ao.0 Ao.1 Ao.2 in
    let (L2, x2, y2, z2) = c.tell_rows-2.ensures (pixel_of w) B Ab.0 Ab.1 Ab.2 in
    let (L3, x3, y3, z3) = c.tell_rows-3.ensures (pixel_of w) B Aa.0 Aa.1 Aa.2 in
    let L23 = lowers_then L2 L3 in
    let L = lowers_then L1 L23 in
    let all = all_told K c.spread-own.result _ c.spread-before.result c.spread-after.result _ Mo Mb Ma c.tell_rows-3.new.ring
    (told_still _ _ _ L23 x1, told_still _ _ _ L23 y1, told_still _ _ _ L23 z1) (told_still _ _ _ L3 x2, told_still _ _ _ L3 y2, told_still _ _ _ L3 z2) (x3, y3, z3) in
    let e : ((r + 33) * 5 + q) * 64 + k ≡ spot r (q * 64 + k) = omega arith in
    let cl = subst (λ (y : ℕ). Cleared y c.clear_bit.new.l c.tell_rows-3.new.marks) e c.clear_bit.ensures.cleared in record {
      planes = visit_planes K _ _ _ _ L cl all (c.tell_rows-3.auto.ring ∙ c.tell_rows-2.auto.ring ∙ c.tell_rows.auto.ring)
          (c.clear_bit.auto.l ∙ c.tell_rows-3.auto.marks ∙ c.tell_rows-2.auto.marks ∙ c.tell_rows.auto.marks)
          (c.tell_rows-3.auto.got ∙ c.tell_rows-2.auto.got ∙ c.tell_rows.auto.got);
      falls = visit_falls K _ _ _ _ L cl all ((r + 33) * 5 + q) (λ u. c.clear_bit.ensures.falls (ap (word_bit c.tell_rows-3.new.marks) e ∙ u));
      around = visit_around K _ _ _ _ L cl all;
      onward = visit_onward K _ _ _ _ L cl all;
    }
