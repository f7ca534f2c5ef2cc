use mathlib.Core.Path.{refl, ◌∙◌}
use lib.Arith.{digits_lt}
use Rattle.planes.specs.PlaneLaws.{seen_at}
use Rattle.posts.specs.ScanLaws.{pixel_clean, pixel_packed, row_bits, before_start, before_word, first_pixel, row_done, before_fewer, fewer, counted_less, scanning_none, scanning_more}
use native.Mathlib.Omega.{arith}
use Rattle.posts.proofs.scan.scan_row.Goals as goal

pub overflow_mul-at : goal.overflow_mul-at
overflow_mul-at c = let S = c.requires.planes.0 in omega (arith, (row_bits _ _ _ c.args.y S.sizes S.bytes c.requires.planes.1 _ S.out_clean).0)

pub overflow_add-i : goal.overflow_add-i
overflow_add-i c = omega (arith, c.requires.planes.1, c.requires.planes.0.sizes.h_max)

pub overflow_mul-i : goal.overflow_mul-i
overflow_mul-i c = omega (arith, c.requires.planes.1, c.requires.planes.0.sizes.h_max)

pub loop-k-init : goal.loop-k-init
loop-k-init c = (refl, refl, refl, omega arith, c.requires.planes.0, before_start _ _ _ c.requires.done, scanning_none _ _ _ _ _)

pub overflow_add-m : goal.overflow_add-m
overflow_add-m c = omega (arith, c.requires.planes.1, c.requires.planes.0.sizes.h_max, c.loop-k-test.true)

pub offset_bounds-rest-i : goal.offset_bounds-rest-i
offset_bounds-rest-i c = omega (arith, c.requires.planes.1, c.requires.planes.0.sizes.h_max, c.loop-k-test.true)

pub bounds-rest-i : goal.bounds-rest-i
bounds-rest-i c = omega (arith, c.requires.planes.1, c.requires.planes.0.sizes.h_max, c.loop-k-test.true, c.loop-k.invariant.4.rest_ready.long)

pub overflow_add-k : goal.overflow_add-k
overflow_add-k c = omega (arith, c.loop-k-test.true)

pub loop-k-smaller-then-m-eq0 : goal.loop-k-smaller-then-m-eq0
loop-k-smaller-then-m-eq0 c = omega (arith, c.loop-k-test.true)

pub loop-k-preserved-then-m-eq0 : goal.loop-k-preserved-then-m-eq0
loop-k-preserved-then-m-eq0 c = (
  c.loop-k.invariant.0,
  c.loop-k.invariant.1,
  c.loop-k.invariant.2,
  omega (arith, c.loop-k-test.true),
  c.loop-k.invariant.4,
  before_word _ _ c.loop-k.k _ c.if-m-eq0.true c.loop-k.invariant.5,
  c.loop-k.invariant.6,
)

pub overflow_mul-c : goal.overflow_mul-c
overflow_mul-c c = omega (arith, c.loop-k-test.true)

pub first-requires : goal.first-requires
first-requires c = omega (arith, c.if-m-eq0.false)

pub overflow_add-c : goal.overflow_add-c
overflow_add-c c = omega (arith, c.loop-k-test.true, c.first.ensures.0)

pub take-requires : goal.take-requires
take-requires c = let S = c.loop-k.invariant.4 in
    let (lc, on, none) = first_pixel _ _ S.sizes _ S.rest_ready c.args.y c.loop-k.k c.requires.planes.1 c.loop-k.invariant.5 c.first.result c.loop-k-test.true c.first.ensures.0 c.first.ensures.1 c.first.ensures.2 in record {
      sizes = (S.sizes, S.rest_ready, S.got_empty, c.requires.planes.1, lc, c.requires.planes.2, c.requires.planes.3);
      first = (on, none);
    }

pub set_pixel-requires : goal.set_pixel-requires
set_pixel-requires c = let S = c.loop-k.invariant.4 in
    let (lc, on, none) = first_pixel _ _ S.sizes _ S.rest_ready c.args.y c.loop-k.k c.requires.planes.1 c.loop-k.invariant.5 c.first.result c.loop-k-test.true c.first.ensures.0 c.first.ensures.1 c.first.ensures.2 in
    (omega (arith, S.sizes.w_max), (row_bits _ _ _ c.args.y S.sizes S.bytes c.requires.planes.1 _ S.out_clean).1 _ lc)

pub loop-k-smaller : goal.loop-k-smaller
loop-k-smaller c = let S = c.loop-k.invariant.4 in
    let (lc, on, none) = first_pixel _ _ S.sizes _ S.rest_ready c.args.y c.loop-k.k c.requires.planes.1 c.loop-k.invariant.5 c.first.result c.loop-k-test.true c.first.ensures.0 c.first.ensures.1 c.first.ensures.2 in
    omega (arith, counted_less _ _ _ _ _ _ (digits_lt c.requires.planes.1 lc) (seen_at _ _ S.sizes _ c.args.y _ lc ∙ on) none c.take.ensures.spared)

pub loop-k-preserved : goal.loop-k-preserved
loop-k-preserved c = let S = c.loop-k.invariant.4 in
    let (lc, on, none) = first_pixel _ _ S.sizes _ S.rest_ready c.args.y c.loop-k.k c.requires.planes.1 c.loop-k.invariant.5 c.first.result c.loop-k-test.true c.first.ensures.0 c.first.ensures.1 c.first.ensures.2 in
    let la = digits_lt c.requires.planes.1 lc in
    let sa = seen_at _ _ S.sizes _ c.args.y _ lc ∙ on in (
      c.take.auto.rest ∙ c.loop-k.invariant.0,
      c.take.auto.got ∙ c.loop-k.invariant.1,
      c.set_pixel.auto.out ∙ c.loop-k.invariant.2,
      c.loop-k.invariant.3,
      record {
        sizes = S.sizes;
        bytes = S.bytes;
        rest_ready = c.take.ensures.ready.0;
        got_empty = c.take.ensures.ready.1;
        out_clean = pixel_clean _ _ _ c.args.y _ S.bytes lc _ _ c.set_pixel.ensures c.set_pixel.auto.out S.out_clean;
      },
      before_fewer _ _ S.sizes _ S.rest_ready c.args.y c.loop-k.k c.requires.planes.1 c.loop-k.invariant.5 c.loop-k.invariant.3 _ c.take.ensures.ready.0 (fewer _ _ _ _ _ _ la sa none c.take.ensures.spared),
      scanning_more _ _ _ _ _ _ la sa none c.take.ensures.spared _ _ _ _ (pixel_packed _ c.args.h _ c.args.y _ S.bytes lc _ _ c.set_pixel.ensures) c.loop-k.invariant.6,
    )

pub shape_of-rest : goal.shape_of-rest
shape_of-rest c = c.loop-k.invariant.0

pub shape_of-got : goal.shape_of-got
shape_of-got c = c.loop-k.invariant.1

pub shape_of-out : goal.shape_of-out
shape_of-out c = c.loop-k.invariant.2

pub returns : goal.returns
returns c = let S = c.loop-k.invariant.4 in record {
  planes = S;
  scanning = c.loop-k.invariant.6;
  done = row_done _ _ S.sizes _ S.rest_ready _ _ c.requires.planes.1 c.loop-k.invariant.5 (omega (arith, c.loop-k-test.false, c.loop-k.invariant.3));
}
