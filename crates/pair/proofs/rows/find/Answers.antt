use Prim.Native.Nat.{◌<◌}
use mathlib.Core.Path.{◌≡◌, refl, sym, ◌∙◌}
use Prim.Native.Nat.{◌+◌, ◌-◌}
use lib.ListN.{length-set}
use lib.Seq.{get_or-set_same}
use Rattle.rules.specs.Planning.{seeds, shadow}
use Rattle.image.specs.Rows.{packed}
use Rattle.rings.specs.ByteLaws.{row_at_lem}
use Rattle.pair.specs.FoundLaws.{empty_ready, below_start, below_all, ahead_start, ahead_next, ahead_all, found_room, seed_more, left_more}
use native.Mathlib.Omega.{arith}
use Rattle.pair.proofs.rows.find.Goals as goal

pub offset_bounds-ahead-h : goal.offset_bounds-ahead-h
offset_bounds-ahead-h c = omega (arith, c.requires.sizes.0.h_max)

pub bounds-ahead-h : goal.bounds-ahead-h
bounds-ahead-h c = omega (arith, c.requires.empty.2, c.requires.sizes.0.h_max)

pub loop-y-init : goal.loop-y-init
loop-y-init c = let args = c.args in let z = c.requires.sizes.0 in
    let low = packed args.w args.low.now in
    let up = packed args.w args.up.now in (
      omega arith,
      refl,
      refl,
      length-set args.ahead.now args.h args.h
          ∙ c.requires.empty.2,
      below_start _ _ z (seeds low up) _ c.requires.empty.1,
      below_start _ _ z (shadow low up) _ (empty_ready _ _ _ c.requires.empty.0),
      ahead_start _ _ z (shadow low up) args.ahead.now
          (omega (arith, c.requires.empty.2, z.h_max)),
      sym (get_or-set_same args.ahead.now args.h args.h 0 (omega (arith, c.requires.empty.2, z.h_max))),
    )

pub find_row-last-requires : goal.find_row-last-requires
find_row-last-requires c = let ly : c.loop-y.y - 1 < c.args.h = omega (arith, c.loop-y.invariant.0, c.loop-y-test.true) in
    let a = row_at_lem _ _ _ _ _ c.requires.sizes.0 c.requires.sizes.1 c.requires.sizes.2 ly in
    (a.0, (row_at_lem _ _ _ _ _ c.requires.sizes.0 c.requires.sizes.1 c.requires.sizes.3 ly).0, a.1, omega (arith, c.requires.sizes.0.h_max), c.loop-y.invariant.1 ∙ c.requires.empty.0.long, c.loop-y.invariant.2 ∙ c.requires.empty.1.long)

pub bounds-ahead-y : goal.bounds-ahead-y
bounds-ahead-y c = omega (arith, c.loop-y.invariant.3, c.loop-y.invariant.0, c.requires.sizes.0.h_max)

pub loop-y-preserved : goal.loop-y-preserved
loop-y-preserved c = let args = c.args in let e : c.loop-y.y ≡ c.loop-y.y - 1 + 1 = omega (arith, c.loop-y-test.true) in
    let ly : c.loop-y.y - 1 < args.h = omega (arith, c.loop-y.invariant.0, c.loop-y-test.true) in
    let z = c.requires.sizes.0 in
    let F = c.find_row-last.ensures in (
      omega arith,
      c.find_row-last.auto.left ∙ c.loop-y.invariant.1,
      c.find_row-last.auto.seed ∙ c.loop-y.invariant.2,
      length-set c.loop-y.ahead (c.loop-y.y - 1) c.find_row-last.result ∙ c.loop-y.invariant.3,
      seed_more _ _ _ _ _ _ _ _ args.left.now _ _ _ _ _ z c.requires.sizes.1 c.requires.sizes.2 c.requires.sizes.3 ly F c.requires.empty.1 (rw e at c.loop-y.invariant.4),
      left_more _ _ _ _ _ _ _ _ _ _ _ args.seed.now _ _ z c.requires.sizes.1 c.requires.sizes.2 c.requires.sizes.3 ly F c.requires.empty.0 (rw e at c.loop-y.invariant.5),
      ahead_next _ _ _ _ _ _ _ _ args.left.now _ _ args.seed.now _ _ z c.requires.sizes.1 c.requires.sizes.2 c.requires.sizes.3 ly F _ (rw e at c.loop-y.invariant.7) (omega (arith, c.loop-y.invariant.3, z.h_max))
          (rw e at c.loop-y.invariant.6),
      sym (get_or-set_same c.loop-y.ahead (c.loop-y.y - 1) c.find_row-last.result 0 (omega (arith, c.loop-y.invariant.3, z.h_max))),
    )

pub shape_of-left : goal.shape_of-left
shape_of-left c = c.loop-y.invariant.1

pub shape_of-seed : goal.shape_of-seed
shape_of-seed c = c.loop-y.invariant.2

pub shape_of-ahead : goal.shape_of-ahead
shape_of-ahead c = c.loop-y.invariant.3 ∙ sym c.requires.empty.2

pub returns : goal.returns
returns c = let e : c.loop-y.y ≡ 0 = omega (arith, c.loop-y-test.false) in
    let z = c.requires.sizes.0 in
    let D = below_all _ _ z _ _ (empty_ready _ _ _ c.requires.empty.0) _ c.loop-y.invariant.1 (rw e at c.loop-y.invariant.5) in
    let A = rw e at c.loop-y.invariant.6 in record {
      aheads = (ahead_all _ _ _ c.loop-y.invariant.3 A, found_room _ _ _ _ _ _ D.ready A (rw e at c.loop-y.invariant.5));
      shadow_drawn = D;
      seeds_drawn = below_all _ _ z _ _ c.requires.empty.1 _ c.loop-y.invariant.2 (rw e at c.loop-y.invariant.4);
    }
