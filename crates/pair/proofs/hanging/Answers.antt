use mathlib.Core.Path.{sym, ap, ◌∙◌}
use Prim.Native.Nat.{ℕ, ◌*◌}
use Rattle.rules.specs.Planning.{seeds, shadow}
use Rattle.image.specs.Rows.{packed}
use Rattle.rings.specs.ByteLaws.{row_bytes_lem}
use Rattle.pair.specs.HangLaws.{hang_afloat, hang_waved, hang_rings, pair_apart, seeds_below, excused_by, spare_rooms, excused_rings}
use native.Mathlib.Omega.{arith}
use Rattle.pair.proofs.hanging.Goals as goal

pub rings-requires : goal.rings-requires
rings-requires c = let args = c.args in
    let S = c.requires.spare in record {
      planes = hang_afloat _ _ args.n args.q.0 c.requires.sizes.0 args.low.now args.up.now _ _ _ _ _ c.find.ensures.aheads.0 c.find.ensures.aheads.1 c.find.ensures.shadow_drawn c.find.ensures.seeds_drawn S.got_empty c.requires.clean.3;
      rooms = spare_rooms _ _ args.ahead.now _ args.left.now _ _ _ _ args.seed.now args.seed.now _ S c.find.ensures.aheads.1;
      sizes = (c.requires.sizes.1, c.requires.clean.0, c.requires.sizes.2, c.requires.sizes.3, c.requires.sizes.4);
    }

pub excuse-requires : goal.excuse-requires
excuse-requires c = let b = row_bytes_lem c.args.w c.args.h c.requires.sizes.0 in (
  c.requires.sizes.0,
  c.find.ensures.aheads.0,
  c.rings.ensures.rooms.got_room,
  omega (arith, b, c.requires.sizes.1, c.requires.sizes.0.w_min),
  omega (arith, b, c.requires.sizes.1),
  c.requires.clean.2 ∙ ap (λ (x : ℕ). c.args.h * x) (sym c.requires.sizes.1),
)

pub unless-requires : goal.unless-requires
unless-requires c = let args = c.args in
    let z = c.requires.sizes.0 in
    let S = c.requires.spare in
    let low = args.low.now in
    let up = args.up.now in
    let W = c.rings.ensures.whole (shadow (packed args.w low) (packed args.w up)) (seeds (packed args.w low) (packed args.w up))
    (hang_waved _ _ args.n args.q.0 z low up _ _ _ _ _ c.find.ensures.aheads.0 c.find.ensures.aheads.1 c.find.ensures.shadow_drawn c.find.ensures.seeds_drawn S.got_empty c.requires.clean.3 c.requires.clean.4) (pair_apart _ _ args.n args.q.0 z low up)
    (seeds_below _ _ args.n args.q.0 z low up) in record {
      sizes = (z, c.find.ensures.aheads.0, c.rings.ensures.rooms.got_room, c.rings.auto.ring ∙ c.requires.clean.3);
      rings_seen = W.gots;
    }

pub empty-requires : goal.empty-requires
empty-requires c = let R = c.rings.ensures.rooms in
    (c.requires.sizes.0, c.find.ensures.aheads.0, R.left_room, R.got_room, R.front_room, R.next_room)

pub shape_of-ring : goal.shape_of-ring
shape_of-ring c = c.unless.auto.ring ∙ c.rings.auto.ring

pub shape_of-left : goal.shape_of-left
shape_of-left c = c.empty.auto.a ∙ c.rings.auto.left ∙ c.find.auto.left

pub shape_of-got : goal.shape_of-got
shape_of-got c = c.empty.auto.b ∙ c.rings.auto.got

pub shape_of-front : goal.shape_of-front
shape_of-front c = c.empty.auto.c ∙ c.rings.auto.front

pub shape_of-next : goal.shape_of-next
shape_of-next c = c.empty.auto.d ∙ c.rings.auto.next

pub shape_of-seed : goal.shape_of-seed
shape_of-seed c = c.find.auto.seed

pub shape_of-ahead : goal.shape_of-ahead
shape_of-ahead c = c.find.auto.ahead

pub returns : goal.returns
returns c = let args = c.args in
    let z = c.requires.sizes.0 in
    let S = c.requires.spare in
    let low = args.low.now in
    let up = args.up.now in
    let W = c.rings.ensures.whole (shadow (packed args.w low) (packed args.w up)) (seeds (packed args.w low) (packed args.w up))
    (hang_waved _ _ args.n args.q.0 z low up _ _ _ _ _ c.find.ensures.aheads.0 c.find.ensures.aheads.1 c.find.ensures.shadow_drawn c.find.ensures.seeds_drawn S.got_empty c.requires.clean.3 c.requires.clean.4) (pair_apart _ _ args.n args.q.0 z low up)
    (seeds_below _ _ args.n args.q.0 z low up) in
    let R = hang_rings _ _ args.n _ z low up _ _ W in
    let E = c.empty.ensures in record {
      rings = ((λ e. c.unless.ensures.0 e ∙ R), c.unless.ensures.1);
      excused = excused_rings _ _ _ _ _ _ R (excused_by _ _ _ z c.requires.sizes.1 _ _ _ _ W.gots c.excuse.ensures);
      spare = record {
        left_empty = E.0;
        got_empty = E.1;
        front_empty = E.2;
        next_empty = E.3;
        seed_ready = c.find.ensures.seeds_drawn.ready;
        lower_ready = c.rings.ensures.rooms.lower_ready;
        ahead_long = c.find.ensures.aheads.0.long;
      };
    }
