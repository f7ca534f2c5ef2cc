use mathlib.Core.Path.{refl, sym, ap, ◌∙◌}
use mathlib.Core.Bool.{Bool, not, ◌&&◌}
use Prim.Native.Nat.{◌+◌}
use Rattle.laws.specs.Tests.{none_of}
use Rattle.planes.specs.Scratch.{fresh}
use Rattle.planes.specs.PlaneLaws.{fresh_none}
use Rattle.waves.specs.RowLaws.{none_before, row_room, wave_start, wave_more, wave_all}
use Rattle.waves.specs.WaveLaws.{to_room, afloat_next, none_so_far, done_so_far, still_new, still_left}
use native.Mathlib.Omega.{arith}
use Rattle.waves.proofs.waves.wave.Goals as goal

pub bounds-ahead-0 : goal.bounds-ahead-0
bounds-ahead-0 c = omega (arith, c.requires.planes.aheads.long)

pub loop-y-init : goal.loop-y-init
loop-y-init c = let A = c.requires.planes in (
  (A.aheads.on 0 (omega arith)).1,
  omega arith,
  refl,
  refl,
  refl,
  refl,
  wave_start _ _ _ _ _ _ _ _ _ A.sizes c.requires.room.0 A.left_room A.got_room _ refl,
  λ e j l. fresh_none _ _ j (none_before _ _ j _ _ A.sizes A.left_room l),
  λ e j l. ap (λ (s : Bool). s && not (fresh c.args.from.now c.args.left.now j)) (none_before _ _ j _ _ A.sizes A.left_room l),
)

pub wave_row-gone-requires : goal.wave_row-gone-requires
wave_row-gone-requires c = let A = c.requires.planes in
    let I = c.loop-y.invariant in record {
      sizes = (
        A.front_ready.long,
        I.3 ∙ c.requires.room.0.ready.long,
        I.4 ∙ A.left_room.ready.long,
        I.5
            ∙ A.got_room.ready.long,
        omega (arith, A.sizes.h_max),
        A.sizes.w_max,
        c.requires.room.1,
      );
      inside = λ x l e. omega (
        arith,
        I.2,
        A.ring_long,
        row_room c.args.w c.args.h c.loop-y.y x c.args.left.now A.sizes A.left_room.ready.framed (omega arith) l
            (sym (I.6.left_done.outer _ (omega arith)) ∙ e),
      );
    }

pub overflow_add-rows : goal.overflow_add-rows
overflow_add-rows c = omega (arith, c.one-rows.ensures.0, c.loop-y.invariant.1, c.loop-y.invariant.0, c.requires.planes.sizes.h_max)

pub overflow_add-y : goal.overflow_add-y
overflow_add-y c = omega (
  arith,
  c.requires.planes.sizes.h_max,
)

pub offset_bounds-ahead-y : goal.offset_bounds-ahead-y
offset_bounds-ahead-y c = omega (
  arith,
  c.requires.planes.sizes.h_max,
)

pub bounds-ahead-y : goal.bounds-ahead-y
bounds-ahead-y c = omega (
  arith,
  c.requires.planes.aheads.long,
  c.requires.planes.sizes.h_max,
)

pub loop-y-smaller : goal.loop-y-smaller
loop-y-smaller c = omega (
  arith,
  c.requires.planes.aheads.on
      (c.loop-y.y + 1) (omega arith),
)

pub loop-y-preserved : goal.loop-y-preserved
loop-y-preserved c = let A = c.requires.planes in
    let I = c.loop-y.invariant in
    let S = c.wave_row-gone.ensures in
    let n = A.aheads.on (c.loop-y.y + 1) (omega arith) in (
      n.1,
      omega (arith, c.one-rows.ensures.0),
      c.wave_row-gone.auto.ring ∙ I.2,
      c.wave_row-gone.auto.to ∙ I.3,
      c.wave_row-gone.auto.left ∙ I.4,
      c.wave_row-gone.auto.got ∙ I.5,
      wave_more _ _ _ _ _ _ _ _ _ A.sizes c.requires.room.0 A.left_room A.got_room _ _ _ _ _ _ _ _ _ _ _ _ (omega arith) (omega arith) n.1 refl S I.6,
      λ e. none_so_far _ _ _ _ _ _ _ _ _ _ _ _ _ _ _ _ _ _ A.sizes A.left_room (omega arith) refl I.6.left_done S (c.one-rows.ensures.1 (omega arith)) (I.7 (omega arith)),
      λ e.
          let E = none_of c.loop-y.more
          c.wave_row-gone.result.more (sym c.either-more.ensures ∙ e) in
          done_so_far _ _ _ _ _ _ _ _ _ _ _ _ _ _ _ _ _ _ A.sizes A.left_room (omega arith) refl I.6.left_done S E.1 (I.8 E.0),
    )

pub shape_of-ring-then-more : goal.shape_of-ring-then-more
shape_of-ring-then-more c = c.loop-y.invariant.2

pub shape_of-to-then-more : goal.shape_of-to-then-more
shape_of-to-then-more c = c.loop-y.invariant.3

pub shape_of-left-then-more : goal.shape_of-left-then-more
shape_of-left-then-more c = c.loop-y.invariant.4

pub shape_of-got-then-more : goal.shape_of-got-then-more
shape_of-got-then-more c = c.loop-y.invariant.5

pub returns-then-more : goal.returns-then-more
returns-then-more c = let A = c.requires.planes in
    let I = c.loop-y.invariant in
    let S = wave_all _ _ _ _ _ _ _ _ _ A.sizes c.requires.room.0 A.left_room A.got_room _ _ _ _ _ (omega arith) I.0 I.6 in record {
      planes = afloat_next _ _ _ _ _ _ _ _ _ _ _ _ A S (I.3 ∙ c.requires.room.0.ready.long) I.4 I.5 I.2;
      room = to_room _ _ _ _ _ _ _ _ _ _ _ _ A S (I.3 ∙ c.requires.room.0.ready.long);
      waving = S;
      still = λ e. still_new _ _ _ _ _ _ _ _ _ _ _ _ _ A S (omega arith) (I.7 e);
    }

pub shape_of-ring : goal.shape_of-ring
shape_of-ring c = c.loop-y.invariant.2

pub shape_of-to : goal.shape_of-to
shape_of-to c = c.loop-y.invariant.3

pub shape_of-left : goal.shape_of-left
shape_of-left c = c.loop-y.invariant.4

pub shape_of-got : goal.shape_of-got
shape_of-got c = c.loop-y.invariant.5

pub returns : goal.returns
returns c = let A = c.requires.planes in
    let I = c.loop-y.invariant in
    let S = wave_all _ _ _ _ _ _ _ _ _ A.sizes c.requires.room.0 A.left_room A.got_room _ _ _ _ _ (omega arith) I.0 I.6 in record {
      planes = afloat_next _ _ _ _ _ _ _ _ _ _ _ _ A S (I.3 ∙ c.requires.room.0.ready.long) I.4 I.5 I.2;
      room = to_room _ _ _ _ _ _ _ _ _ _ _ _ A S (I.3 ∙ c.requires.room.0.ready.long);
      waving = S;
      still = λ e. still_left _ _ _ _ _ _ _ _ _ _ _ _ _ A S (omega arith) (I.8 c.if-more.false);
    }
