use Rattle.answers.specs.Filled.{told_with, told_short, told_all}
use Prim.Native.Nat.{ℕ}
use mathlib.Core.Path.{◌≡◌, refl, ap, ◌∙◌}
use mathlib.Core.List.{List}
use lib.ListN.{length, get_or, set}
use Rattle.answers.specs.Filled.{filled_more, filled_length}
use native.Mathlib.Omega.{arith}
use Rattle.answers.proofs.write_layout.Goals as goal

pub loop-i-init : goal.loop-i-init
loop-i-init c = (omega arith, omega arith, refl)

pub shape_of-room-then-room-i : goal.shape_of-room-then-room-i
shape_of-room-then-room-i c = ap length c.loop-i.invariant.2 ∙ filled_length c.args.room.now (told_with c.args.l c.flag-stored.result) c.loop-i.i c.loop-i.invariant.0 c.loop-i.invariant.1

pub returns-then-room-i : goal.returns-then-room-i
returns-then-room-i c = told_short c.args.l c.flag-stored.result c.args.room.now c.loop-i.room c.loop-i.i c.flag-stored.ensures c.loop-i.invariant.0 c.loop-i.invariant.1 c.if-room-i.true c.loop-i.invariant.2

pub bounds-all-i : goal.bounds-all-i
bounds-all-i c = omega (arith, c.loop-i-test.true)

pub offset_bounds-room-i : goal.offset_bounds-room-i
offset_bounds-room-i c = omega (arith, c.loop-i.invariant.0)

pub bounds-room-i : goal.bounds-room-i
bounds-room-i c = c.if-room-i.false

pub loop-i-preserved : goal.loop-i-preserved
loop-i-preserved c = let args = c.args in
    let n : length c.loop-i.room ≡ length args.room.now = ap length c.loop-i.invariant.2
    ∙ filled_length args.room.now (told_with args.l c.flag-stored.result) c.loop-i.i c.loop-i.invariant.0 c.loop-i.invariant.1 in (
      omega arith,
      omega (arith, c.if-room-i.false),
      ap (λ (r : List ℕ). set r c.loop-i.i (get_or (told_with args.l c.flag-stored.result) c.loop-i.i 0)) c.loop-i.invariant.2
          ∙ filled_more args.room.now (told_with args.l c.flag-stored.result) c.loop-i.i (omega (arith, c.loop-i-test.true)) (omega (arith, c.if-room-i.false)),
    )

pub shape_of-room : goal.shape_of-room
shape_of-room c = ap length c.loop-i.invariant.2 ∙ filled_length c.args.room.now (told_with c.args.l c.flag-stored.result) c.loop-i.i c.loop-i.invariant.0 c.loop-i.invariant.1

pub returns : goal.returns
returns c = told_all c.args.l c.flag-stored.result c.args.room.now c.loop-i.room c.loop-i.i c.flag-stored.ensures c.loop-i-test.false c.loop-i.invariant.0
    c.loop-i.invariant.1 c.loop-i.invariant.2
