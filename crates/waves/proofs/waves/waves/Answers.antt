use mathlib.Core.Path.{refl, sym, ◌∙◌}
use Prim.Native.Nat.{◌+◌}
use Rattle.waves.specs.WaveLaws.{waved_on, waved_same, afloat_old, afloat_same, room_same}
use native.Mathlib.Omega.{arith}
use Rattle.waves.proofs.waves.waves.Goals as goal

pub loop-n-init : goal.loop-n-init
loop-n-init c = (c.requires.steps.0, c.requires.steps.1, c.requires.planes, c.requires.room.0, c.requires.room.1, λ o s W. W)

pub overflow_add-n : goal.overflow_add-n
overflow_add-n c = omega (arith, c.requires.steps.2)

pub wave-a-requires : goal.wave-a-requires
wave-a-requires c = record {
  planes = c.loop-n.invariant.2;
  room = (c.loop-n.invariant.4, c.requires.steps.3);
}

pub shape_of-ring-then-a-eq0 : goal.shape_of-ring-then-a-eq0
shape_of-ring-then-a-eq0 c = c.wave-a.ensures.planes.ring_long ∙ sym c.requires.planes.ring_long

pub shape_of-front-then-a-eq0 : goal.shape_of-front-then-a-eq0
shape_of-front-then-a-eq0 c = c.loop-n.invariant.3.ready.long ∙ sym c.requires.room.0.ready.long

pub shape_of-next-then-a-eq0 : goal.shape_of-next-then-a-eq0
shape_of-next-then-a-eq0 c = c.wave-a.ensures.room.ready.long ∙ sym c.requires.room.1.ready.long

pub shape_of-left-then-a-eq0 : goal.shape_of-left-then-a-eq0
shape_of-left-then-a-eq0 c = c.wave-a.ensures.planes.left_room.ready.long ∙ sym c.requires.planes.left_room.ready.long

pub shape_of-got-then-a-eq0 : goal.shape_of-got-then-a-eq0
shape_of-got-then-a-eq0 c = c.wave-a.ensures.planes.got_room.ready.long ∙ sym c.requires.planes.got_room.ready.long

pub returns-then-a-eq0 : goal.returns-then-a-eq0
returns-then-a-eq0 c = let A = c.loop-n.invariant.2 in
    let B = c.wave-a.ensures.planes in
    let S = c.wave-a.ensures.waving in record {
      planes = afloat_old _ _ _ _ _ _ _ _ _ _ _ _ A S c.wave-a.auto.left c.wave-a.auto.got c.wave-a.auto.ring B.front_ready.long;
      room = (c.loop-n.invariant.3, c.wave-a.ensures.room);
      made = λ o s W. (
        λ p. absurd (omega arith),
        λ e. record {
          number = c.loop-n.n + 1;
          front = _;
          some_wave = omega arith;
          most = omega (arith, c.loop-n-test.true);
          waved = waved_on _ _ c.loop-n.n _ _ _ _ _ _ _ _ _ _ _ refl refl A S B o s (c.loop-n.invariant.5 o s W);
          still = c.wave-a.ensures.still c.if-a-eq0.true;
        },
      );
      most = omega arith;
    }

pub copy-requires : goal.copy-requires
copy-requires c = (c.loop-n.invariant.2.sizes, c.loop-n.invariant.2.aheads, c.wave-a.ensures.room, c.loop-n.invariant.3)

pub overflow_add-result : goal.overflow_add-result
overflow_add-result c = omega (arith, c.requires.steps.2, c.loop-n-test.true)

pub shape_of-ring-then-a-least : goal.shape_of-ring-then-a-least
shape_of-ring-then-a-least c = c.wave-a.ensures.planes.ring_long ∙ sym c.requires.planes.ring_long

pub shape_of-front-then-a-least : goal.shape_of-front-then-a-least
shape_of-front-then-a-least c = c.copy.auto.to ∙ c.loop-n.invariant.3.ready.long ∙ sym c.requires.room.0.ready.long

pub shape_of-next-then-a-least : goal.shape_of-next-then-a-least
shape_of-next-then-a-least c = c.wave-a.ensures.room.ready.long ∙ sym c.requires.room.1.ready.long

pub shape_of-left-then-a-least : goal.shape_of-left-then-a-least
shape_of-left-then-a-least c = c.wave-a.ensures.planes.left_room.ready.long ∙ sym c.requires.planes.left_room.ready.long

pub shape_of-got-then-a-least : goal.shape_of-got-then-a-least
shape_of-got-then-a-least c = c.wave-a.ensures.planes.got_room.ready.long ∙ sym c.requires.planes.got_room.ready.long

pub returns-then-a-least : goal.returns-then-a-least
returns-then-a-least c = let A = c.loop-n.invariant.2 in
    let B = c.wave-a.ensures.planes in
    let S = c.wave-a.ensures.waving in
    let q = c.copy.ensures in record {
      planes = afloat_same _ _ _ _ _ _ _ _ (c.copy.auto.to ∙ A.front_ready.long) q B;
      room = (room_same _ _ _ _ _ (c.copy.auto.to ∙ A.front_ready.long) c.wave-a.ensures.room q, c.wave-a.ensures.room);
      made = λ o s W. (λ p. waved_same _ _ _ A.sizes o s _ _ _ _ _ q (waved_on _ _ c.loop-n.n _ _ _ _ _ _ _ _ _ _ _ refl refl A S B o s (c.loop-n.invariant.5 o s W)), λ e. absurd (omega arith));
      most = omega (arith, c.loop-n-test.true);
    }

pub overflow_add-n-in-loop-n-2 : goal.overflow_add-n-in-loop-n-2
overflow_add-n-in-loop-n-2 c = omega (arith, c.requires.steps.2, c.loop-n-test.true)

pub overflow_cast-n-in-loop-n : goal.overflow_cast-n-in-loop-n
overflow_cast-n-in-loop-n c = omega (arith, c.requires.steps.2, c.loop-n-test.true)

pub wave-b-requires : goal.wave-b-requires
wave-b-requires c = record {
  planes = c.wave-a.ensures.planes;
  room = (c.loop-n.invariant.3, c.requires.steps.3);
}

pub shape_of-ring-then-b-eq0 : goal.shape_of-ring-then-b-eq0
shape_of-ring-then-b-eq0 c = c.wave-b.ensures.planes.ring_long ∙ sym c.requires.planes.ring_long

pub shape_of-front-then-b-eq0 : goal.shape_of-front-then-b-eq0
shape_of-front-then-b-eq0 c = c.wave-b.ensures.planes.front_ready.long ∙ sym c.requires.room.0.ready.long

pub shape_of-next-then-b-eq0 : goal.shape_of-next-then-b-eq0
shape_of-next-then-b-eq0 c = c.wave-a.ensures.room.ready.long ∙ sym c.requires.room.1.ready.long

pub shape_of-left-then-b-eq0 : goal.shape_of-left-then-b-eq0
shape_of-left-then-b-eq0 c = c.wave-b.ensures.planes.left_room.ready.long ∙ sym c.requires.planes.left_room.ready.long

pub shape_of-got-then-b-eq0 : goal.shape_of-got-then-b-eq0
shape_of-got-then-b-eq0 c = c.wave-b.ensures.planes.got_room.ready.long ∙ sym c.requires.planes.got_room.ready.long

pub returns-then-b-eq0 : goal.returns-then-b-eq0
returns-then-b-eq0 c = let A = c.loop-n.invariant.2 in
    let B = c.wave-a.ensures.planes in
    let S = c.wave-a.ensures.waving in
    let D = c.wave-b.ensures.planes in
    let T = c.wave-b.ensures.waving in record {
      planes = D;
      room = (c.wave-b.ensures.room, c.wave-a.ensures.room);
      made = λ o s W. (
        λ p. absurd (omega arith),
        λ e. record {
          number = c.loop-n.n + 2;
          front = _;
          some_wave = omega arith;
          most = omega (arith, c.loop-n-test.true);
          waved = waved_on _ _ (c.loop-n.n + 1) _ _ _ _ _ _ _ _ _ _ _ (omega arith) (omega arith) B T D o s
              (waved_on _ _ c.loop-n.n _ _ _ _ _ _ _ _ _ _ _ refl refl A S B o s (c.loop-n.invariant.5 o s W));
          still = c.wave-b.ensures.still c.if-b-eq0.true;
        },
      );
      most = omega arith;
    }

pub overflow_add-n-in-loop-n-3 : goal.overflow_add-n-in-loop-n-3
overflow_add-n-in-loop-n-3 c = omega (arith, c.requires.steps.2, c.loop-n-test.true)

pub shape_of-ring-then-b-least : goal.shape_of-ring-then-b-least
shape_of-ring-then-b-least c = c.wave-b.ensures.planes.ring_long ∙ sym c.requires.planes.ring_long

pub shape_of-front-then-b-least : goal.shape_of-front-then-b-least
shape_of-front-then-b-least c = c.wave-b.ensures.planes.front_ready.long ∙ sym c.requires.room.0.ready.long

pub shape_of-next-then-b-least : goal.shape_of-next-then-b-least
shape_of-next-then-b-least c = c.wave-a.ensures.room.ready.long ∙ sym c.requires.room.1.ready.long

pub shape_of-left-then-b-least : goal.shape_of-left-then-b-least
shape_of-left-then-b-least c = c.wave-b.ensures.planes.left_room.ready.long ∙ sym c.requires.planes.left_room.ready.long

pub shape_of-got-then-b-least : goal.shape_of-got-then-b-least
shape_of-got-then-b-least c = c.wave-b.ensures.planes.got_room.ready.long ∙ sym c.requires.planes.got_room.ready.long

pub returns-then-b-least : goal.returns-then-b-least
returns-then-b-least c = let A = c.loop-n.invariant.2 in
    let B = c.wave-a.ensures.planes in
    let D = c.wave-b.ensures.planes in record {
      planes = D;
      room = (c.wave-b.ensures.room, c.wave-a.ensures.room);
      made = λ o s W. (
        λ p. waved_on _ _ (c.loop-n.n + 1) _ _ _ _ _ _ _ _ _ _ _ (omega arith) (omega arith) B c.wave-b.ensures.waving D o s
            (waved_on _ _ c.loop-n.n _ _ _ _ _ _ _ _ _ _ _ refl refl A c.wave-a.ensures.waving B o s (c.loop-n.invariant.5 o s W)),
        λ e. absurd (omega arith),
      );
      most = omega
          (arith, c.loop-n-test.true);
    }

pub loop-n-smaller : goal.loop-n-smaller
loop-n-smaller c = omega (arith, c.loop-n-test.true)

pub loop-n-preserved : goal.loop-n-preserved
loop-n-preserved c = let A = c.loop-n.invariant.2 in
    let B = c.wave-a.ensures.planes in
    let D = c.wave-b.ensures.planes in (
      omega arith,
      omega (arith, c.loop-n-test.true),
      D,
      c.wave-b.ensures.room,
      c.wave-a.ensures.room,
      λ o s W. waved_on _ _ (c.loop-n.n + 1) _ _ _ _ _ _ _ _ _ _ _ (omega arith)
          (omega arith) B c.wave-b.ensures.waving D o s (waved_on _ _ c.loop-n.n _ _ _ _ _ _ _ _ _ _ _ refl refl A c.wave-a.ensures.waving B o s (c.loop-n.invariant.5 o s W)),
    )

pub shape_of-ring : goal.shape_of-ring
shape_of-ring c = c.loop-n.invariant.2.ring_long ∙ sym c.requires.planes.ring_long

pub shape_of-front : goal.shape_of-front
shape_of-front c = c.loop-n.invariant.3.ready.long ∙ sym c.requires.room.0.ready.long

pub shape_of-next : goal.shape_of-next
shape_of-next c = c.loop-n.invariant.4.ready.long ∙ sym c.requires.room.1.ready.long

pub shape_of-left : goal.shape_of-left
shape_of-left c = c.loop-n.invariant.2.left_room.ready.long ∙ sym c.requires.planes.left_room.ready.long

pub shape_of-got : goal.shape_of-got
shape_of-got c = c.loop-n.invariant.2.got_room.ready.long ∙ sym c.requires.planes.got_room.ready.long

pub returns : goal.returns
returns c = record {
  planes = c.loop-n.invariant.2;
  room = (c.loop-n.invariant.3, c.loop-n.invariant.4);
  made = λ o s W. (λ p. c.loop-n.invariant.5 o s W, λ e. absurd (omega (arith, c.loop-n.invariant.0)));
  most = c.loop-n.invariant.1;
}
