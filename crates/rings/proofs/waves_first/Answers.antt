use mathlib.Core.Path.{refl, ◌∙◌}
use Prim.Native.Nat.{◌<◌}
use Rattle.waves.specs.WaveLaws.{waved_on}
use Rattle.rings.specs.EndLaws.{landed_whole}
use native.Mathlib.Omega.{arith}
use Rattle.rings.proofs.waves_first.Goals as goal

pub returns-then-a-eq0 : goal.returns-then-a-eq0
returns-then-a-eq0 c = let A = c.requires.planes in
    let R = c.requires.rooms in
    let B = c.wave-a.ensures.planes in record {
      rooms = record { left_room = B.left_room; got_room = B.got_room; front_room = c.wave-a.ensures.room; next_room = R.next_room; lower_ready = R.lower_ready };
      whole = λ o s W apart by. landed_whole _ _ _ 1 _ o s _ _ _ _ A.sizes (record {
        waved = waved_on _ _ 0 1 1 _ _ _ _ _ _ _ _ _ refl refl A c.wave-a.ensures.waving B o s W;
        some_wave = omega arith;
        apart = apart;
        near_by = λ i p lp li j. by i p lp (omega (arith, c.requires.sizes.3)) j;
      }) (c.wave-a.ensures.still c.if-a-eq0.true);
    }

pub waves-k-requires : goal.waves-k-requires
waves-k-requires c = record {
  planes = c.wave-a.ensures.planes;
  room = (c.wave-a.ensures.room, c.requires.rooms.next_room);
  steps = (omega arith, omega (arith, c.requires.sizes.3), omega (arith, c.requires.sizes.4), c.requires.sizes.6);
}

pub returns-then-k-eq0 : goal.returns-then-k-eq0
returns-then-k-eq0 c = let A = c.requires.planes in
    let R = c.requires.rooms in
    let B = c.wave-a.ensures.planes in record {
      rooms = record { left_room = c.waves-k.ensures.planes.left_room; got_room = c.waves-k.ensures.planes.got_room; front_room = c.waves-k.ensures.room.0; next_room = c.waves-k.ensures.room.1; lower_ready = R.lower_ready };
      whole = λ o s W apart by.
          let E = (c.waves-k.ensures.made o s (waved_on _ _ 0 1 1 _ _ _ _ _ _ _ _ _ refl refl A c.wave-a.ensures.waving B o s W)).1 c.if-k-eq0.true in
          landed_whole _ _ _ E.number _ o s _ _ _ _ A.sizes
          (record { waved = E.waved; some_wave = E.some_wave; apart = apart; near_by = λ i p lp li j. by i p lp (omega (arith, E.most)) j }) E.still;
    }

pub farther-requires : goal.farther-requires
farther-requires c = let R = c.requires.rooms in record {
  planes = c.waves-k.ensures.planes;
  rooms = record { left_room = c.waves-k.ensures.planes.left_room; got_room = c.waves-k.ensures.planes.got_room; front_room = c.waves-k.ensures.room.0; next_room = c.waves-k.ensures.room.1; lower_ready = R.lower_ready };
  sizes = (c.requires.sizes.0, c.requires.sizes.1, c.requires.sizes.2, omega (arith, c.if-k-eq0.false), omega (arith, c.waves-k.ensures.most, c.requires.sizes.4), c.requires.sizes.5, c.requires.sizes.6);
}

pub shape_of-ring : goal.shape_of-ring
shape_of-ring c = c.farther.auto.ring ∙ c.waves-k.auto.ring ∙ c.wave-a.auto.ring

pub shape_of-front : goal.shape_of-front
shape_of-front c = c.farther.auto.front ∙ c.waves-k.auto.front ∙ c.wave-a.auto.to

pub shape_of-left : goal.shape_of-left
shape_of-left c = c.farther.auto.left ∙ c.waves-k.auto.left ∙ c.wave-a.auto.left

pub shape_of-got : goal.shape_of-got
shape_of-got c = c.farther.auto.got ∙ c.waves-k.auto.got ∙ c.wave-a.auto.got

pub returns : goal.returns
returns c = let A = c.requires.planes in
    let B = c.wave-a.ensures.planes in
    let pos : 0 < c.waves-k.result = omega (arith, c.if-k-eq0.false) in record {
      rooms = c.farther.ensures.rooms;
      whole = λ o s W apart by. c.farther.ensures.whole o s (record {
        waved = (c.waves-k.ensures.made o s (waved_on _ _ 0 1 1 _ _ _ _ _ _ _ _ _ refl refl A c.wave-a.ensures.waving B o s W)).0 pos;
        some_wave = pos;
        apart = apart;
        near_by = λ i p lp li j. by i p lp (omega (arith, c.waves-k.ensures.most)) j;
      });
    }
