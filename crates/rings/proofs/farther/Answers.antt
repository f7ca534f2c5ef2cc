use Prim.Native.Nat.{◌<◌}
use Rattle.rings.specs.NearRings.{near_in}
use Rattle.rings.specs.FarLaws.{near_sub}
use Rattle.rings.specs.EndLaws.{dropped_afloat, near_dropped, near_waved, near_apart, whole_still}
use native.Mathlib.Omega.{arith}
use Rattle.rings.proofs.farther.Goals as goal

pub waves-r-requires : goal.waves-r-requires
waves-r-requires c = record {
  planes = dropped_afloat _ _ _ _ _ _ _ _ c.drop_far.auto.left (near_sub _ _ _ _ _ _ c.drop_far.ensures) c.requires.planes;
  room = (c.requires.rooms.front_room, c.requires.rooms.next_room);
  steps = (c.requires.sizes.3, omega (arith, c.requires.sizes.4), omega arith, c.requires.sizes.6);
}

pub returns-then-r-eq0 : goal.returns-then-r-eq0
returns-then-r-eq0 c = let A = c.requires.planes in record {
  rooms = record { left_room = c.waves-r.ensures.planes.left_room; got_room = c.waves-r.ensures.planes.got_room; front_room = c.waves-r.ensures.room.0; next_room = c.waves-r.ensures.room.1; lower_ready = c.read_plane.ensures.ready };
  whole = λ o s D.
      let E = (c.waves-r.ensures.made (near_in c.args.w c.args.h c.args.q.0 _ o) s
      (near_waved _ _ _ _ _ o s _ _ _ _ _ D (near_dropped _ _ _ A.sizes _ _ _ _ c.read_plane.ensures c.drop_far.ensures))).1 c.if-r-eq0.true in
      whole_still _ _ _ _ s _ _ _ _ A.sizes E.some_wave (near_apart _ _ _ _ o s D.apart) E.waved E.still;
}

pub finish-requires : goal.finish-requires
finish-requires c = record {
  planes = c.waves-r.ensures.planes;
  room = c.waves-r.ensures.room.1;
}

pub shape_of-lower : goal.shape_of-lower
shape_of-lower c = c.read_plane.auto.out

pub returns : goal.returns
returns c = let A = c.requires.planes in
    let pos : 0 < c.waves-r.result = omega (arith, c.if-r-eq0.false) in record {
      rooms = record { left_room = c.waves-r.ensures.planes.left_room; got_room = c.finish.ensures.room.1; front_room = c.waves-r.ensures.room.0; next_room = c.finish.ensures.room.0; lower_ready = c.read_plane.ensures.ready };
      whole = λ o s D.
          let E = (c.waves-r.ensures.made (near_in c.args.w c.args.h c.args.q.0 _ o) s
          (near_waved _ _ _ _ _ o s _ _ _ _ _ D (near_dropped _ _ _ A.sizes _ _ _ _ c.read_plane.ensures c.drop_far.ensures))).0 pos in
          c.finish.ensures.whole _ _ s pos (near_apart _ _ _ _ o s D.apart) E;
    }
