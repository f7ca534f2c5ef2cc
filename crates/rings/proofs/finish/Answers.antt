use mathlib.Core.Path.{◌∙◌}
use lib.Dec.{ltb}
use lib.ListN.{get_or}
use Rattle.rings.specs.EndLaws.{sweeps_on, kit_of, room_joined, room_none}
use Rattle.rings.proofs.finish.Goals as goal

pub settle-requires : goal.settle-requires
settle-requires c = (kit_of _ _ _ _ _ _ _ c.requires.planes, c.requires.room.ready.long)

pub returns : goal.returns
returns c = let args = c.args in
    let A = c.requires.planes in record {
      room = (
        room_none _ _ _ _ (c.settle.auto.marks ∙ c.requires.room.ready.long) c.settle.ensures.unmarked,
        room_joined _ _ _ args.got.now args.left.now _ (c.settle.auto.got ∙ A.got_room.ready.long) A.got_room A.left_room c.settle.ensures.got_from,
      );
      whole = λ k o s pos a W.
          let E = c.settle.ensures.grown o s (λ p. ltb 0 (get_or args.ring.now p 0)) (sweeps_on _ _ k o s _ _ _ _ _ A pos a W) in
          record { rings = E.0; gots = E.1 };
    }
