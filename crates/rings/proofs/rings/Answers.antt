use mathlib.Core.Path.{refl}
use Rattle.image.specs.Rows.{packed}
use Rattle.rings.specs.NearRings.{near_in}
use Rattle.rings.specs.FarLaws.{near_sub}
use Rattle.rings.specs.EndLaws.{dropped_afloat, dropped_rooms, dropped_waved, near_dropped, near_apart, near_free, near_twice, whole_same, near_by_root, waves_few}
use native.Mathlib.Omega.{arith}
use Rattle.rings.proofs.rings.Goals as goal

pub waves_first-requires : goal.waves_first-requires
waves_first-requires c = let s = near_sub _ _ _ _ _ _ c.drop_far.ensures in record {
  planes = dropped_afloat _ _ _ _ _ _ _ _ c.drop_far.auto.left s c.requires.planes;
  rooms = dropped_rooms _ _ _ _ _ _ _ _ _ _ c.drop_far.auto.left s c.read_plane.ensures.ready c.requires.rooms;
  sizes = (c.requires.sizes.0, c.requires.sizes.1, c.requires.sizes.2, omega arith, omega arith, c.requires.sizes.3, c.requires.sizes.4);
}

pub returns-then-q-lt2 : goal.returns-then-q-lt2
returns-then-q-lt2 c = let args = c.args in
    let z = c.requires.planes.sizes in record {
      rooms = c.waves_first.ensures.rooms;
      whole = λ o s W apart below. whole_same _ _ _ _ s s _ _ (λ p lp. near_twice _ _ _ _ o p) (λ p lp. refl)
          (c.waves_first.ensures.whole (near_in args.w args.h args.q.0 (packed args.w args.low.now) o) s
          (dropped_waved _ _ _ _ o s _ _ _ _ _ W (near_dropped _ _ _ z _ _ _ _ c.read_plane.ensures c.drop_far.ensures)) (near_apart _ _ _ _ o s apart) (near_free _ _ _ _ _ o s));
    }

pub waves_first-requires-2 : goal.waves_first-requires-2
waves_first-requires-2 c = let f = waves_few c.args.q.0 c.if-q-lt2.false c.requires.sizes.2 in record {
  planes = c.requires.planes;
  rooms = c.requires.rooms;
  sizes = (c.requires.sizes.0, c.requires.sizes.1, c.requires.sizes.2, omega (arith, f.0, c.root-t.ensures), omega (arith, f.1, c.root-t.ensures), c.requires.sizes.3, c.requires.sizes.4);
}

pub returns : goal.returns
returns c = record {
  rooms = c.waves_first-2.ensures.rooms;
  whole = λ o s W apart below. c.waves_first-2.ensures.whole o s W apart (near_by_root _ _ _ _ _ o s c.root-t.ensures below);
}
