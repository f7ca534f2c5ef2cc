use mathlib.Core.Path.{sym, ◌∙◌}
use Rattle.clean.specs.PackLaws.{packs_far}
use Rattle.clean.proofs.closing.close.Goals as goal

pub read_plane-requires : goal.read_plane-requires
read_plane-requires c = (c.requires.sizes.0, c.requires.sizes.1, c.requires.sizes.2, c.requires.sizes.4)

pub far-requires : goal.far-requires
far-requires c = record {
  sizes = (c.requires.sizes.0, c.read_plane.ensures.ready, c.requires.sizes.5, c.requires.disc.0, c.requires.disc.1);
  row_whole = c.requires.disc.2;
}

pub far-requires-2 : goal.far-requires-2
far-requires-2 c = record {
  sizes = (c.requires.sizes.0, c.far.ensures.ready, c.read_plane.ensures.ready, c.requires.disc.0, c.requires.disc.1);
  row_whole = c.requires.disc.2;
}

pub pack-requires : goal.pack-requires
pack-requires c = (c.requires.sizes.0, c.requires.sizes.1, c.far-2.ensures.ready, c.requires.sizes.3)

pub shape_of-out : goal.shape_of-out
shape_of-out c = c.pack.auto.out

pub shape_of-a : goal.shape_of-a
shape_of-a c = c.far-2.ensures.ready.long ∙ sym c.requires.sizes.4.long

pub shape_of-b : goal.shape_of-b
shape_of-b c = c.far.ensures.ready.long ∙ sym c.requires.sizes.5.long

pub returns : goal.returns
returns c = (
  packs_far _ _ _ _ _ _ _ _ c.requires.sizes.0 c.read_plane.ensures c.far.ensures c.far-2.ensures c.pack.ensures,
  c.far-2.ensures.ready,
  c.far.ensures.ready,
)
