use Rattle.std.proofs.Common.{sym}
use Rattle.chains.specs.NeighbourLaws.{byte_in_plane, pixel_is}
use Rattle.chains.proofs.leaning.pixel.Goals as goal

pub pixel_at-requires : goal.pixel_at-requires
pixel_at-requires c = let args = c.args in
    byte_in_plane args.w args.h args.r args.c c.row_bytes.result _ c.requires.fits.1.0 c.requires.fits.1.1 c.row_bytes.ensures.0 c.requires.plane

pub returns : goal.returns
returns c = let args = c.args in
    sym (pixel_is args.w args.plane.now args.r args.c c.row_bytes.result _ c.requires.fits.1.1 c.row_bytes.ensures.0 c.pixel_at.ensures)
