use Rattle.posts.specs.ScanLaws.{pixel_set}
use native.Mathlib.Omega.{arith}
use Rattle.posts.proofs.scan.set_pixel.Goals as goal

pub returns : goal.returns
returns c = pixel_set _ _ _ (omega (arith, c.requires))
