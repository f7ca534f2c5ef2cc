use Rattle.places.specs.Search.{bit_in}
use Rattle.places.proofs.bits.pixel_at.Goals as goal

pub returns : goal.returns
unfolding bit_in
returns c = c.bit.ensures
