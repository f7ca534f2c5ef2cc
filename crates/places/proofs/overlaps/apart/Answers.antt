use Rattle.std.proofs.Common.{refl, ◌≡◌, false, ℕ, ◌<◌, ◌&&◌, get_or}
use Rattle.places.specs.Rows.{apart_byte, gather_more}
use Rattle.rules.specs.Images.{bit_at}
use Rattle.places.proofs.overlaps.apart.Goals as goal

pub loop-j-preserved : goal.loop-j-preserved
loop-j-preserved c = let args = c.args in
    gather_more (λ i. (k : ℕ) → k < 8 → (bit_at (get_or args.sup.now i 0) k && bit_at (get_or args.part.now i 0) k) ≡ false) c.loop-j.j c.loop-j.all _ c.loop-j.invariant
    (apart_byte (get_or args.sup.now c.loop-j.j 0) (get_or args.part.now c.loop-j.j 0) _ refl)
