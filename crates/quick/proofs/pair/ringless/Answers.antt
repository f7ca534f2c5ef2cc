use Rattle.std.proofs.Common.{◌≡◌, ℕ, ◌+◌, ◌*◌, ap, eqb-true}
use Rattle.rules.specs.Images.{row_bytes}
use Rattle.places.specs.Planes.{in_plane}
use Rattle.quick.specs.Hanging.{none_lacks}
use Rattle.quick.proofs.pair.ringless.Goals as goal

pub returns-clause-row_held : goal.returns-clause-row_held
returns-clause-row_held c = let a = c.args in
    let n : a.h * c.row_bytes.result ≡ a.h * row_bytes a.w = ap (λ (b : ℕ). a.h * b) c.row_bytes.ensures.0 in
    λ e r l x d s b. absurd (none_lacks a.w a.h (a.h * c.row_bytes.result) n a.low.now a.up.now a.below.now (c.look-seen.ensures.none_hangs (eqb-true _ 0 e))
    (r * a.w + x) (in_plane a.w a.h r x l d) s b)
