use Rattle.std.proofs.Common.{◌≡◌, true, false, List, ℕ, ◌+◌, ◌*◌, ◌<◌, ◌≤◌, ap, arith, eqb-true, get_or}
use Rattle.laws.specs.Tests.{clash}
use Rattle.rules.specs.Images.{row_bytes}
use Rattle.rules.specs.Planning.{shadow, near}
use Rattle.image.specs.Rows.{packed}
use Rattle.places.specs.Search.{bad_here}
use Rattle.quick.specs.Sureness.{SoundRing, RowGood}
use Rattle.quick.specs.RowsOfPair.{all_rows}
use Rattle.quick.specs.Hanging.{no_shadow, all_held}
use Rattle.quick.specs.NearByThemselves.{no_rings, sound_good}
use Rattle.quick.proofs.pair.pair.Goals as goal

-- rows that are good have no bad ring
good_rows : (w h q t : ℕ) (low up rings : List ℕ) → 2 * (t * t) ≤ q → ((r : ℕ) → r < h → RowGood w h q t low up rings r) →
    (p : ℕ) → p < h * w → bad_here w h q (packed w low) (packed w up) (λ o. get_or rings o 0) p ≡ false
good_rows w h q t low up rings e good =
    let ring : ℕ → ℕ = λ o. get_or rings o 0 in
    let all = all_rows w h (λ p. SoundRing w h (packed w low) (packed w up) ring p × (t < ring p → near w h q (packed w low) p ≡ true)) good in
    sound_good w h q t (packed w low) (packed w up) ring (λ p l. (all p l).0) e (λ p l. (all p l).1)

pub returns-then-seen-eq0-clause-good : goal.returns-then-seen-eq0-clause-good
returns-then-seen-eq0-clause-good c = let a = c.args in
    λ e p l. no_rings a.w a.h a.q.0 (packed a.w a.low.now) (packed a.w a.up.now) (λ o. get_or a.rings.now o 0) p
    (let z : 0 + p ≡ p = omega arith in omega (arith, rw z at (c.quiet.ensures e p l)))

pub returns-then-seen-eq0-clause-held : goal.returns-then-seen-eq0-clause-held
returns-then-seen-eq0-clause-held c = let a = c.args in
    let n : a.h * c.row_bytes.result ≡ a.h * row_bytes a.w = ap (λ (b : ℕ). a.h * b) c.row_bytes.ensures.0 in
    λ e. all_held a.w a.h (a.h * c.row_bytes.result) n a.low.now a.up.now a.below.now a.above.now (λ o. get_or a.rings.now o 0)
    (c.look-seen.ensures.none_hangs (eqb-true _ 0 e))
    (λ p l s b. clash s (no_shadow a.w a.h (a.h * c.row_bytes.result) n a.low.now a.up.now (c.look-seen.ensures.no_shadow c.if-seen-eq0.true) p l))

pub returns-then-s-clause-good : goal.returns-then-s-clause-good
returns-then-s-clause-good c = let a = c.args in
    λ e. good_rows a.w a.h a.q.0 a.t a.low.now a.up.now a.rings.now c.requires.fits.0.1.0 (c.shaded_pair-s.ensures.row_good e)

pub returns-then-s-clause-held : goal.returns-then-s-clause-held
returns-then-s-clause-held c = let a = c.args in
    let n : a.h * c.row_bytes.result ≡ a.h * row_bytes a.w = ap (λ (b : ℕ). a.h * b) c.row_bytes.ensures.0 in
    let ring : ℕ → ℕ = λ o. get_or a.rings.now o 0 in
    λ e. all_held a.w a.h (a.h * c.row_bytes.result) n a.low.now a.up.now a.below.now a.above.now ring (c.look-seen.ensures.none_hangs (eqb-true _ 0 e))
    (all_rows a.w a.h (λ p. shadow (packed a.w a.low.now) (packed a.w a.up.now) p ≡ true → packed a.w a.below.now p ≡ false → 0 < ring p)
    (c.shaded_pair-s.ensures.row_held c.if-s.true))

pub returns-else-s-clause-good : goal.returns-else-s-clause-good
returns-else-s-clause-good c = let a = c.args in
    λ e. good_rows a.w a.h a.q.0 a.t a.low.now a.up.now a.rings.now c.requires.fits.0.1.0 (c.shaded_pair-s.ensures.row_good e)
