use Prim.Native.Nat.{ℕ, ◌<◌}
use Rattle.quick.specs.RowsOfPair.{good_sound, good_same, put_four, hung_held}
use Rattle.words.specs.Words.{column}
use mathlib.Core.Path.{◌≡◌, refl, ◌∙◌}
use native.Mathlib.Omega.{arith}
use Rattle.quick.proofs.pair.shaded_row.Goals as goal

pub returns-clause-row_sound : goal.returns-clause-row_sound
returns-clause-row_sound c = let a = c.args in let e = c.row_bytes-rb.ensures.0 in let lw = c.requires.fits.0.0.w_high in let s = c.in_ok-s in
    let frees : (k : ℕ) → k < a.w → _ ≡ column c.shadow_row-shadow.result k = λ k l. put_four (column c.shadow_row-shadow.result) _ _ c.put-2.ensures k (omega (arith, l, lw)) in
    let firsts : (k : ℕ) → k < a.w → _ ≡ column c.first_row.result k = λ k l. put_four (column c.first_row.result) _ _ c.put.ensures k (omega (arith, l, lw)) in
    good_sound a.w a.h c.row_bytes-rb.result a.r e a.low.now a.up.now c.requires.fits.1.0 c.saturating_sub-above.result c.min-under.result c.requires.fits.0.1
    c.saturating_sub-above.ensures c.min-under.ensures (column c.seed_rows-seed.result) (column c.shadow_row-shadow.result) (column c.first_row.result)
    c.seed_rows-seed.ensures c.shadow_row-shadow.ensures c.first_row.ensures a.t s.s.most a.rings.now _ (column c.far_of.result)
    (λ k l. good_same a.w a.h _ _ _ _ a.rings.now a.r k (frees k l) (firsts k l) (s.ensures.good k l)) s.ensures.told
    (λ m k l. c.far_of.ensures m k (omega (arith, lw)))

pub returns-clause-row_held : goal.returns-clause-row_held
returns-clause-row_held c = let a = c.args in
    λ y. hung_held a.w a.h c.row_bytes-rb.result a.r c.row_bytes-rb.ensures.0 a.low.now a.up.now a.below.now a.rings.now (column c.shadow_row-shadow.result) _ _
    c.shadow_row-shadow.ensures (λ k. refl) (λ k l. put_four (column c.not_in.result) _ _ c.put-3.ensures k l ∙ c.not_in.ensures k) c.requires.fits.0.0.w_high
    (c.in_ok-s.ensures.held y)
