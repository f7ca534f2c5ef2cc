-- Near by the squares divided (rule 2.3) against near by the reach squared: where they agree, what the first adds, and how far it goes.
use Rattle.std.specs.Prelude.{◌≡◌, refl, ◌↔◌, true, false, List, ℕ, ◌*◌, ◌/◌, ◌≤◌, ◌<◌}
use Rattle.std.proofs.Common.{ap, ◌∙◌, mul-pos, mul-div_cancel, le-div_iff_mul-le, arith}
use Rattle.std.proofs.Math.Nat.{mul-mul-mul_comm, div-eq_of_lt}
use Rattle.rules.specs.Tools.{refusal}
use Rattle.rules.specs.Images.{Plane, within, sized, pixel, ring_at}
use Rattle.rules.specs.Reach.{settable, reach_of, square, bound_by, bound_of, most_bound, root}
use Rattle.rules.specs.Planning.{near, reached, planned_rings, planned_bytes}
use Rattle.rules.specs.Judging.{verdict_of}
use Rattle.rules.specs.Calls.{reach_cases, setting_cases}
use Rattle.rules.specs.declared.Micrometres.{Micrometres}
use Rattle.rules.specs.declared.Settings.{Settings}
use Rattle.rules.specs.declared.Judged.TheVariants.{Accepted}
use Rattle.laws.specs.Limits.{ranged, bound_low, bound_high, bound_most}
use Rattle.laws.specs.Discs.{root_is}
use Rattle.laws.specs.Neighbours.{reach_none}
use Rattle.laws.specs.Soundness.{near_wider, accepted_wider}
use Rattle.laws.specs.PixelBytes.{planned_bytes_accepted, planned_bytes_least}

-- a squared distance d in pixels is within a length, overhang or radius, exactly where d · p² is at most its square
pub bound_by_exactly : (p t : Micrometres) (d : ℕ) → 0 < p.0 → (d ≤ (bound_by p t).0) ↔ (d * square p.0 ≤ square t.0)
unfolding square bound_by
bound_by_exactly p t d h = le-div_iff_mul-le (mul-pos h h)

-- nothing is lost to rounding: in every pair a squared distance d in pixels is within the bound exactly where d · p² is at most t²
pub bound_exactly : (s : Settings) (i d : ℕ) → 0 < s.pitch.0 → (d ≤ bound_of s i) ↔ (d * square s.pitch.0 ≤ square s.overhang.0)
unfolding bound_of
bound_exactly s i d h = bound_by_exactly s.pitch s.overhang d h

-- "the new bound can be 1,088": no settings that are not refused have more, and some have it
pub bound_never_more : (s : Settings) (i : ℕ) → refusal (setting_cases s) ≡ 0 → bound_of s i ≤ most_bound
bound_never_more s i e = bound_most s i (ranged s e)

pub bound_attained : (s : Settings) × ((refusal (setting_cases s) ≡ 0) × (bound_of s 0 ≡ most_bound))
unfolding within sized settable reach_of square bound_by bound_of reach_cases setting_cases
bound_attained = (record { w = 1; h = 1; n = 2; pitch = record { 0 = 66 }; overhang = record { 0 = 2177 } }, (refl, refl))

-- the reach is the root of the bound: along a row or a column the disc runs as far as the reach
pub reach_is_root : (p t : Micrometres) → 0 < p.0 → (reach_of p t).0 ≡ root (bound_by p t).0
reach_is_root p t h = root_is (bound_by p t).0 (reach_of p t).0 (bound_low p t h) (bound_high p t h)

-- where the overhang is a multiple of the pitch, the bound is the reach squared
pub bound_at_multiples : (p t : Micrometres) (k : ℕ) → 0 < p.0 → t.0 ≡ k * p.0 → (bound_by p t).0 ≡ square (reach_of p t).0
unfolding square reach_of bound_by
bound_at_multiples p t k h e =
    let r : t.0 / p.0 ≡ k = ap (λ (x : ℕ). x / p.0) e ∙ mul-div_cancel k h in
    rw (r, e, mul-mul-mul_comm k p.0 k p.0) (mul-div_cancel (k * k) (mul-pos h h))

-- a length below the pitch reaches no other pixel
pub bound_none : (p t : Micrometres) → 0 < p.0 → t.0 < p.0 → (bound_by p t).0 ≡ 0
unfolding reach_of square
bound_none p t h l =
    let r : t.0 / p.0 ≡ 0 = div-eq_of_lt l in
    let b : (bound_by p t).0 < 1 = rw r at (bound_high p t h) in
    omega arith

-- "compared with R²": the bound that every pair had before
abbrev pub reach_squared : Settings → ℕ → ℕ
reach_squared s i = square (reach_of s.pitch s.overhang).0

-- so nothing changes there: planning and judging know pitch and overhang by the bound alone
pub same_at_multiples : (s : Settings) (k : ℕ) → 0 < s.pitch.0 → s.overhang.0 ≡ k * s.pitch.0 → bound_of s ≡ reach_squared s
unfolding bound_of
same_at_multiples s k h e = ap (λ (b : ℕ). λ (i : ℕ). b) (bound_at_multiples s.pitch s.overhang k h e)

module _ (s : Settings) (some-pitch : 0 < s.pitch.0) where
  no_less : (i : ℕ) → reach_squared s i ≤ bound_of s i
  unfolding bound_of
  no_less i = bound_low s.pitch s.overhang some-pitch

  -- "R 0, which excuses nothing", still: where the overhang is below the pitch no pixel may carry a ring
  pub below_pitch : (i : ℕ) (low up : Plane) (p : ℕ) → s.overhang.0 < s.pitch.0 → reached s.w s.h (bound_of s i) low up p ≡ false
  unfolding bound_of
  below_pitch i low up p l = rw (bound_none s.pitch s.overhang some-pitch l) (reach_none s.w s.h low up p)

  -- what was near before is near now
  pub near_still : (i : ℕ) (low : Plane) (p : ℕ) → near s.w s.h (reach_squared s i) low p ≡ true → near s.w s.h (bound_of s i) low p ≡ true
  near_still i low p = near_wider s.w s.h (reach_squared s i) (bound_of s i) low (no_less i) p

  -- support that was accepted with its rings still is: what jobs hold stays good
  pub accepted_still : (part sup l : List ℕ) → verdict_of s.w s.h s.n (reach_squared s) part sup l ≡ Accepted → verdict_of s.w s.h s.n (bound_of s) part sup l ≡ Accepted
  unfolding verdict_of
  accepted_still part sup l = accepted_wider s.w s.h s.n (reach_squared s) (bound_of s) (pixel s.w s.h part) (pixel s.w s.h sup) (ring_at s.w s.h l) no_less

  -- and no pixel is supported that was not
  pub support_no_more : (part : List ℕ) (i p : ℕ) → i < s.n → p < s.h * s.w → pixel s.w s.h (planned_bytes s.w s.h s.n (bound_of s) part) i p ≡ true
      → pixel s.w s.h (planned_bytes s.w s.h s.n (reach_squared s) part) i p ≡ true
  support_no_more part =
      let old : List ℕ = planned_bytes s.w s.h s.n (reach_squared s) part in
      let rings : List ℕ = planned_rings s.w s.h s.n (reach_squared s) part in
      planned_bytes_least s.w s.h s.n (bound_of s) part old rings (accepted_still part old rings (planned_bytes_accepted s.w s.h s.n (reach_squared s) part))
