-- Demand 2 of the planning call: what it leaves in the lent memory, that its support is the chapter's region subtraction, and that
-- its ring numbers are the fewest steps from a seed. Its other half, on job files, is in RoundTrips.
use Rattle.std.specs.Prelude.{◌≡◌, ◌↔◌, true, false, length}
use Rattle.std.proofs.Math.Path.{refl}
use Rattle.std.proofs.Common.{sym, ap, ◌∙◌, arith}
use mathlib.Core.List.{List, [], ◌∷◌}
use Prim.Native.Nat.{ℕ, zero, suc, ◌-◌, ◌*◌, ◌≤◌, ◌<◌}
use Rattle.std.proofs.Math.ListN.{get_or}
use Rattle.rules.specs.Images.{Plane, pixel, ring_at}
use Rattle.rules.specs.Reach.{bound_of}
use Rattle.rules.specs.Planning.{shadow, near, seeds, reached, touch, planned, empty, planned_rings, planned_bytes, swallowed, growing_swallow, region_subtraction}
use Rattle.rules.specs.Calls.{refused, says_planned, plan_refusal, plan_answer, plan_support, plan_rings}
use Rattle.rules.specs.Demands.{JoinedBy, Excused}
use Rattle.rules.specs.declared.Settings.{Settings}
use Rattle.rules.specs.declared.Planned.{Planned}
use Rattle.rules.specs.declared.Planned.TheVariants.{Done, Refused}
use Rattle.laws.specs.Padding.{refused_number}
use Rattle.laws.specs.Refusals.{answer_fine, answer_refused}
use Rattle.laws.specs.Soundness.{rings_of, rings_of_is, seed_barred, ring_iff, rings_of_excused, rings_of_fewest}
use Rattle.laws.specs.PixelBytes.{pixel_bytes}
use Rattle.laws.specs.Chapter.{iteration_ring, region_subtraction_lem, top_empty}

-- What the call leaves ---------------------------------------------------------------------------------------------------

module _ (s : Settings) (part sup ring : List ℕ) where
  abbrev r : ℕ
  r = plan_refusal s part (length sup) (length ring)

  -- not refused: the planned support and rings, whatever the lent memory held
  pub plan_fills : r ≡ 0 →
      (says_planned (plan_answer s part (length sup) (length ring)) ≡ 0 ∷ [])
      × (plan_support s part sup ring ≡ planned_bytes s.w s.h s.n (bound_of s) part)
      × (plan_rings s part sup ring ≡ planned_rings s.w s.h s.n (bound_of s) part)
  unfolding plan_answer plan_support plan_rings
  plan_fills e = (ap says_planned (answer_fine r Done (λ k. Refused (refused s part [] k)) e), answer_fine r _ (λ k. sup) e, answer_fine r _ (λ k. ring) e)

  -- refused: the number first (plan_tells of Demand1 has what follows it), and all lent memory as it was found
  pub plan_keeps : (r ≡ 0 → ⊥) →
      (get_or (says_planned (plan_answer s part (length sup) (length ring))) 0 0 ≡ r) × (plan_support s part sup ring ≡ sup) × (plan_rings s part sup ring ≡ ring)
  unfolding plan_answer plan_support plan_rings
  plan_keeps n =
      let a = answer_refused r Done (λ k. Refused (refused s part [] k)) n in
      (ap (λ (x : Planned). get_or (says_planned x) 0 0) a ∙ refused_number s part [] r, answer_refused r _ (λ k. sup) n, answer_refused r _ (λ k. ring) n)

-- The chapter's rules ------------------------------------------------------------------------------------------------------

module _ (w h n : ℕ) (q : ℕ → ℕ) (part : List ℕ) where
  -- the planned support, pixel by pixel
  abbrev pub planned_pixel : ℕ → Plane
  planned_pixel = pixel w h (planned_bytes w h n q part)

  pub planned_pixel_lem : (i p : ℕ) → i < n → p < h * w → planned_pixel i p ≡ planned n (pixel w h part) empty (rings_of w h n q (pixel w h part)) i p
  unfolding planned_bytes planned_rings
  planned_pixel_lem i p li lp = pixel_bytes w h n (planned n (pixel w h part) empty (rings_of w h n q (pixel w h part))) i p li lp

  pub planned_top : (p : ℕ) → 0 < n → p < h * w → planned_pixel (n - 1) p ≡ false
  planned_top p l lp = planned_pixel_lem (n - 1) p (omega arith) lp ∙ top_empty w h n q (pixel w h part) p

  -- below the top, each layer is Algorithm 2 of the two layers of part and the planned layer above
  pub planned_below : (i p : ℕ) → suc i < n → p < h * w →
      planned_pixel i p ≡ region_subtraction w h (q i) (pixel w h part i) (pixel w h part (suc i)) (planned_pixel (suc i)) p
  unfolding region_subtraction
  planned_below i p l lp =
      planned_pixel_lem i p (omega arith) lp ∙ region_subtraction_lem w h n q (pixel w h part) i p l lp ∙ rw (planned_pixel_lem (suc i) p l lp)

  -- the ring of a pixel in plane i
  abbrev pub planned_ring : ℕ → ℕ → ℕ
  planned_ring = ring_at w h (planned_rings w h n q part)

  -- "a ring number is the fewest steps from a seed over near shadow pixels"
  pub ring_fewest_steps : (i p j : ℕ) → suc i < n → p < h * w → (planned_ring i p ≡ suc j) ↔
      (JoinedBy w h q (pixel w h part) i (suc j) p × ((k : ℕ) → JoinedBy w h q (pixel w h part) i k p → suc j ≤ k))
  unfolding planned_rings
  ring_fewest_steps i p j l lp = ring_iff w h n q (pixel w h part) i p j l lp

  -- a pixel has ring k + 1 exactly when iteration k of Algorithm 1 swallows it
  pub ring_by_iteration : (i p k : ℕ) → suc i < n → p < h * w → (planned_ring i p ≡ suc k) ↔
      (swallowed (h * w) (touch w) (shadow (pixel w h part i) (pixel w h part (suc i))) (pixel w h part i) (pixel w h part (suc i)) (near w h (q i) (pixel w h part i))
      (growing_swallow (h * w) (touch w) (shadow (pixel w h part i) (pixel w h part (suc i))) (pixel w h part i) (pixel w h part (suc i)) (near w h (q i) (pixel w h part i)) k) p ≡ true)
  unfolding planned_rings reached seeds
  ring_by_iteration i p k l lp =
      let low : Plane = pixel w h part i in
      let up : Plane = pixel w h part (suc i) in
      let b = seed_barred w h n q (pixel w h part) i in
      let is = rings_of_is w h n q (pixel w h part) i p l lp in
      let e = iteration_ring (h * w) (touch w) (shadow low up) low up (near w h (q i) low) b k p lp in
      ((λ r. e.0 (sym is ∙ r)), (λ s. is ∙ e.1 s))

  -- "All other pixels have ring 0."
  pub ring_none : (i p : ℕ) → suc i < n → p < h * w → (planned_ring i p ≡ 0) ↔ (Excused w h q (pixel w h part) i p → ⊥)
  unfolding planned_rings
  ring_none i p l lp = (
    (λ e (k, r). omega (arith, rings_of_fewest w h n q (pixel w h part) i p k l lp r)),
    (λ none. go (rings_of w h n q (pixel w h part) i p) refl none),
  )
    where
      go : (r : ℕ) → rings_of w h n q (pixel w h part) i p ≡ r → (Excused w h q (pixel w h part) i p → ⊥) → rings_of w h n q (pixel w h part) i p ≡ 0
      go zero e none = e
      go (suc j) e none = absurd (none (rings_of_excused w h n q (pixel w h part) i p l lp (omega arith)))
