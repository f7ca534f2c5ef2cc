-- The cleaning call itself: what it leaves, that its support and rings are those of planning, and that what it leaves is accepted.
use Rattle.std.specs.Prelude.{◌≡◌, Bool, true, false, ◌&&◌, ◌||◌, ℕ, suc, ◌-◌, ◌*◌, ◌<◌, length}
use Rattle.std.proofs.Math.Path.{sym, ap₂}
use Rattle.std.proofs.Common.{ap, ◌∙◌, arith}
use Rattle.std.proofs.Math.Bool.{not}
use mathlib.Core.List.{List, [], ◌∷◌}
use Rattle.std.proofs.Math.ListN.{get_or}
use Rattle.rules.specs.Images.{Plane, Stack, pixel, ring_at}
use Rattle.rules.specs.Reach.{bound_of}
use Rattle.rules.specs.Planning.{excused, planned_rings, planned_bytes}
use Rattle.rules.specs.Cleaning.{disc_of, closed, cleaned_bytes}
use Rattle.rules.specs.Calls.{refused, says_planned, says_judged, plan_refusal, plan_answer, plan_support, plan_rings, clean_refusal, clean_answer, clean_support, clean_rings, clean_cleaned}
use Rattle.rules.specs.Outcomes.{Plans, Cleans, Judges}
use Rattle.rules.specs.declared.Settings.{Settings}
use Rattle.rules.specs.declared.Pixels.{Pixels}
use Rattle.rules.specs.declared.Planned.{Planned}
use Rattle.rules.specs.declared.Planned.TheVariants.{Done, Refused}
use Rattle.rules.specs.declared.Judged.{Judged}
use Rattle.laws.specs.Padding.{refused_number, said_none}
use Rattle.laws.specs.Refusals.{answer_fine, answer_refused}
use Rattle.laws.specs.StackTables.{plan_exactly, clean_exactly}
use Rattle.laws.specs.Limits.{ranged}
use Rattle.laws.specs.Soundness.{rings_of}
use Rattle.laws.specs.PixelBytes.{pixel_bytes}
use Rattle.laws.specs.Demand2.{planned_pixel, planned_pixel_lem}
use Rattle.laws.specs.Demand3.{bytes_of_clear, accepted_as}
use Rattle.laws.specs.Closing.{closed_same}
use Rattle.laws.specs.Cleaned.{S, F, cleaned_top, cleaned_step, cleaned_clear, cleaned_unexcused, cleaned_contains, cleaned_bytes_length, cleaned_bytes_accepted, cleaned_bytes_none}

-- What the call leaves ---------------------------------------------------------------------------------------------------

module _ (s : Settings) (c : Pixels) (part sup ring clean : List ℕ) where
  abbrev r : ℕ
  r = clean_refusal s c part (length sup) (length ring) (length clean)

  -- not refused: planned support and rings and the cleaned support, whatever the lent memory held
  pub clean_fills : r ≡ 0 →
      (says_planned (clean_answer s c part (length sup) (length ring) (length clean)) ≡ 0 ∷ [])
      × (clean_support s c part sup ring clean ≡ planned_bytes s.w s.h s.n (bound_of s) part)
      × (clean_rings s c part sup ring clean ≡ planned_rings s.w s.h s.n (bound_of s) part)
      × (clean_cleaned s c part sup ring clean ≡ cleaned_bytes s.w s.h s.n (bound_of s) c part)
  unfolding clean_answer clean_support clean_rings clean_cleaned
  clean_fills e =
      (ap says_planned (answer_fine r Done (λ k. Refused (refused s part [] k)) e), answer_fine r _ (λ k. sup) e, answer_fine r _ (λ k. ring) e, answer_fine r _ (λ k. clean) e)

  -- refused: the number first (clean_tells of Demand1 has what follows it), and all lent memory as it was found
  pub clean_keeps : (r ≡ 0 → ⊥) →
      (get_or (says_planned (clean_answer s c part (length sup) (length ring) (length clean))) 0 0 ≡ r)
      × (clean_support s c part sup ring clean ≡ sup)
      × (clean_rings s c part sup ring clean ≡ ring)
      × (clean_cleaned s c part sup ring clean ≡ clean)
  unfolding clean_answer clean_support clean_rings clean_cleaned
  clean_keeps n =
      let a = answer_refused r Done (λ k. Refused (refused s part [] k)) n in
      (ap (λ (x : Planned). get_or (says_planned x) 0 0) a ∙ refused_number s part [] r, answer_refused r _ (λ k. sup) n, answer_refused r _ (λ k. ring) n, answer_refused r _ (λ k. clean) n)

  -- an answer of 0 is one that is not refused
  fine : (a : Planned) → a ≡ clean_answer s c part (length sup) (length ring) (length clean) → says_planned a ≡ 0 ∷ [] → r ≡ 0
  unfolding clean_answer
  fine a x e = said_none s part [] r (sym (ap says_planned x) ∙ e)

-- Rules 10.5 and 10.6, pixel by pixel -------------------------------------------------------------------------------------

module _ (w h n : ℕ) (q : ℕ → ℕ) (c : Pixels) (part : List ℕ) where
  abbrev pub cleaned_pixel : ℕ → Plane
  cleaned_pixel = pixel w h (cleaned_bytes w h n q c part)

  cleaned_pixel_lem : (i p : ℕ) → i < n → p < h * w → cleaned_pixel i p ≡ F w h n (disc_of c).0 q (pixel w h part) i p
  unfolding cleaned_bytes planned_rings
  cleaned_pixel_lem i p li lp = pixel_bytes w h n (F w h n (disc_of c).0 q (pixel w h part)) i p li lp

  -- "F(top) is empty"
  pub clean_top : (p : ℕ) → 0 < n → p < h * w → cleaned_pixel (n - 1) p ≡ false
  clean_top p l lp = cleaned_pixel_lem (n - 1) p (omega arith) lp ∙ cleaned_top w h n (disc_of c).0 q (pixel w h part) p

  -- "then F(i) is F(i+1) with the closing of S(i), without the excused pixels, without P(i)"
  pub clean_below : (i p : ℕ) → suc i < n → p < h * w →
      cleaned_pixel i p
      ≡ ((cleaned_pixel (suc i) p || closed w h (disc_of c).0 (planned_pixel w h n q part i) p) && not (excused (ring_at w h (planned_rings w h n q part)) i p) && not (pixel w h part i p))
  unfolding planned_rings
  clean_below i p l lp =
      let P : Stack = pixel w h part in
      cleaned_pixel_lem i p (omega arith) lp
      ∙ cleaned_step w h n (disc_of c).0 q P i p l
      ∙ ap₂ (λ (a b : Bool). (a || b) && not (excused (rings_of w h n q P) i p) && not (P i p))
      (sym (cleaned_pixel_lem (suc i) p l lp))
      (closed_same w h (disc_of c).0 (S w h n q P i) (planned_pixel w h n q part i) (λ o lo. sym (planned_pixel_lem w h n q part i o (omega arith) lo)) p lp)

  -- "F contains S"
  pub clean_contains : (i p : ℕ) → i < n → p < h * w → planned_pixel w h n q part i p ≡ true → cleaned_pixel i p ≡ true
  clean_contains i p l lp e =
      cleaned_pixel_lem i p l lp ∙ cleaned_contains w h n (disc_of c).0 q (pixel w h part) i l p lp (sym (planned_pixel_lem w h n q part i p l lp) ∙ e)

  -- F is never inside part, and never on an excused pixel
  pub clean_clear : (i p : ℕ) → i < n → p < h * w → cleaned_pixel i p ≡ true → pixel w h part i p ≡ false
  clean_clear i p l lp e = cleaned_clear w h n (disc_of c).0 q (pixel w h part) i p l (sym (cleaned_pixel_lem i p l lp) ∙ e)

  pub clean_unexcused : (i p : ℕ) → suc i < n → p < h * w → cleaned_pixel i p ≡ true → excused (ring_at w h (planned_rings w h n q part)) i p ≡ false
  unfolding planned_rings
  clean_unexcused i p l lp e = cleaned_unexcused w h n (disc_of c).0 q (pixel w h part) i p l (sym (cleaned_pixel_lem i p (omega arith) lp) ∙ e)

-- By the contracts of the calls --------------------------------------------------------------------------------------------

module _ (s : Settings) (c : Pixels) (part sup ring clean : List ℕ) (a : Planned) (sup' ring' clean' : List ℕ) (x : Cleans s c part sup ring clean a sup' ring' clean') (e : says_planned a ≡ 0 ∷ []) where
  abbrev none : clean_refusal s c part (length sup) (length ring) (length clean) ≡ 0
  none = fine s c part sup ring clean a x.answer e

  -- "S and the rings are those of the planning call, byte for byte": where cleaning says 0, they are an outcome of planning
  pub clean_plans : Plans s part sup ring Done sup' ring'
  unfolding plan_answer plan_support plan_rings
  clean_plans =
      let (z, l, y) = (clean_exactly s c part (length sup) (length ring) (length clean)).0 none in
      let f = clean_fills s c part sup ring clean none in
      record {
        answer = sym (answer_fine (plan_refusal s part (length sup) (length ring)) Done (λ k. Refused (refused s part [] k)) z);
        support = x.support ∙ f.1 ∙ sym (answer_fine (plan_refusal s part (length sup) (length ring)) _ (λ k. sup) z);
        rings = x.rings ∙ f.2 ∙ sym (answer_fine (plan_refusal s part (length sup) (length ring)) _ (λ k. ring) z);
      }

  -- "F with the planner's rings is accepted by the checker", whatever the lent memory held
  pub clean_left_accepted : (v : Judged) → Judges s part clean' ring' v → says_judged v ≡ 0 ∷ []
  unfolding cleaned_bytes
  clean_left_accepted v y =
      let (z, l, m) = (clean_exactly s c part (length sup) (length ring) (length clean)).0 none in
      let f = clean_fills s c part sup ring clean none in
      rw (y.answer, x.cleaned ∙ f.3, x.rings ∙ f.2)
      (accepted_as s part (length sup) (length ring) z (cleaned_bytes s.w s.h s.n (bound_of s) c part)
      (cleaned_bytes_length s.w s.h s.n (bound_of s) c part) (λ lw. bytes_of_clear s.w s.h s.n _ lw)
      (cleaned_bytes_accepted s.w s.h s.n (bound_of s) c part))

  -- "with c 0, F is S"
  pub clean_none : c.0 ≡ 0 → clean' ≡ sup'
  clean_none o =
      let (z, l, m) = (clean_exactly s c part (length sup) (length ring) (length clean)).0 none in
      let f = clean_fills s c part sup ring clean none in
      x.cleaned ∙ f.3
      ∙ cleaned_bytes_none s.w s.h s.n (bound_of s) c part (ranged s ((plan_exactly s part (length sup) (length ring)).0 z).settings).h_low o
      ∙ sym (x.support ∙ f.1)
