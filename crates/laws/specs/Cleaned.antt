-- The cleaned support F contains the planned support S, is accepted with the planner's rings, and is Algorithm 3 of the chapter.
use Rattle.std.specs.Prelude.{◌≡◌, refl, Bool, ◌&&◌, ◌||◌, List, ltb, length}
use Rattle.std.proofs.Math.Path.{sym, ap, ap₂}
use Rattle.std.proofs.Common.{◌∙◌}
use Rattle.std.proofs.Math.Logic.{inl, inr, ⊎_elim}
use Rattle.std.proofs.Math.Bool.{true, false, not}
use Prim.Native.Nat.{ℕ, zero, suc, ◌+◌, ◌-◌, ◌*◌, ◌<◌}
use native.Mathlib.Omega.{arith}
use Rattle.std.proofs.Math.Dec.{eqb}
use borrow.Author.Tests.{eqb-false, ltb-true, ltb-false}
use Rattle.rules.specs.Images.{Plane, Stack, Rings, row_bytes, pixel, bytes_of}
use Rattle.rules.specs.Reach.{square}
use Rattle.rules.specs.Planning.{shadow, excused, planned, empty, region_subtraction, planned_rings, planned_bytes}
use Rattle.rules.specs.Cleaning.{disc_of, closed, cleaned_under, cleaned, cleaned_bytes, region_subtraction_fdm}
use Rattle.rules.specs.Judging.{verdict_of}
use Rattle.rules.specs.Demands.{Excused, Sound}
use Rattle.rules.specs.declared.Judged.TheVariants.{Accepted}
use Rattle.rules.specs.declared.Pixels.{Pixels}
use Rattle.laws.specs.Tests.{split, clash, bool_eq, and_l, and_r, and_in, or_l, or_r, or_out, or_cases, not_in, not_out, length_each}
use Rattle.laws.specs.Places.{accepted_in}
use Rattle.laws.specs.Soundness.{rings_of, rings_of_excused, not_excused, planned_step, planned_clear, planned_sound, excused_shadow, excused_part, sound_accepted}
use Rattle.laws.specs.Chapter.{region_subtraction_lem, top_empty}
use Rattle.laws.specs.Closing.{Inside, closing_contains, closed_same, closed_none}
use Rattle.laws.specs.PixelBytes.{pixel_bytes, sound_same}
use Rattle.laws.specs.BytePixels.{bytes_same}

module _ (w h n : ℕ) (q : ℕ → ℕ) (part : Stack) where
  abbrev rings : Rings
  rings = rings_of w h n q part

  -- the planned support
  abbrev pub S : Stack
  S = planned n part empty rings

  -- planned support is never excused
  planned_unexcused : (i p : ℕ) → suc i < n → p < h * w → S i p ≡ true → excused rings i p ≡ false
  unfolding empty
  planned_unexcused i p l lp e = not_out _ (not_excused w h n q part rings i p ∙ split (eqb (rings i p) 0) (λ z. z) (λ z.
      let x : Excused w h q part i p = rings_of_excused w h n q part i p l lp (omega (arith, eqb-false (rings i p) 0 z)) in
      or_cases (shadow (part i) (part (suc i)) p && eqb (rings i p) 0) (S (suc i) p) (empty i p) (and_l _ (not (part i p)) (sym (planned_step w h n q part empty rings i p l) ∙ e))
      (λ a. and_r (shadow (part i) (part (suc i)) p) _ a)
      (λ b. clash (excused_part w h n q part i p x) (planned_clear w h n q part empty rings (suc i) p l b))
      (λ y. clash y refl)))

  -- what is excused: the shadow that has no planned support
  pub excused_is : (i p : ℕ) → suc i < n → p < h * w → excused rings i p ≡ (shadow (part i) (part (suc i)) p && not (S i p))
  unfolding excused shadow empty
  excused_is i p l lp = bool_eq _ _
      (λ e.
      let x : Excused w h q part i p = rings_of_excused w h n q part i p l lp (ltb-true 0 (rings i p) e) in
      and_in _ _ (excused_shadow w h n q part i p x)
      (not_in _ (split (S i p) (λ t. clash e (planned_unexcused i p l lp t)) (λ z. z))))
      (λ e.
      split (excused rings i p) (λ t. t) (λ z. clash
      (planned_step w h n q part empty rings i p l
      ∙ and_in _ _ (or_l _ false (or_l _ (S (suc i) p) (and_in _ _ (and_l (shadow (part i) (part (suc i)) p) _ e) (sym (not_excused w h n q part rings i p) ∙ not_in _ z))))
      (and_r (part (suc i) p) _ (and_l (shadow (part i) (part (suc i)) p) _ e)))
      (not_out _ (and_r (shadow (part i) (part (suc i)) p) _ e))))

-- d is the bound of the disc
module _ (w h n d : ℕ) (q : ℕ → ℕ) (part : Stack) where
  abbrev ring : Rings
  ring = rings_of w h n q part

  abbrev planned_support : Stack
  planned_support = S w h n q part

  -- the cleaned support
  abbrev pub F : Stack
  F = cleaned w h n d part ring planned_support

  -- "F(top) is empty"
  pub cleaned_top : (p : ℕ) → F (n - 1) p ≡ false
  unfolding cleaned cleaned_under
  cleaned_top p = let z : n - 1 - (n - 1) ≡ 0 = omega arith in rw z

  -- "then F(i) is F(i+1) with the closing of S(i), without the excused pixels, without P(i)"
  pub cleaned_step : (i p : ℕ) → suc i < n → F i p ≡ ((F (suc i) p || closed w h d (planned_support i) p) && not (excused ring i p) && not (part i p))
  unfolding cleaned cleaned_under
  cleaned_step i p l = let z : n - 1 - i ≡ suc (n - 1 - suc i) = omega arith in rw z

  -- a layer is the top one or has one above it
  layers : {C : Type 0} (i : ℕ) → i < n → (suc i < n → C) → (n - 1 ≡ i → C) → C
  layers i l below top = split (ltb (suc i) n) (λ t. below (ltb-true (suc i) n t)) (λ t. top (omega (arith, ltb-false (suc i) n t)))

  -- "F is never inside part"
  pub cleaned_clear : (i p : ℕ) → i < n → F i p ≡ true → part i p ≡ false
  cleaned_clear i p l e = layers i l
      (λ m. not_out (part i p) (and_r ((F (suc i) p || closed w h d (planned_support i) p) && not (excused ring i p)) _ (sym (cleaned_step i p m) ∙ e)))
      (λ z. clash (rw (← z) at e) (cleaned_top p))

  -- "and never on an excused pixel"
  pub cleaned_unexcused : (i p : ℕ) → suc i < n → F i p ≡ true → excused ring i p ≡ false
  cleaned_unexcused i p l e = not_out _ (and_r (F (suc i) p || closed w h d (planned_support i) p) _ (and_l _ (not (part i p)) (sym (cleaned_step i p l) ∙ e)))

  -- "F contains S"
  pub cleaned_contains : (i : ℕ) → i < n → Inside w h (planned_support i) (F i)
  cleaned_contains i l p lp e = layers i l
      (λ m.
      cleaned_step i p m
      ∙ and_in _ _ (and_in _ _ (or_r (F (suc i) p) _ (closing_contains w h d (planned_support i) p lp e)) (not_in _ (planned_unexcused w h n q part i p m lp e)))
      (not_in _ (planned_clear w h n q part empty ring i p l e)))
      (λ z. clash (rw (← z) at e) (top_empty w h n q part p))

  -- what stands on nothing is held: F goes on downward until it meets part, for an excused pixel is one of the part above
  pub cleaned_sound : Sound w h n q part F
  unfolding excused
  cleaned_sound = record {
    clear = λ i p li lp e. cleaned_clear i p li e;
    holds = λ i p li lp u. split (part i p) (λ t. inl (or_l _ _ t)) (λ f. ⊎_elim
        (λ t. ⊎_elim
        (λ y. inl (or_r (part i p) _ (cleaned_contains i (omega arith) p lp (⊎_elim (λ v. clash v f) (λ v. v) (or_out (part i p) _ y)))))
        (λ y. inr y)
        ((planned_sound w h n q part empty).holds i p li lp (or_l _ _ t)))
        (λ t. inl (or_r (part i p) _ (cleaned_step i p li ∙ and_in _ _ (and_in _ _ (or_l _ _ t) (not_in _ (unexcused i p li lp t))) (not_in _ f))))
        (or_out (part (suc i) p) _ u));
  }
    where
      unexcused : (i p : ℕ) → suc i < n → p < h * w → F (suc i) p ≡ true → excused ring i p ≡ false
      unexcused i p li lp t = split (excused ring i p)
          (λ e. clash (excused_part w h n q part i p (rings_of_excused w h n q part i p li lp (ltb-true 0 (ring i p) e))) (cleaned_clear (suc i) p li t))
          (λ z. z)

  -- F(i) is what Algorithm 3 makes of the layers, of S(i+1) and of F(i+1)
  pub region_subtraction_fdm_lem : (i p : ℕ) → suc i < n → p < h * w → F i p ≡ region_subtraction_fdm w h (q i) d (part i) (part (suc i)) (planned_support (suc i)) (F (suc i)) p
  unfolding region_subtraction_fdm
  region_subtraction_fdm_lem i p l lp =
      let R : Plane = region_subtraction w h (q i) (part i) (part (suc i)) (planned_support (suc i)) in
      let c : closed w h d (planned_support i) p ≡ closed w h d R p = closed_same w h d (planned_support i) R (λ o lo. region_subtraction_lem w h n q part i o l lo) p lp in
      let e : excused ring i p ≡ (shadow (part i) (part (suc i)) p && not (R p)) =
      excused_is w h n q part i p l lp ∙ ap (λ (b : Bool). shadow (part i) (part (suc i)) p && not b) (region_subtraction_lem w h n q part i p l lp) in
      cleaned_step i p l ∙ ap₂ (λ (a b : Bool). (F (suc i) p || a) && not b && not (part i p)) c e

-- "with c 0, F is S"
module _ (w h n : ℕ) (q : ℕ → ℕ) (part : Stack) where
  abbrev ring₀ : Rings
  ring₀ = rings_of w h n q part

  under : (k i p : ℕ) → k + suc i ≡ n → p < h * w → F w h n 0 q part i p ≡ S w h n q part i p
  unfolding empty
  under zero i p e lp =
      let z : n - 1 ≡ i = omega arith in
      rw (← z) (cleaned_top w h n 0 q part p ∙ sym (top_empty w h n q part p))
  under (suc k) i p e lp = bool_eq _ _ (forth (under k (suc i) p (omega arith) lp)) (cleaned_contains w h n 0 q part i (omega arith) p lp)
    where
      l : suc i < n
      l = omega arith

      forth : F w h n 0 q part (suc i) p ≡ S w h n q part (suc i) p → F w h n 0 q part i p ≡ true → S w h n q part i p ≡ true
      forth above t =
          let f : part i p ≡ false = cleaned_clear w h n 0 q part i p (omega arith) t in
          ⊎_elim
          (λ a. planned_step w h n q part empty ring₀ i p l
          ∙ and_in _ _ (or_l _ false (or_r (shadow (part i) (part (suc i)) p && eqb (ring₀ i p) 0) _ (sym above ∙ a))) (not_in _ f))
          (λ b. sym (closed_none w h (S w h n q part i) p lp) ∙ b)
          (or_out (F w h n 0 q part (suc i) p) _ (and_l _ (not (excused ring₀ i p)) (and_l _ (not (part i p)) (sym (cleaned_step w h n 0 q part i p l) ∙ t))))

  pub cleaned_none : (i p : ℕ) → i < n → p < h * w → F w h n 0 q part i p ≡ S w h n q part i p
  cleaned_none i p l lp = under (n - 1 - i) i p (omega arith) lp

-- The same of bytes --------------------------------------------------------------------------------------------------------

pub cleaned_bytes_length : (w h n : ℕ) (q : ℕ → ℕ) (c : Pixels) (part : List ℕ) → length (cleaned_bytes w h n q c part) ≡ n * h * row_bytes w
unfolding cleaned_bytes bytes_of
cleaned_bytes_length w h n q c part = length_each 0 (n * h * row_bytes w) _

pub cleaned_bytes_accepted : (w h n : ℕ) (q : ℕ → ℕ) (c : Pixels) (part : List ℕ) → verdict_of w h n q part (cleaned_bytes w h n q c part) (planned_rings w h n q part) ≡ Accepted
unfolding verdict_of cleaned_bytes planned_rings
cleaned_bytes_accepted w h n q c part =
    let P : Stack = pixel w h part in
    let f : Stack = F w h n (disc_of c).0 q P in
    accepted_in w h n q P (pixel w h (bytes_of w h n f)) (rings_of w h n q P)
    (sound_accepted w h n q P (pixel w h (bytes_of w h n f))
    (sound_same w h n q P f (pixel w h (bytes_of w h n f)) (λ i p li lp. sym (pixel_bytes w h n f i p li lp)) (cleaned_sound w h n (disc_of c).0 q P)))

pub cleaned_bytes_none : (w h n : ℕ) (q : ℕ → ℕ) (c : Pixels) (part : List ℕ) → 0 < h → c.0 ≡ 0 → cleaned_bytes w h n q c part ≡ planned_bytes w h n q part
unfolding planned_bytes cleaned_bytes planned_rings disc_of square
cleaned_bytes_none w h n q c part lh z = rw z (bytes_same w h n (F w h n 0 q (pixel w h part)) (S w h n q (pixel w h part)) lh (cleaned_none w h n q (pixel w h part)))
