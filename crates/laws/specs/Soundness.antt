-- Demand 3: what acceptance means, that the planned result is accepted, and that every accepted stack holds all planned support.
use Rattle.std.specs.Prelude.{◌≡◌, ◌↔◌, not, ◌&&◌, ◌||◌, List, leb, ltb, get_or, length}
use Rattle.std.proofs.Math.Path.{refl}
use Rattle.std.proofs.Common.{sym, ◌∙◌, not-suc-le-zero, length-append, get_or-append-add}
use Rattle.std.proofs.Math.Logic.{inl, inr, ⊎_elim}
use Rattle.std.proofs.Math.Bool.{Bool, true, false}
use Prim.Native.Nat.{ℕ, zero, suc, ◌+◌, ◌-◌, ◌*◌, ◌≤◌, ◌<◌}
use native.Mathlib.Omega.{arith}
use Rattle.std.proofs.Math.Dec.{eqb}
use Rattle.std.proofs.Math.ListN.{get_or-append}
use borrow.Author.Tests.{eqb-true, eqb-false, ltb-true, eq-eqb, lt-ltb, le-ltb, le-leb, leb-true}
use Rattle.rules.specs.Images.{Plane, Stack, Rings, ring_at}
use Rattle.rules.specs.Tools.{joined_up}
use Rattle.rules.specs.Planning.{fits, grown, touch, shadow, seeds, near, reached, ring_plane, excused, support_under, top_of, planned, empty}
use Rattle.rules.specs.Reach.{distance²}
use Rattle.rules.specs.Planning.{rings}
use Rattle.rules.specs.Judging.{overlap, bad_ring, unheld, verdict}
use Rattle.rules.specs.declared.Judged.TheVariants.{Accepted}
use Rattle.rules.specs.Demands.{Joined, start, onward, free_in, seed_in, JoinedBy, Excused, Sound}
use Rattle.laws.specs.Tests.{split, clash, bool_eq, and_l, and_r, and_in, or_l, or_r, or_out, or_cases, some_in, some_out, not_in, not_out}
use Rattle.laws.specs.Growing.{Right, fits_in, fits_out, chain, ring_fewest, after_right, right_same, length_grown}
use Rattle.laws.specs.Places.{Nowhere, Passed, accepted_in, accepted_out}

-- Lists of planes -----------------------------------------------------------------------------------------------

pub get_d_joined : (a m c : ℕ) (f : ℕ → List ℕ) → ((x : ℕ) → length (f x) ≡ c) → (i p d : ℕ) → i < m → p < c → get_or (joined_up a m f) (i * c + p) d ≡ get_or (f (a + i)) p d
unfolding joined_up
get_d_joined a zero c f s i p d li lp = absurd (not-suc-le-zero li)
get_d_joined a (suc m) c f s zero p d li lp =
    let z : zero * c + p ≡ p = omega arith in
    let y : a + zero ≡ a = omega arith in
    rw (z, y) (get_or-append (f a) (joined_up (suc a) m f) d p (omega (arith, s a)))
get_d_joined a (suc m) c f s (suc i) p d li lp =
    let z : suc i * c + p ≡ length (f a) + (i * c + p) = omega (arith, s a) in
    let y : a + suc i ≡ suc a + i = omega arith in
    rw (z, y) (get_or-append-add (f a) (joined_up (suc a) m f) (i * c + p) d ∙ get_d_joined (suc a) m c f s i p d (omega arith) lp)

pub length_joined : (a m c : ℕ) (f : ℕ → List ℕ) → ((x : ℕ) → length (f x) ≡ c) → length (joined_up a m f) ≡ m * c
unfolding joined_up
length_joined a zero c f s = omega arith
length_joined a (suc m) c f s = omega (arith, length-append (f a) (joined_up (suc a) m f), s a, length_joined (suc a) m c f s)

-- Stacks --------------------------------------------------------------------------------------------------------

pub joined_free : {m : ℕ} {t : ℕ → ℕ → Bool} {free seed : Plane} {k p : ℕ} → Joined m t free seed k p → free p ≡ true
joined_free (start f l t s) = f
joined_free (onward f l t r) = f

module _ (w h n : ℕ) (q : ℕ → ℕ) (part : Stack) where
  -- no bad ring in plane i: each of its rings may be carried
  right_out : (ring : ℕ → ℕ → ℕ) → Nowhere w h (n - 1) (bad_ring w h q part ring) → (i : ℕ) → suc i < n → Right (h * w) (touch w) (free_in w h q part i) (seed_in w h q part i) (ring i)
  unfolding bad_ring
  right_out ring b i l p j lp e =
      let F : ℕ → Bool = λ k. fits (h * w) (touch w) (free_in w h q part i) (seed_in w h q part i) (ring i) k p in
      let z : ring i p - 1 ≡ j = omega arith in
      split (F j) (λ t. t) (λ f. clash (and_in (ltb 0 (ring i p)) (not (F (ring i p - 1))) (lt-ltb 0 (ring i p) (omega arith)) (not_in (F (ring i p - 1)) (rw z f))) (b i p (omega arith) lp))

  right_in : (ring : ℕ → ℕ → ℕ) → ((i : ℕ) → suc i < n → Right (h * w) (touch w) (free_in w h q part i) (seed_in w h q part i) (ring i)) → Nowhere w h (n - 1) (bad_ring w h q part ring)
  unfolding bad_ring
  right_in ring r i p l lp =
      let F : ℕ → Bool = λ k. fits (h * w) (touch w) (free_in w h q part i) (seed_in w h q part i) (ring i) k p in
      split (bad_ring w h q part ring i p)
      (λ e.
      let z : 0 < ring i p = ltb-true 0 (ring i p) (and_l _ (not (F (ring i p - 1))) e) in
      clash (r i (omega arith) p (ring i p - 1) lp (omega arith)) (not_out (F (ring i p - 1)) (and_r (ltb 0 (ring i p)) _ e)))
      (λ e. e)

  -- where no ring is bad, a pixel of ring k is joined to a seed by k steps: a chain of rings is a path, so it cannot lean on itself
  pub rings_joined : (ring : ℕ → ℕ → ℕ) → Nowhere w h (n - 1) (bad_ring w h q part ring) → (i p j : ℕ) → suc i < n → p < h * w → ring i p ≡ suc j → JoinedBy w h q part i (suc j) p
  rings_joined ring b i p j l lp e = chain (h * w) (touch w) (free_in w h q part i) (seed_in w h q part i) (ring i) (right_out ring b i l) j p lp e

  -- (4), one half: what is accepted with any rings is sound
  pub accepted_sound : (sup : Stack) (ring : ℕ → ℕ → ℕ) → Passed w h n q part sup ring → Sound w h n q part sup
  unfolding overlap unheld
  accepted_sound sup ring c = record {
    clear = λ i p li lp s. split (part i p) (λ t. clash (and_in _ _ s t) (c.no_overlap i p li lp)) (λ f. f);
    holds = λ i p li lp u. split (part i p || sup i p) (λ t. inl t) (λ f.
        split (eqb (ring i p) 0)
        (λ z. let t : unheld part sup ring i p ≡ true = rw (u, f, z) in clash t (c.none_unheld i p (omega arith) lp))
        (λ z. inr (suc (ring i p - 1), rings_joined ring c.no_bad_ring i p (ring i p - 1) li lp (omega (arith, eqb-false (ring i p) 0 z)))));
  }

  -- the rings that the planner gives, and their place in the list
  abbrev pub rings_of : ℕ → ℕ → ℕ
  rings_of = ring_at w h (rings w h n q part)

  ring_plane_length : (i : ℕ) → length (ring_plane w h q part i) ≡ h * w
  unfolding ring_plane
  ring_plane_length i = length_grown (h * w) (touch w) (free_in w h q part i) (seed_in w h q part i) (h * w)

  pub rings_length : length (rings w h n q part) ≡ (n - 1) * (h * w)
  unfolding rings
  rings_length = length_joined 0 (n - 1) (h * w) (ring_plane w h q part) ring_plane_length

  pub rings_of_is : (i p : ℕ) → suc i < n → p < h * w → rings_of i p ≡ get_or (grown (h * w) (touch w) (free_in w h q part i) (seed_in w h q part i) (h * w)) p 0
  unfolding ring_at rings ring_plane
  rings_of_is i p l lp =
      let z : 0 + i ≡ i = omega arith in
      rw z at (get_d_joined 0 (n - 1) (h * w) (ring_plane w h q part) ring_plane_length i p 0 (omega arith) lp)

  -- a seed is no shadow pixel
  pub seed_barred : (i o : ℕ) → seed_in w h q part i o ≡ true → free_in w h q part i o ≡ false
  unfolding seeds reached shadow
  seed_barred i o e = rw (and_l (part i o) _ e, and_r (part i o) _ e)

  rings_of_right : (i : ℕ) → suc i < n → Right (h * w) (touch w) (free_in w h q part i) (seed_in w h q part i) (rings_of i)
  rings_of_right i l =
      right_same (h * w) (touch w) (free_in w h q part i) (seed_in w h q part i) _ (rings_of i) (λ p lp. sym (rings_of_is i p l lp))
      (after_right (h * w) (touch w) (free_in w h q part i) (seed_in w h q part i) (seed_barred i) (h * w))

  -- a pixel has a ring exactly when it is excused, and the ring is the fewest steps
  pub rings_of_joined : (i p j : ℕ) → suc i < n → p < h * w → rings_of i p ≡ suc j → JoinedBy w h q part i (suc j) p
  rings_of_joined i p j l lp e = chain (h * w) (touch w) (free_in w h q part i) (seed_in w h q part i) (rings_of i) (rings_of_right i l) j p lp e

  pub rings_of_excused : (i p : ℕ) → suc i < n → p < h * w → 0 < rings_of i p → Excused w h q part i p
  rings_of_excused i p l lp z =
      (suc (rings_of i p - 1), rings_of_joined i p (rings_of i p - 1) l lp (omega arith))

  pub rings_of_fewest : (i p k : ℕ) → suc i < n → p < h * w → JoinedBy w h q part i k p → (0 < rings_of i p) × (rings_of i p ≤ k)
  rings_of_fewest i p k l lp r = rw (rings_of_is i p l lp) (ring_fewest (h * w) (touch w) (free_in w h q part i) (seed_in w h q part i) lp r)

  -- (4), the other half: what is sound is accepted with the planner's rings
  pub sound_accepted : (sup : Stack) → Sound w h n q part sup → Passed w h n q part sup rings_of
  unfolding overlap unheld
  sound_accepted sup s = record {
    no_overlap = λ i p li lp. split (sup i p) (λ t. rw (t, s.clear i p li lp t)) (λ f. rw f);
    no_bad_ring = right_in rings_of rings_of_right;
    none_unheld = λ i p li lp. split (unheld part sup rings_of i p)
        (λ e.
        let z : eqb (rings_of i p) 0 ≡ true = search (and_l, and_r) in
        ⊎_elim (λ t. clash t (search (and_l, and_r, not_out))) (λ (k, r). absurd (omega (arith, rings_of_fewest i p k (omega arith) lp r, eqb-true (rings_of i p) 0 z)))
        (s.holds i p (omega arith) lp (search (and_l, and_r))))
        (λ e. e);
  }

  -- Planning ------------------------------------------------------------------------------------------------------
  -- `painted` is any stack that is wanted anyway: empty for plain planning
  pub not_excused : (ring : Rings) (i p : ℕ) → not (excused ring i p) ≡ eqb (ring i p) 0
  unfolding excused
  not_excused ring i p = split (eqb (ring i p) 0)
      (λ z. rw (le-ltb 0 (ring i p) (omega (arith, eqb-true (ring i p) 0 z)), z))
      (λ z. rw (lt-ltb 0 (ring i p) (omega (arith, eqb-false (ring i p) 0 z)), z))

  pub under_step : (painted : Stack) (ring : Rings) (above : Plane) (d i p : ℕ) →
      support_under part painted ring above (suc d) i p
      ≡ (shadow (part i) (part (suc i)) p && eqb (ring i p) 0 || support_under part painted ring above d (suc i) p || painted i p) && not (part i p)
  unfolding support_under
  under_step painted ring above d i p = rw not_excused

  pub planned_step : (painted : Stack) (ring : ℕ → ℕ → ℕ) (i p : ℕ) → suc i < n →
      planned n part painted ring i p ≡ (shadow (part i) (part (suc i)) p && eqb (ring i p) 0 || planned n part painted ring (suc i) p || painted i p) && not (part i p)
  unfolding planned support_under
  planned_step painted ring i p l = let z : n - 1 - i ≡ suc (n - 1 - suc i) = omega arith in rw z (under_step painted ring (top_of n part painted) (n - 1 - suc i) i p)

  pub planned_clear : (painted : Stack) (ring : ℕ → ℕ → ℕ) (i p : ℕ) → i < n → planned n part painted ring i p ≡ true → part i p ≡ false
  unfolding planned support_under top_of
  planned_clear painted ring i p l = go (n - 1 - i) refl
    where
      go : (d : ℕ) → n - 1 - i ≡ d → support_under part painted ring (top_of n part painted) d i p ≡ true → part i p ≡ false
      go zero z e = let y : n - 1 ≡ i = omega arith in let f : part (n - 1) p ≡ false = search (and_r, not_out) in rw y at f
      go (suc d) z e = search (and_r, not_out)

  -- what planning lays on layer i
  lay_shadow : (painted : Stack) (ring : ℕ → ℕ → ℕ) (i p : ℕ) → suc i < n → part i p ≡ false → part (suc i) p ≡ true → ring i p ≡ 0 → planned n part painted ring i p ≡ true
  unfolding shadow
  lay_shadow painted ring i p l f t z = rw (planned_step painted ring i p l, t, f, eq-eqb (ring i p) 0 z)

  lay_above : (painted : Stack) (ring : ℕ → ℕ → ℕ) (i p : ℕ) → suc i < n → part i p ≡ false → planned n part painted ring (suc i) p ≡ true → planned n part painted ring i p ≡ true
  lay_above painted ring i p l f t = rw (planned_step painted ring i p l) (and_in _ _ (or_l _ (painted i p) (or_r (shadow (part i) (part (suc i)) p && eqb (ring i p) 0) _ t)) (not_in _ f))

  -- (5) the planned result, with anything painted, is sound
  pub planned_sound : (painted : Stack) → Sound w h n q part (planned n part painted rings_of)
  planned_sound painted = record {
    clear = λ i p li lp. planned_clear painted rings_of i p li;
    holds = λ i p li lp u.
        split (part i p) (λ t. inl (or_l _ _ t)) (λ f.
        split (eqb (rings_of i p) 0)
        (λ z. inl (or_r (part i p) _ (⊎_elim (λ t. lay_shadow painted rings_of i p li f t (eqb-true _ _ z)) (lay_above painted rings_of i p li f) (or_out (part (suc i) p) _ u))))
        (λ z. inr (rings_of_excused i p li lp (omega (arith, eqb-false (rings_of i p) 0 z)))));
  }

  pub planned_accepted : (painted : Stack) → verdict w h n q part (planned n part painted rings_of) rings_of ≡ Accepted
  planned_accepted painted = accepted_in w h n q part (planned n part painted rings_of) rings_of (sound_accepted (planned n part painted rings_of) (planned_sound painted))

  -- what stands above and is not excused is supported
  pub supported : (sup : Stack) → Sound w h n q part sup → (i p : ℕ) → suc i < n → p < h * w → part i p ≡ false → (part (suc i) p || sup (suc i) p) ≡ true → (Excused w h q part i p → ⊥) →
      sup i p ≡ true
  supported sup s i p l lp f u x =
      ⊎_elim (λ t. ⊎_elim (λ y. clash y f) (λ y. y) (or_out (part i p) _ t)) (λ y. absurd (x y)) (s.holds i p l lp u)

  -- support above rests on support: an excused pixel is one of the shadow, and so of the part
  pub excused_shadow : (i p : ℕ) → Excused w h q part i p → shadow (part i) (part (suc i)) p ≡ true
  unfolding reached
  excused_shadow i p (k, r) = and_l (shadow (part i) (part (suc i)) p) _ (joined_free r)

  pub excused_part : (i p : ℕ) → Excused w h q part i p → part (suc i) p ≡ true
  unfolding shadow
  excused_part i p x = and_l (part (suc i) p) _ (excused_shadow i p x)

  -- (6) a sound stack that has what is painted outside the part has all that is planned
  least : (painted sup : Stack) → Sound w h n q part sup → ((i p : ℕ) → i < n → p < h * w → painted i p ≡ true → part i p ≡ false → sup i p ≡ true) →
      (d i p : ℕ) → d + suc i ≡ n → p < h * w → support_under part painted rings_of (top_of n part painted) d i p ≡ true → sup i p ≡ true
  unfolding support_under shadow top_of
  least painted sup s b zero i p l lp e =
      let y : n - 1 ≡ i = omega arith in
      b i p (omega arith) lp (rw y at (and_l (painted (n - 1) p) _ e)) (rw y at (not_out (part (n - 1) p) (and_r (painted (n - 1) p) _ e)))
  least painted sup s b (suc d) i p l lp e =
      let f : part i p ≡ false = search (and_r, not_out) in
      or_cases (shadow (part i) (part (suc i)) p && eqb (rings_of i p) 0) (support_under part painted rings_of (top_of n part painted) d (suc i) p) (painted i p)
      (and_l _ (not (part i p)) (sym (under_step painted rings_of (top_of n part painted) d i p) ∙ e))
      (λ t. supported sup s i p (omega arith) lp f (or_l (part (suc i) p) _ (search (and_l)))
      (λ (k, r). omega (arith, rings_of_fewest i p k (omega arith) lp r, eqb-true (rings_of i p) 0 (search (and_r)))))
      (λ t. let g : sup (suc i) p ≡ true = least painted sup s b d (suc i) p (omega arith) lp t in
      supported sup s i p (omega arith) lp f (or_r (part (suc i) p) _ g) (λ x. clash (excused_part i p x) (s.clear (suc i) p (omega arith) lp g)))
      (λ t. b i p (omega arith) lp t f)

  pub planned_least : (painted sup : Stack) → Sound w h n q part sup → ((i p : ℕ) → i < n → p < h * w → painted i p ≡ true → part i p ≡ false → sup i p ≡ true) →
      (i p : ℕ) → i < n → p < h * w → planned n part painted rings_of i p ≡ true → sup i p ≡ true
  unfolding planned
  planned_least painted sup s b i p l lp e = least painted sup s b (n - 1 - i) i p (omega arith) lp e

  -- plain planning: inside every stack that the checker accepts with any rings
  pub plan_least : (sup : Stack) (ring : ℕ → ℕ → ℕ) → verdict w h n q part sup ring ≡ Accepted →
      (i p : ℕ) → i < n → p < h * w → planned n part empty rings_of i p ≡ true → sup i p ≡ true
  unfolding empty
  plan_least sup ring e = planned_least empty sup (accepted_sound sup ring (accepted_out w h n q part sup ring e)) (λ i p l lp x f. clash x refl)

  -- Mending (T-11): what is painted outside the part stays, and mending again changes nothing
  pub planned_painted : (painted : Stack) (ring : ℕ → ℕ → ℕ) (i p : ℕ) → i < n → painted i p ≡ true → part i p ≡ false → planned n part painted ring i p ≡ true
  unfolding planned support_under top_of
  planned_painted painted ring i p l t f = go (n - 1 - i) refl
    where
      go : (d : ℕ) → n - 1 - i ≡ d → support_under part painted ring (top_of n part painted) d i p ≡ true
      go zero z = let y : n - 1 ≡ i = omega arith in rw (y, t, f)
      go (suc d) z = under_step painted ring (top_of n part painted) d i p
          ∙ and_in _ _ (or_r (shadow (part i) (part (suc i)) p && eqb (ring i p) 0 || support_under part painted ring (top_of n part painted) d (suc i) p) _ t) (not_in _ f)

  pub mended_again : (painted : Stack) (i p : ℕ) → i < n → p < h * w → planned n part (planned n part painted rings_of) rings_of i p ≡ planned n part painted rings_of i p
  mended_again painted i p l lp =
      bool_eq _ _
      (planned_least (planned n part painted rings_of) (planned n part painted rings_of) (planned_sound painted) (λ i p l lp t f. t) i p l lp)
      (λ t. planned_painted (planned n part painted rings_of) rings_of i p l t (planned_clear painted rings_of i p l t))

  -- (2) the planner's ring, settled: 0 where there is no path, else the fewest steps
  pub ring_iff : (i p j : ℕ) → suc i < n → p < h * w → (rings_of i p ≡ suc j) ↔
      (JoinedBy w h q part i (suc j) p × ((k : ℕ) → JoinedBy w h q part i k p → suc j ≤ k))
  ring_iff i p j l lp = (
    (λ e. (rings_of_joined i p j l lp e, λ k r. omega (arith, rings_of_fewest i p k l lp r))),
    (λ (r, s).
        let z : 0 < rings_of i p = (rings_of_fewest i p (suc j) l lp r).0 in
        omega (arith, rings_of_fewest i p (suc j) l lp r, s (suc (rings_of i p - 1)) (rings_of_joined i p (rings_of i p - 1) l lp (omega arith)))),
  )

  -- (4) some rings, in the right number, make the checker accept exactly when the stack is sound
  pub accepted_iff : (sup : Stack) → ((l : List ℕ) × (length l ≡ (n - 1) * (h * w)) × (verdict w h n q part sup (ring_at w h l) ≡ Accepted)) ↔ Sound w h n q part sup
  accepted_iff sup = (
    (λ (l, z, e). accepted_sound sup (ring_at w h l) (accepted_out w h n q part sup (ring_at w h l) e)),
    (λ s. (rings w h n q part, rings_length, accepted_in w h n q part sup rings_of (sound_accepted sup s))),
  )

-- A larger bound, never more support (T-14), by (5) and (6)
joined_wider : {m : ℕ} {t : ℕ → ℕ → Bool} {free free' seed : Plane} {k p : ℕ} → ((x : ℕ) → free x ≡ true → free' x ≡ true) → Joined m t free seed k p → Joined m t free' seed k p
joined_wider s (start f l t u) = start (s _ f) l t u
joined_wider s (onward f l t r) = onward (s _ f) l t (joined_wider s r)

pub near_wider : (w h a b : ℕ) (low : Plane) → a ≤ b → (p : ℕ) → near w h a low p ≡ true → near w h b low p ≡ true
unfolding near
near_wider w h a b low l p e =
    let (o, lo, t) = some_out (h * w) (λ o. low o && leb (distance² w p o) a) e in
    some_in (h * w) (λ o. low o && leb (distance² w p o) b) o lo
    (and_in (low o) _ (and_l (low o) _ t) (le-leb (distance² w p o) b (omega (arith, leb-true (distance² w p o) a (and_r (low o) _ t)))))

pub reached_wider : (w h a b : ℕ) (low up : Plane) → a ≤ b → (p : ℕ) → reached w h a low up p ≡ true → reached w h b low up p ≡ true
unfolding reached
reached_wider w h a b low up l p e =
    and_in (shadow low up p) _ (and_l (shadow low up p) _ e) (near_wider w h a b low l p (and_r (shadow low up p) _ e))

-- rings that were good stay good, so what was accepted stays accepted
pub accepted_wider : (w h n : ℕ) (q q' : ℕ → ℕ) (part sup : Stack) (ring : Rings) → ((i : ℕ) → q i ≤ q' i) →
    verdict w h n q part sup ring ≡ Accepted → verdict w h n q' part sup ring ≡ Accepted
accepted_wider w h n q q' part sup ring l e =
    let c = accepted_out w h n q part sup ring e in
    accepted_in w h n q' part sup ring (record {
      no_overlap = c.no_overlap;
      no_bad_ring = right_in w h n q' part ring (λ i li. wider i (right_out w h n q part ring c.no_bad_ring i li));
      none_unheld = c.none_unheld;
    })
  where
    wider : (i : ℕ) → Right (h * w) (touch w) (free_in w h q part i) (seed_in w h q part i) (ring i) → Right (h * w) (touch w) (free_in w h q' part i) (seed_in w h q' part i) (ring i)
    wider i r p j lp x =
        let F : Plane = free_in w h q part i in
        let F' : Plane = free_in w h q' part i in
        let S : Plane = seed_in w h q part i in
        let (f, (o, lo, t, u)) = fits_out (h * w) (touch w) F S (ring i) j p (r p j lp x) in
        fits_in (h * w) (touch w) F' S (ring i) j p o (reached_wider w h (q i) (q' i) (part i) (part (suc i)) (l i) p f) lo t u

pub plan_wider : (w h n : ℕ) (q q' : ℕ → ℕ) (part : Stack) → ((i : ℕ) → q i ≤ q' i) →
    (i p : ℕ) → i < n → p < h * w → planned n part empty (rings_of w h n q' part) i p ≡ true → planned n part empty (rings_of w h n q part) i p ≡ true
unfolding empty
plan_wider w h n q q' part l = planned_least w h n q' part empty (planned n part empty (rings_of w h n q part)) wider (λ i p li lp x f. clash x refl)
  where
    s : Sound w h n q part (planned n part empty (rings_of w h n q part))
    s = planned_sound w h n q part empty

    wider : Sound w h n q' part (planned n part empty (rings_of w h n q part))
    wider = record {
      clear = s.clear;
      holds = λ i p li lp u. ⊎_elim (λ y. inl y) (λ (k, r). inr (k, joined_wider (reached_wider w h (q i) (q' i) (part i) (part (suc i)) (l i)) r)) (s.holds i p li lp u);
    }
