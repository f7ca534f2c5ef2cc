-- Demand 2: planning by the rules is the chapter's Algorithms 1 and 2, iteration by iteration.
use Rattle.std.specs.Prelude.{◌≡◌, refl, ◌↔◌, true, ◌&&◌, ◌||◌, leb, ltb}
use Rattle.std.proofs.Common.{sym, ap, ◌∙◌, ⊎_elim, zero-add, suc-add, ext_get_or, eqb-true, eq-eqb, ne_eqb, ltb-true, ltb-false, lt-ltb, le-ltb, leb-true, leb-false}
use Rattle.std.proofs.Math.Bool.{Bool, false, not}
use Prim.Native.Nat.{ℕ, zero, suc, ◌+◌, ◌-◌, ◌*◌, ◌≤◌, ◌<◌}
use native.Mathlib.Omega.{arith}
use Rattle.std.proofs.Math.Dec.{eqb}
use Rattle.std.proofs.Math.ListN.{get_or}
use Rattle.rules.specs.Images.{Plane, Stack}
use Rattle.rules.specs.Planning.{shadow, near, source, seeds, reached, touch, touching, fits, grown, planned, top_of, support_under, empty, Swallow, dilated}
use Rattle.rules.specs.Planning.{swallowed, growing_swallow, region_subtraction}
use Rattle.rules.specs.Demands.{start, onward}
use Rattle.laws.specs.Tests.{split, clash, bool_eq, and_l, and_r, and_in, or_l, or_r, or_out, or_none, or_false, and_true, and_false, not_in, not_out}
use Rattle.laws.specs.Tests.{some_in, some_out, get_d_each, count_le}
use Rattle.laws.specs.Growing.{after, fitting, has, source_seed, seed_source, source_ring, ring_source, fits_in, fits_out, length_grown, after_zero}
use Rattle.laws.specs.Growing.{after_suc, keep_to, new, bounded, born, born_bare, path, complete, crowd}
use Rattle.laws.specs.Soundness.{rings_of, rings_of_is, seed_barred, planned_step}

-- Where a run of Algorithm 1 may stop -----------------------------------------------------------------------------------

module _ (m : ℕ) (touch : ℕ → ℕ → Bool) (free seed : Plane) where
  -- step k gives no ring
  abbrev pub Quiet : ℕ → Type 0
  Quiet k = (p : ℕ) → p < m → after m touch free seed (suc k) p ≡ suc k → ⊥

  quiet_same : (k : ℕ) → Quiet k → (p : ℕ) → p < m → after m touch free seed (suc k) p ≡ after m touch free seed k p
  quiet_same k s p l =
      split (eqb (after m touch free seed k p) 0 && fitting m touch free seed k p)
      (λ e. absurd (s p l (new m touch free seed k p l (eqb-true _ _ (and_l _ (fitting m touch free seed k p) e)) (and_r (eqb (after m touch free seed k p) 0) _ e))))
      (λ e. after_suc m touch free seed k p l ∙ rw e)

  quiet_next : (k : ℕ) → Quiet k → Quiet (suc k)
  unfolding fitting
  quiet_next k s p l e =
      let (f, (o, lo, t, u)) = fits_out m touch free seed (after m touch free seed (suc k)) (suc k) p (born_bare m touch free seed (suc k) p l e).1 in
      s o lo (ring_source seed (after m touch free seed (suc k)) k o u)

  quiet_on : (d k : ℕ) → Quiet k → Quiet (d + k)
  quiet_on zero k s = rw zero-add s
  quiet_on (suc d) k s = rw suc-add (quiet_next (d + k) (quiet_on d k s))

  quiet_stays : (d k : ℕ) → Quiet k → grown m touch free seed (d + k) ≡ grown m touch free seed k
  quiet_stays zero k s = rw zero-add
  quiet_stays (suc d) k s =
      rw suc-add (
      ext_get_or 0 (grown m touch free seed (suc (d + k))) (grown m touch free seed (d + k))
      (length_grown m touch free seed (suc (d + k)) ∙ sym (length_grown m touch free seed (d + k)))
      (λ i h. quiet_same (d + k) (quiet_on d k s) i (omega (arith, length_grown m touch free seed (suc (d + k)))))
      ∙ quiet_stays d k s)

  pub quiet_end : Quiet m
  quiet_end p l e = omega (arith, crowd m touch free seed m p l e, count_le m (has m touch free seed (suc m)))

  -- whenever a step gives no ring, the rings are those after m steps
  pub quiet_is : (k : ℕ) → Quiet k → grown m touch free seed k ≡ grown m touch free seed m
  quiet_is k s = split (leb k m)
      (λ e. let l : k ≤ m = leb-true k m e in let z : m - k + k ≡ m = omega arith in sym (rw z at (quiet_stays (m - k) k s)))
      (λ e. let l : m < k = leb-false k m e in let z : k - m + m ≡ k = omega arith in rw z at (quiet_stays (k - m) m quiet_end))

-- Algorithm 1 -----------------------------------------------------------------------------------------------------------

module _ (m : ℕ) (touch : ℕ → ℕ → Bool) (psi low up within : Plane) where
  abbrev free : Plane
  free p = psi p && within p

  abbrev seed : Plane
  seed p = low p && up p

  abbrev G : ℕ → Swallow m touch psi low up within
  G = growing_swallow m touch psi low up within

  abbrev ring_of : ℕ → ℕ → ℕ
  ring_of = after m touch free seed

  -- after k iterations A holds the seeds and what has a ring, and S̃ what of the shadow has none
  pub record Same (k : ℕ) : Type 0 where
    pub region : (p : ℕ) → p < m → get_or (G k).A p false ≡ (seed p || ltb 0 (ring_of k p))
    pub left : (p : ℕ) → p < m → get_or (G k).S̃ p false ≡ (psi p && eqb (ring_of k p) 0)

  no_ring : (k p : ℕ) → ltb 0 (ring_of k p) ≡ false → ring_of k p ≡ 0
  no_ring k p e = omega (arith, ltb-false 0 (ring_of k p) e)

  -- what touches A touches a seed or a ring, and has a ring one step later
  near_region : (k p o : ℕ) → p < m → o < m → free p ≡ true → touch p o ≡ true → (seed o || ltb 0 (ring_of k o)) ≡ true → ring_of k p ≡ 0 → fits m touch free seed (ring_of k) k p ≡ true
  near_region k p o lp lo f t a z = ⊎_elim (by_seed k z) (λ r. by_ring k z (ring_of k o) refl (ltb-true 0 (ring_of k o) r)) (or_out (seed o) _ a)
    where
      by_seed : (k : ℕ) → ring_of k p ≡ 0 → seed o ≡ true → fits m touch free seed (ring_of k) k p ≡ true
      by_seed zero z s = fits_in m touch free seed (ring_of 0) 0 p o f lo t (source_seed seed (ring_of 0) o s (after_zero m touch free seed o lo))
      by_seed (suc k) z s =
          let (i, h, e) = complete m touch free seed (start f lo t s) lp in
          absurd (omega (arith, keep_to m touch free seed (suc i) (suc k) p i (omega arith) lp e))

      by_ring : (k : ℕ) → ring_of k p ≡ 0 → (r : ℕ) → ring_of k o ≡ r → 0 < ring_of k o → fits m touch free seed (ring_of k) k p ≡ true
      by_ring k z zero e h = absurd (omega arith)
      by_ring k z (suc j) e h = go (leb (suc i) k) refl
        where
          joined : (i : ℕ) × (suc i ≤ suc (suc j)) × (ring_of (suc i) p ≡ suc i)
          joined = complete m touch free seed (onward f lo t (path m touch free seed j o lo (born m touch free seed k o j lo e))) lp

          i : ℕ
          i = joined.0

          go : (b : Bool) → leb (suc i) k ≡ b → fits m touch free seed (ring_of k) k p ≡ true
          go true l = absurd (omega (arith, keep_to m touch free seed (suc i) k p i (leb-true _ _ l) lp joined.2))
          go false l =
              let y : k ≡ suc j = omega (arith, leb-false (suc i) k l, joined.1, bounded m touch free seed k o lo) in
              rw y (fits_in m touch free seed (ring_of (suc j)) (suc j) p o f lo t (source_ring seed (ring_of (suc j)) j o (rw y at e)))

  module _ (barred : (o : ℕ) → seed o ≡ true → free o ≡ false) where
    source_in : (k o : ℕ) → source seed (ring_of k) k o ≡ true → (seed o || ltb 0 (ring_of k o)) ≡ true
    source_in zero o u = or_l (seed o) _ (seed_source seed (ring_of 0) o u).0
    source_in (suc k) o u = or_r (seed o) _ (lt-ltb 0 (ring_of (suc k) o) (omega (arith, ring_source seed (ring_of (suc k)) k o u)))

    -- C of an iteration is what gets a ring in it
    swallowed_is : (k : ℕ) → Same k → (p : ℕ) → p < m → swallowed m touch psi low up within (G k) p ≡ (eqb (ring_of k p) 0 && fitting m touch free seed k p)
    unfolding swallowed dilated touching fitting
    swallowed_is k s p l = bool_eq _ _ forth back
      where
        a : Bool
        a = get_or (G k).A p false

        forth : swallowed m touch psi low up within (G k) p ≡ true → (eqb (ring_of k p) 0 && fitting m touch free seed k p) ≡ true
        forth e =
            let B : Bool = dilated m touch psi low up within (G k).A p in
            let bare : a ≡ false = not_out a (and_r B _ (and_l (B && not a) (within p) (and_l (B && not a && within p) _ e))) in
            let out : (seed p || ltb 0 (ring_of k p)) ≡ false = sym (s.region p l) ∙ bare in
            let z : ring_of k p ≡ 0 = no_ring k p (or_none (seed p) _ out) in
            let left : (psi p && eqb (ring_of k p) 0) ≡ true = sym (s.left p l) ∙ and_r (B && not a && within p) _ e in
            let f : free p ≡ true = and_in _ _ (and_l (psi p) _ left) (and_r (B && not a) (within p) (and_l (B && not a && within p) _ e)) in
            let b : B ≡ true = and_l B _ (and_l (B && not a) (within p) (and_l (B && not a && within p) _ e)) in
            let (o, lo, t) = some_out m (λ o. touch p o && get_or (G k).A o false) (⊎_elim (λ y. clash y bare) (λ y. y) (or_out a _ b)) in
            and_in _ _ (eq-eqb (ring_of k p) 0 z)
            (near_region k p o l lo f (and_l (touch p o) _ t) (sym (s.region o lo) ∙ and_r (touch p o) _ t) z)

        back : (eqb (ring_of k p) 0 && fitting m touch free seed k p) ≡ true → swallowed m touch psi low up within (G k) p ≡ true
        back e =
            let z : eqb (ring_of k p) 0 ≡ true = and_l _ (fitting m touch free seed k p) e in
            let (f, (o, lo, t, u)) = fits_out m touch free seed (ring_of k) k p (and_r (eqb (ring_of k p) 0) _ e) in
            let sp : seed p ≡ false = split (seed p) (λ y. clash f (barred p y)) (λ y. y) in
            let bare : a ≡ false = s.region p l ∙ rw (sp, le-ltb 0 (ring_of k p) (omega (arith, eqb-true (ring_of k p) 0 z))) in
            let in_a : get_or (G k).A o false ≡ true = s.region o lo ∙ source_in k o u in
            and_in _ _ (and_in _ _ (and_in _ _ (or_r a _ (some_in m (λ o. touch p o && get_or (G k).A o false) o lo (and_in _ _ t in_a))) (not_in a bare)) (and_r (psi p) _ f))
            (s.left p l ∙ and_in _ _ (and_l (psi p) _ f) z)

    -- one iteration: a step of growing
    same_next : (k : ℕ) → Same k → Same (suc k)
    unfolding growing_swallow
    same_next k s = record { region = region; left = left }
      where
        R : ℕ → Bool
        R p = eqb (ring_of k p) 0 && fitting m touch free seed k p

        region : (p : ℕ) → p < m → get_or (G (suc k)).A p false ≡ (seed p || ltb 0 (ring_of (suc k) p))
        region p l =
            get_d_each 0 m (λ p. swallowed m touch psi low up within (G k) p || get_or (G k).A p false) p false l
            ∙ rw (zero-add, swallowed_is k s p l, s.region p l, after_suc m touch free seed k p l)
            (split (R p)
            (λ t. rw (t, lt-ltb 0 (suc k) (omega arith)) (sym (or_r (seed p) true refl)))
            (λ t. rw t))

        left : (p : ℕ) → p < m → get_or (G (suc k)).S̃ p false ≡ (psi p && eqb (ring_of (suc k) p) 0)
        left p l =
            get_d_each 0 m (λ p. get_or (G k).S̃ p false && not (swallowed m touch psi low up within (G k) p)) p false l
            ∙ rw (zero-add, swallowed_is k s p l, s.left p l, after_suc m touch free seed k p l)
            (split (R p)
            (λ t. rw (t, ne_eqb (suc k) 0 (λ z. omega arith)) (and_false (psi p && eqb (ring_of k p) 0) ∙ sym (and_false (psi p))))
            (λ t. rw t (and_true (psi p && eqb (ring_of k p) 0))))

    pub same_always : (k : ℕ) → Same k
    unfolding growing_swallow
    same_always zero = record {
      region = λ p l. get_d_each 0 m (λ p. low p && up p) p false l ∙ rw (zero-add, after_zero m touch free seed p l) (sym (or_false (low p && up p)));
      left = λ p l. get_d_each 0 m psi p false l ∙ rw (zero-add, after_zero m touch free seed p l) (sym (and_true (psi p)));
    }
    same_always (suc k) = same_next k (same_always k)

    -- line 5 of Algorithm 1, "while C ≠ ∅": after m iterations C is empty, and where it is empty before, nothing changes any more
    pub swallow_ends : (p : ℕ) → p < m → swallowed m touch psi low up within (G m) p ≡ false
    swallow_ends p l = split (swallowed m touch psi low up within (G m) p)
        (λ t.
        let e : (eqb (ring_of m p) 0 && fitting m touch free seed m p) ≡ true = sym (swallowed_is m (same_always m) p l) ∙ t in
        absurd (quiet_end m touch free seed p l (new m touch free seed m p l (eqb-true _ _ (and_l _ (fitting m touch free seed m p) e)) (and_r (eqb (ring_of m p) 0) _ e))))
        (λ t. t)

    pub swallow_stops : (k : ℕ) → ((p : ℕ) → p < m → swallowed m touch psi low up within (G k) p ≡ false) → (p : ℕ) → p < m → get_or (G k).S̃ p false ≡ get_or (G m).S̃ p false
    swallow_stops k s p l =
        let quiet : Quiet m touch free seed k = λ x lx e.
        let (z, f) = born_bare m touch free seed k x lx e in
        clash (swallowed_is k (same_always k) x lx ∙ and_in _ _ (eq-eqb (ring_of k x) 0 z) f) (s x lx) in
        (same_always k).left p l ∙ rw (quiet_is m touch free seed k quiet) (sym ((same_always m).left p l))

    -- a ring is the number of the iteration that swallows the pixel
    pub iteration_ring : (k p : ℕ) → p < m → (ring_of m p ≡ suc k) ↔ (swallowed m touch psi low up within (G k) p ≡ true)
    iteration_ring k p l = (
      (λ e.
          let (z, f) = born_bare m touch free seed k p l (born m touch free seed m p k l e) in
          swallowed_is k (same_always k) p l ∙ and_in _ _ (eq-eqb (ring_of k p) 0 z) f),
      (λ t.
          let e : (eqb (ring_of k p) 0 && fitting m touch free seed k p) ≡ true = sym (swallowed_is k (same_always k) p l) ∙ t in
          let r : ring_of (suc k) p ≡ suc k = new m touch free seed k p l (eqb-true _ _ (and_l _ (fitting m touch free seed k p) e)) (and_r (eqb (ring_of k p) 0) _ e) in
          keep_to m touch free seed (suc k) m p k (omega (arith, crowd m touch free seed k p l r, count_le m (has m touch free seed (suc k)))) l r),
    )

-- Algorithm 2 -----------------------------------------------------------------------------------------------------------

-- each planned layer is the region subtraction of the layers and of the planned layer above, and the top one is empty
module _ (w h n : ℕ) (q : ℕ → ℕ) (part : Stack) where
  pub region_subtraction_lem : (i p : ℕ) → suc i < n → p < h * w →
      planned n part empty (rings_of w h n q part) i p
      ≡ region_subtraction w h (q i) (part i) (part (suc i)) (planned n part empty (rings_of w h n q part) (suc i)) p
  unfolding region_subtraction empty reached seeds
  region_subtraction_lem i p l lp =
      let P : Bool = planned n part empty (rings_of w h n q part) (suc i) p in
      let low : Plane = part i in
      let up : Plane = part (suc i) in
      let left = (same_always (h * w) (touch w) (shadow low up) low up (near w h (q i) low) (seed_barred w h n q part i) (h * w)).left p lp in
      planned_step w h n q part empty (rings_of w h n q part) i p l
      ∙ rw (rings_of_is w h n q part i p l lp, or_false) (ap (λ (x : Bool). (x || P) && not (part i p)) (sym left))

  pub top_empty : (p : ℕ) → planned n part empty (rings_of w h n q part) (n - 1) p ≡ false
  unfolding planned support_under top_of empty
  top_empty p = let z : n - 1 - (n - 1) ≡ 0 = omega arith in rw z
