-- Laws of sweeps that go on where the last wave stood.
use Rattle.std.specs.Prelude.{◌≡◌, List, [], ◌∷◌, Bool, false, ◌&&◌, length, get_or}
use Rattle.std.proofs.Math.Path.{refl, subst}
use Rattle.std.proofs.Common.{sym, ap, ap₂, ◌∙◌, arith}
use Rattle.std.proofs.Math.Bool.{true}
use Prim.Native.Nat.{ℕ, zero, suc, ◌+◌, ◌*◌, ◌≤◌, ◌<◌}
use Rattle.std.proofs.Math.Decide.{dec_le, ℕ_discrete}
use borrow.Author.Tests.{lt-ltb, le-ltb, ltb-true}
use Rattle.std.proofs.Math.Dec.{ltb}
use Rattle.rules.specs.Demands.{Joined, start, onward}
use Rattle.rules.specs.Images.{Plane}
use Rattle.rules.specs.Planning.{touch, touching, source, grown}
use Rattle.rules.specs.Tools.{bit, count}
use Rattle.laws.specs.Growing.{after, bounded, born, path, complete, crowd, has, keep_to, length_grown, source_ring}
use Rattle.laws.specs.Tests.{clash, and_l, and_r, some_out, count_le, count_mono}
use Rattle.sweeps.specs.Rings.{level, sum_by, one, Frame, Sweeping}

count_front : (n : ℕ) (f : ℕ → Bool) → count (suc n) f ≡ bit (f 0) + count n (λ x. f (suc x))
unfolding count
count_front zero f = refl
count_front (suc n) f = let t : count (suc n) f ≡ bit (f 0) + count n (λ x. f (suc x)) = count_front n f in omega arith

one_bit : (v : ℕ) → bit (ltb 0 v) ≡ one v
unfolding bit
one_bit zero = ap bit (le-ltb 0 0 (omega arith))
one_bit (suc v) = ap bit (lt-ltb 0 (suc v) (omega arith))

-- the rings of a plane, counted in two ways
count_sum : (l : List ℕ) → count (length l) (λ x. ltb 0 (get_or l x 0)) ≡ sum_by one l
unfolding sum_by count
count_sum [] = refl
count_sum (x ∷ l) = count_front (length l) (λ y. ltb 0 (get_or (x ∷ l) y 0)) ∙ ap₂ ◌+◌ (one_bit x) (count_sum l)

module _ (w h : ℕ) (free seed : Plane) (fr : Frame w h free seed) (k : ℕ) (some_wave : 0 < k) where
  ring_path : (p j : ℕ) → p < h * w → after (h * w) (touch w) free seed k p ≡ suc j → Joined (h * w) (touch w) free seed (suc j) p
  ring_path p j lp e = path (h * w) (touch w) free seed j p lp (born (h * w) (touch w) free seed k p j lp e)

  -- a pixel that is joined by at most k steps has its ring
  in_time : (p j : ℕ) → p < h * w → j ≤ k → Joined (h * w) (touch w) free seed j p → (0 < after (h * w) (touch w) free seed k p) × (after (h * w) (touch w) free seed k p ≤ j)
  in_time p j lp lj r =
      let (i, a, e) = complete (h * w) (touch w) free seed r lp in
      let t : after (h * w) (touch w) free seed k p ≡ suc i = keep_to (h * w) (touch w) free seed (suc i) k p i (omega arith) lp e in
      (omega arith, omega arith)

  has_later : (j : ℕ) → j ≤ k → (x : ℕ) → x < h * w → has (h * w) (touch w) free seed j x ≡ true → has (h * w) (touch w) free seed k x ≡ true
  unfolding has
  has_later j lj x lx e = go (after (h * w) (touch w) free seed j x) refl
    where
      go : (r : ℕ) → after (h * w) (touch w) free seed j x ≡ r → ltb 0 (after (h * w) (touch w) free seed k x) ≡ true
      go zero q = absurd (omega (arith, ltb-true 0 (after (h * w) (touch w) free seed j x) e))
      go (suc i) q = lt-ltb 0 (after (h * w) (touch w) free seed k x) (omega (arith, keep_to (h * w) (touch w) free seed j k x i lj lx q))

  counted : count (h * w) (has (h * w) (touch w) free seed k) ≡ sum_by one (grown (h * w) (touch w) free seed k)
  unfolding has
  counted = subst (λ (n : ℕ). count n (λ x. ltb 0 (get_or (grown (h * w) (touch w) free seed k) x 0)) ≡ sum_by one (grown (h * w) (touch w) free seed k)) (length_grown (h * w) (touch w) free seed k)
      (count_sum (grown (h * w) (touch w) free seed k))

  few_rings : (p : ℕ) → p < h * w → after (h * w) (touch w) free seed k p ≤ sum_by one (grown (h * w) (touch w) free seed k)
  few_rings p lp = go (after (h * w) (touch w) free seed k p) refl
    where
      go : (r : ℕ) → after (h * w) (touch w) free seed k p ≡ r → after (h * w) (touch w) free seed k p ≤ sum_by one (grown (h * w) (touch w) free seed k)
      go zero e = omega arith
      go (suc j) e =
          let b : suc j ≤ k = omega (arith, bounded (h * w) (touch w) free seed k p lp) in
          omega (
            arith,
            crowd (h * w) (touch w) free seed j p lp (born (h * w) (touch w) free seed k p j lp e),
            count_mono (h * w) (has (h * w) (touch w) free seed (suc j)) (has (h * w) (touch w) free seed k) (has_later (suc j) b),
            counted,
          )

  least_ring : (p : ℕ) → p < h * w → (j : ℕ) → Joined (h * w) (touch w) free seed j p → after (h * w) (touch w) free seed k p ≤ j
  least_ring p lp j r = elim (dec_le j k) [
    | yes a ↦ (in_time p j lp a r).1
    | no a ↦ omega (arith, bounded (h * w) (touch w) free seed k p lp)
  ]

  module _ (M : Plane)
      (out : (p q : ℕ) → p < h * w → q < h * w → free p ≡ true → after (h * w) (touch w) free seed k p ≡ 0 → touch w p q ≡ true → source seed (after (h * w) (touch w) free seed k) k q ≡ true → M q ≡ true)
      (in' : (q : ℕ) → q < h * w → M q ≡ true → 0 < after (h * w) (touch w) free seed k q) where
    tells : (q : ℕ) → q < h * w → M q ≡ false → (p : ℕ) → p < h * w → free p ≡ true → touch w p q ≡ true
        → (a : ℕ) → after (h * w) (touch w) free seed k p ≡ a → (b : ℕ) → after (h * w) (touch w) free seed k q ≡ b → level a ≤ level b + 1
    tells q lq e p lp f t zero ea zero eb = omega arith
    tells q lq e p lp f t zero ea (suc b) eb = elim (ℕ_discrete (suc b) k) [
      | yes x ↦
          let s : source seed (after (h * w) (touch w) free seed k) k q ≡ true =
          subst (λ (n : ℕ). source seed (after (h * w) (touch w) free seed k) n q ≡ true) x (source_ring seed (after (h * w) (touch w) free seed k) b q eb) in
          clash (out p q lp lq f ea t s) e
      | no x ↦
          let l : suc (suc b) ≤ k = omega (arith, bounded (h * w) (touch w) free seed k q lq) in
          absurd (omega (arith, in_time p (suc (suc b)) lp l (onward f lq t (ring_path q b lq eb))))
    ]
    tells q lq e p lp f t (suc a) ea zero eb =
        omega (arith, crowd (h * w) (touch w) free seed a p lp (born (h * w) (touch w) free seed k p a lp ea), count_le (h * w) (has (h * w) (touch w) free seed (suc a)), fr.room)
    tells q lq e p lp f t (suc a) ea (suc b) eb = omega (arith, least_ring p lp (suc (suc b)) (onward f lq t (ring_path q b lq eb)))

    sweeping_on : Sweeping w h free seed (λ p. ltb 0 (after (h * w) (touch w) free seed k p)) (grown (h * w) (touch w) free seed k) M
    unfolding touching
    sweeping_on = record {
      long = length_grown (h * w) (touch w) free seed k;
      path = λ p lp a. pos p lp (after (h * w) (touch w) free seed k p) refl a;
      few = few_rings;
      first = λ p lp f t.
          let (o, lo, u) = some_out (h * w) (λ o. touch w p o && seed o) t in
          lt-ltb 0 (after (h * w) (touch w) free seed k p) (in_time p 1 lp (omega arith) (start f lo (and_l (touch w p o) _ u) (and_r (touch w p o) _ u))).0;
      sure = λ p lp e. (ltb-true 0 (after (h * w) (touch w) free seed k p) e, least_ring p lp);
      told = λ q lq e p lp f t. tells q lq e p lp f t (after (h * w) (touch w) free seed k p) refl (after (h * w) (touch w) free seed k q) refl;
      marked = in';
    }
      where
        pos : (p : ℕ) → p < h * w → (r : ℕ) → after (h * w) (touch w) free seed k p ≡ r → 0 < r → Joined (h * w) (touch w) free seed r p
        pos p lp zero e a = absurd (omega arith)
        pos p lp (suc j) e a = ring_path p j lp e

  -- the same of any list that has these rings
  pub waves_sweeping : (l : List ℕ) → l ≡ grown (h * w) (touch w) free seed k → (M : Plane)
      → ((p q : ℕ) → p < h * w → q < h * w → free p ≡ true → get_or l p 0 ≡ 0 → touch w p q ≡ true → source seed (λ o. get_or l o 0) k q ≡ true → M q ≡ true)
      → ((q : ℕ) → q < h * w → M q ≡ true → 0 < get_or l q 0)
      → Sweeping w h free seed (λ p. ltb 0 (get_or l p 0)) l M
  waves_sweeping l e M =
      subst (λ (x : List ℕ).
      ((p q : ℕ) → p < h * w → q < h * w → free p ≡ true → get_or x p 0 ≡ 0 → touch w p q ≡ true → source seed (λ o. get_or x o 0) k q ≡ true → M q ≡ true)
      → ((q : ℕ) → q < h * w → M q ≡ true → 0 < get_or x q 0)
      → Sweeping w h free seed (λ p. ltb 0 (get_or x p 0)) x M) (sym e) (sweeping_on M)
