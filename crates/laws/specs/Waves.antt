-- Growing in waves: one step more, steps over fewer pixels, and rings that are near by themselves.
use Rattle.std.specs.Prelude.{◌≡◌, Bool, false, not, ◌&&◌, cond, eqb, length}
use Rattle.std.proofs.Math.Path.{refl}
use Rattle.std.proofs.Common.{sym, ap, ap₂, subst, ◌∙◌, ext_get_or}
use Rattle.std.proofs.Math.Bool.{true}
use mathlib.Core.List.{List}
use Prim.Native.Nat.{ℕ, zero, suc, ◌*◌, ◌/◌, ◌%◌, ◌≤◌, ◌<◌}
use Rattle.std.proofs.Math.Nat.{mul-le-mul}
use native.Mathlib.Omega.{arith}
use borrow.Author.Tests.{eqb-true, eq-eqb, leb-true, le-leb}
use Rattle.std.proofs.Math.Dec.{leb}
use Rattle.std.proofs.Math.ListN.{get_or}
use Rattle.rules.specs.Demands.{Joined, start, onward}
use Rattle.rules.specs.Images.{Plane}
use Rattle.rules.specs.Planning.{source, touching, fits, grown, touch, near}
use Rattle.rules.specs.Reach.{square, apart, distance²}
use Rattle.laws.specs.Growing.{length_grown, fits_in, fits_out, fitting, after, after_suc, new, keep_to}
use Rattle.laws.specs.Tests.{bool_eq, and_l, and_r, and_in, some_in}

-- One wave -----------------------------------------------------------------------------------------------------------

and_swap : (a b c : Bool) → (a && b && c) ≡ (b && (a && c))
and_swap true b c = refl
and_swap false true c = refl
and_swap false false c = refl

-- the free pixels without a ring that touch what step k leans on get ring k + 1
pub grown_next : (m : ℕ) (t : ℕ → ℕ → Bool) (free seed : Plane) (k : ℕ) (l l' : List ℕ) → l ≡ grown m t free seed k → length l' ≡ m
    → ((p : ℕ) → p < m → get_or l' p 0 ≡ cond (free p && eqb (get_or l p 0) 0 && touching m t (source seed (λ o. get_or l o 0) k) p) (suc k) (get_or l p 0))
    → l' ≡ grown m t free seed (suc k)
unfolding fitting fits
grown_next m t free seed k l l' e long value =
    ext_get_or 0 l' (grown m t free seed (suc k)) (long ∙ sym (length_grown m t free seed (suc k)))
    (λ p lp.
    let lm : p < m = omega arith in
    value' p lm ∙ ap (λ (b : Bool). cond b (suc k) (after m t free seed k p)) (and_swap (free p) (eqb (after m t free seed k p) 0) _) ∙ sym (after_suc m t free seed k p lm))
  where
    value' : (p : ℕ) → p < m → get_or l' p 0 ≡ cond (free p && eqb (after m t free seed k p) 0 && touching m t (source seed (after m t free seed k) k) p) (suc k) (after m t free seed k p)
    value' = subst (λ (x : List ℕ). (p : ℕ) → p < m → get_or l' p 0 ≡ cond (free p && eqb (get_or x p 0) 0 && touching m t (source seed (λ o. get_or x o 0) k) p) (suc k) (get_or x p 0)) e value

pub joined_free : (m : ℕ) (t : ℕ → ℕ → Bool) (free seed : Plane) {k p : ℕ} → Joined m t free seed k p → free p ≡ true
joined_free m t free seed (start f l u s) = f
joined_free m t free seed (onward f l u r) = f

-- Fewer pixels -------------------------------------------------------------------------------------------------------

-- where g has only pixels of f, and all those that have a ring after k steps over f, k steps over g give the same rings
module _ (m : ℕ) (t : ℕ → ℕ → Bool) (f g seed : Plane) (sub : (p : ℕ) → p < m → g p ≡ true → f p ≡ true) (k : ℕ)
    (has : (p : ℕ) → p < m → 0 < get_or (grown m t f seed k) p 0 → g p ≡ true) where
  module _ (j : ℕ) (h : suc j ≤ k) (e : grown m t f seed j ≡ grown m t g seed j) where
    forth : (p : ℕ) → p < m → (eqb (after m t f seed j p) 0 && fitting m t f seed j p) ≡ true → (eqb (after m t g seed j p) 0 && fitting m t g seed j p) ≡ true
    unfolding fitting
    forth p lp b =
        let z : after m t f seed j p ≡ 0 = eqb-true _ 0 (and_l (eqb (after m t f seed j p) 0) _ b) in
        let fit : fitting m t f seed j p ≡ true = and_r (eqb (after m t f seed j p) 0) _ b in
        let old : after m t f seed k p ≡ suc j = keep_to m t f seed (suc j) k p j h lp (new m t f seed j p lp z fit) in
        let (a, (o, lo, u, s)) = fits_out m t f seed (after m t f seed j) j p fit in
        and_in _ _ (eq-eqb _ 0 (ap (λ (l : List ℕ). get_or l p 0) (sym e) ∙ z))
        (fits_in m t g seed (after m t g seed j) j p o (has p lp (omega (arith, old))) lo u (subst (λ (l : List ℕ). source seed (λ x. get_or l x 0) j o ≡ true) e s))

    back : (p : ℕ) → p < m → (eqb (after m t g seed j p) 0 && fitting m t g seed j p) ≡ true → (eqb (after m t f seed j p) 0 && fitting m t f seed j p) ≡ true
    unfolding fitting
    back p lp b =
        let z : after m t g seed j p ≡ 0 = eqb-true _ 0 (and_l (eqb (after m t g seed j p) 0) _ b) in
        let (a, (o, lo, u, s)) = fits_out m t g seed (after m t g seed j) j p (and_r (eqb (after m t g seed j p) 0) _ b) in
        and_in _ _ (eq-eqb _ 0 (ap (λ (l : List ℕ). get_or l p 0) e ∙ z))
        (fits_in m t f seed (after m t f seed j) j p o (sub p lp a) lo u (subst (λ (l : List ℕ). source seed (λ x. get_or l x 0) j o ≡ true) (sym e) s))

    within_next : grown m t f seed (suc j) ≡ grown m t g seed (suc j)
    within_next =
        ext_get_or 0 (grown m t f seed (suc j)) (grown m t g seed (suc j)) (length_grown m t f seed (suc j) ∙ sym (length_grown m t g seed (suc j)))
        (λ p l.
        let lp : p < m = omega (arith, length_grown m t f seed (suc j)) in
        after_suc m t f seed j p lp
        ∙ ap₂ (λ (b : Bool) (v : ℕ). cond b (suc j) v) (bool_eq _ _ (forth p lp) (back p lp)) (ap (λ (l : List ℕ). get_or l p 0) e)
        ∙ sym (after_suc m t g seed j p lp))

  pub grown_within : (j : ℕ) → j ≤ k → grown m t f seed j ≡ grown m t g seed j
  unfolding grown
  grown_within zero h = refl
  grown_within (suc j) h = within_next j h (grown_within j (omega arith))

-- Near by themselves -------------------------------------------------------------------------------------------------

-- one step further
further : (a b c n : ℕ) → apart a b ≤ 1 → apart b c ≤ n → apart a c ≤ suc n
unfolding apart
further a b c n u v = omega arith

beside : (w p o : ℕ) → touch w p o ≡ true → (apart (p / w) (o / w) ≤ 1) × (apart (p % w) (o % w) ≤ 1)
unfolding touch
beside w p o e =
    let b : (leb (apart (p / w) (o / w)) 1 && leb (apart (p % w) (o % w)) 1) ≡ true = and_l _ (not (eqb p o)) e in
    (leb-true _ 1 (and_l _ (leb (apart (p % w) (o % w)) 1) b), leb-true _ 1 (and_r (leb (apart (p / w) (o / w)) 1) _ b))

module _ (w h : ℕ) (free seed : Plane) where
  -- k steps lead k rows and k columns away, at the most
  seed_within : {k p : ℕ} → Joined (h * w) (touch w) free seed k p → (o : ℕ) × (o < h * w) × (seed o ≡ true) × (apart (p / w) (o / w) ≤ k) × (apart (p % w) (o % w) ≤ k)
  seed_within (start {p = p} {o = o} f lo t s) = let (r, c) = beside w p o t in (o, lo, s, r, c)
  seed_within (onward {k = k} {p = p} {o = x} f lx t j) =
      let (o, lo, s, r, c) = seed_within j in
      let (r₁, c₁) = beside w p x t in
      (o, lo, s, further (p / w) (x / w) (o / w) k r₁ r, further (p % w) (x % w) (o % w) k c₁ c)

  -- so what is joined by so few steps is near, where seeds are part below
  pub near_itself : (q n : ℕ) (low : Plane) → 2 * (n * n) ≤ q → ((o : ℕ) → o < h * w → seed o ≡ true → low o ≡ true)
      → {k p : ℕ} → k ≤ n → Joined (h * w) (touch w) free seed k p → near w h q low p ≡ true
  unfolding near distance² square
  near_itself q n low lq below {k} {p} lk j =
      let (o, lo, s, r, c) = seed_within j in
      let r' : apart (p / w) (o / w) ≤ n = omega arith in
      let c' : apart (p % w) (o % w) ≤ n = omega arith in
      some_in (h * w) (λ o. low o && leb (distance² w p o) q) o lo (and_in (low o) _ (below o lo s) (le-leb _ q (omega (arith, mul-le-mul r' r', mul-le-mul c' c'))))
