-- Rings that are near by themselves: a pixel of ring k is within k rows and k columns of a seed, so while 2 k² is at most the
-- bound nothing need be measured, where every ring has one to lean on.
use Rattle.std.specs.Prelude.{◌≡◌, true, ◌&&◌, ltb}
use Rattle.std.proofs.Math.Path.{refl}
use Rattle.std.proofs.Math.Bool.{false}
use Prim.Native.Nat.{ℕ, zero, suc, ◌-◌, ◌*◌, ◌/◌, ◌<◌, ◌≤◌}
use native.Mathlib.Omega.{arith}
use borrow.Author.Tests.{lt-ltb, le-ltb, ltb-true, ltb-false, eq-eqb}
use Rattle.rules.specs.Demands.{Joined, start, onward}
use Rattle.rules.specs.Images.{Plane}
use Rattle.rules.specs.Reach.{square, root, most_bound}
use Rattle.rules.specs.Planning.{shadow, near, seeds, reached, source, touch, touching, fits}
use Rattle.laws.specs.Tests.{split, clash, and_l, and_r, and_in, not_out, some_in}
use Rattle.laws.specs.Discs.{root_low, root_small}
use Rattle.laws.specs.Growing.{seed_source, source_ring, ring_source}
use Rattle.laws.specs.Waves.{near_itself}
use Rattle.places.specs.Search.{bad_here}
use Rattle.quick.specs.Sureness.{Beside, SoundRing}

-- the pixel touches one that its ring may lean on
abbrev leans : ℕ → ℕ → Plane → Plane → (ℕ → ℕ) → Plane
leans w h low up ring p = touching (h * w) (touch w) (source (seeds low up) ring (ring p - 1)) p

module _ (w h q t : ℕ) (low up : Plane) (ring : ℕ → ℕ) (all : (p : ℕ) → p < h * w → SoundRing w h low up ring p) where
  -- a seed carries no ring, for it lies in no shadow
  seed_bare : (o : ℕ) → o < h * w → seeds low up o ≡ true → ring o ≡ 0
  unfolding seeds shadow
  seed_bare o l e = split (ltb 0 (ring o))
      (λ b. clash (and_l (low o) (up o) e) (not_out (low o) (and_r (up o) _ ((all o l).free (ltb-true 0 (ring o) b)))))
      (λ b. omega (arith, ltb-false 0 (ring o) b))

  leaning : (p j : ℕ) → p < h * w → ring p ≡ suc j → (o : ℕ) × (o < h * w) × (touch w p o ≡ true) × (source (seeds low up) ring j o ≡ true)
  unfolding source
  leaning p zero l e =
      let b : Beside w h (seeds low up) p = (all p l).first (omega arith) in
      (b.other, b.inside, b.touches, and_in _ _ (eq-eqb (ring b.other) 0 (seed_bare b.other b.inside b.is)) b.is)
  leaning p (suc j) l e =
      let (o, lo, t, r) = (all p l).leans (omega arith) in
      (o, lo, t, source_ring (seeds low up) ring j o (omega arith))

  leans_on : (p j : ℕ) → p < h * w → ring p ≡ suc j → leans w h low up ring p ≡ true
  unfolding touching
  leans_on p j l e =
      let (o, lo, t, s) = leaning p j l e in
      let z : ring p - 1 ≡ j = omega arith in
      rw z (some_in (h * w) (λ o. touch w p o && source (seeds low up) ring j o) o lo (and_in (touch w p o) _ t s))

  -- a chain of rings is a path over the shadow
  path : (j p : ℕ) → p < h * w → ring p ≡ suc j → Joined (h * w) (touch w) (shadow low up) (seeds low up) (suc j) p
  path zero p l e =
      let (o, lo, b, s) = leaning p zero l e in
      start ((all p l).free (omega arith)) lo b (seed_source (seeds low up) ring o s).0
  path (suc j) p l e =
      let (x, lx, b, s) = leaning p (suc j) l e in
      onward ((all p l).free (omega arith)) lx b (path j x lx (ring_source (seeds low up) ring j x s))

  few_near : 2 * (t * t) ≤ q → (p j : ℕ) → p < h * w → ring p ≡ suc j → ring p ≤ t → near w h q low p ≡ true
  unfolding seeds
  few_near lq p j l e b = near_itself w h (shadow low up) (seeds low up) q t low lq (λ o lo s. and_l (low o) (up o) s) (omega arith) (path j p l e)

  -- so nothing is bad, where all rings are near
  near_good : ((p j : ℕ) → p < h * w → ring p ≡ suc j → near w h q low p ≡ true) → (p : ℕ) → p < h * w → bad_here w h q low up ring p ≡ false
  unfolding bad_here fits reached
  near_good right p l = go (ring p) refl
    where
      go : (r : ℕ) → ring p ≡ r → bad_here w h q low up ring p ≡ false
      go zero e = rw (le-ltb 0 (ring p) (omega arith))
      go (suc j) e = rw (lt-ltb 0 (ring p) (omega arith), (all p l).free (omega arith), right p j l e, leans_on p j l e)

  -- a ring is near by itself, or was seen to be near
  pub sound_good : 2 * (t * t) ≤ q → ((p : ℕ) → p < h * w → t < ring p → near w h q low p ≡ true) → (p : ℕ) → p < h * w → bad_here w h q low up ring p ≡ false
  sound_good lq close = near_good (λ p j l e. split (ltb t (ring p)) (λ b. close p l (ltb-true t (ring p) b)) (λ b. few_near lq p j l e (ltb-false t (ring p) b)))

-- a plane without rings has no bad one
pub no_rings : (w h q : ℕ) (low up : Plane) (ring : ℕ → ℕ) (p : ℕ) → ring p ≤ 0 → bad_here w h q low up ring p ≡ false
unfolding bad_here
no_rings w h q low up ring p l = rw (le-ltb 0 (ring p) l)

-- the largest ring that is near by itself: the root of half the bound
pub trust_small : (q r : ℕ) → q ≤ most_bound → r ≡ root (q / 2) → r ≤ 32
trust_small q r l e = rw e (root_small (q / 2) (omega arith))

pub trust_fits : (q r t : ℕ) → r ≡ root (q / 2) → t ≡ r → 2 * (t * t) ≤ q
unfolding square
trust_fits q r t er et = let s : t * t ≤ q / 2 = rw (et, er) (root_low (q / 2)) in omega arith
