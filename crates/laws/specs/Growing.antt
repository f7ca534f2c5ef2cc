-- What growing comes to: a ring is the fewest steps from a seed. Over m pixels, with any neighbours, any free pixels and any seeds.
use Rattle.std.specs.Prelude.{◌≡◌, Bool, false, ◌&&◌, ◌||◌, List, ◌⊎◌, eqb, get_or, length}
use Rattle.std.proofs.Math.Path.{refl}
use Rattle.std.proofs.Common.{sym, ◌∙◌, inl, inr, suc-add, ext_get_or}
use Rattle.std.proofs.Math.Bool.{true, cond}
use Prim.Native.Nat.{ℕ, zero, suc, ◌+◌, ◌-◌, ◌≤◌, ◌<◌}
use Rattle.std.proofs.Math.Nat.{zero-add}
use native.Mathlib.Omega.{arith}
use Rattle.std.proofs.Math.Dec.{ltb}
use borrow.Author.Tests.{eqb-true, ltb-true, eq-eqb, ne_eqb, lt-ltb, le-ltb}
use Rattle.rules.specs.Tools.{count}
use Rattle.rules.specs.Images.{Plane}
use Rattle.rules.specs.Planning.{source, touching, fits, grow, grown}
use Rattle.rules.specs.Demands.{Joined, start, onward}
use Rattle.laws.specs.Tests.{split, clash, and_l, and_r, and_in, some_in, some_out, length_each, get_d_each, count_le, count_more}

-- What a ring leans on ------------------------------------------------------------------------------------------------

pub source_seed : (seed : Plane) (ring : ℕ → ℕ) (o : ℕ) → seed o ≡ true → ring o ≡ 0 → source seed ring 0 o ≡ true
unfolding source
source_seed seed ring o s e = and_in _ _ (eq-eqb (ring o) 0 e) s

pub seed_source : (seed : Plane) (ring : ℕ → ℕ) (o : ℕ) → source seed ring 0 o ≡ true → (seed o ≡ true) × (ring o ≡ 0)
unfolding source
seed_source seed ring o e = (and_r (eqb (ring o) 0) (seed o) e, eqb-true _ _ (and_l (eqb (ring o) 0) (seed o) e))

pub source_ring : (seed : Plane) (ring : ℕ → ℕ) (k o : ℕ) → ring o ≡ suc k → source seed ring (suc k) o ≡ true
unfolding source
source_ring seed ring k o e = and_in _ _ (eq-eqb (ring o) (suc k) e) (rw (lt-ltb 0 (suc k) (omega arith)))

pub ring_source : (seed : Plane) (ring : ℕ → ℕ) (k o : ℕ) → source seed ring (suc k) o ≡ true → ring o ≡ suc k
unfolding source
ring_source seed ring k o e = eqb-true _ _ (and_l (eqb (ring o) (suc k)) (ltb 0 (suc k) || seed o) e)

pub length_grown : (m : ℕ) (t : ℕ → ℕ → Bool) (free seed : Plane) (k : ℕ) → length (grown m t free seed k) ≡ m
unfolding grown grow
length_grown m t free seed zero = length_each 0 m _
length_grown m t free seed (suc k) = length_each 0 m _

module _ (m : ℕ) (touch : ℕ → ℕ → Bool) (free seed : Plane) where
  abbrev pub Path : ℕ → ℕ → Type 0
  Path = Joined m touch free seed

  -- every ring of the plane is one that its pixel may carry
  abbrev pub Right : (ℕ → ℕ) → Type 0
  Right ring = (p j : ℕ) → p < m → ring p ≡ suc j → fits m touch free seed ring j p ≡ true

  pub fits_in : (ring : ℕ → ℕ) (k p o : ℕ) → free p ≡ true → o < m → touch p o ≡ true → source seed ring k o ≡ true → fits m touch free seed ring k p ≡ true
  unfolding fits touching
  fits_in ring k p o f l t s = and_in _ _ f (some_in m (λ x. touch p x && source seed ring k x) o l (and_in _ _ t s))

  pub fits_out : (ring : ℕ → ℕ) (k p : ℕ) → fits m touch free seed ring k p ≡ true → (free p ≡ true) × ((o : ℕ) × (o < m) × (touch p o ≡ true) × (source seed ring k o ≡ true))
  unfolding fits touching
  fits_out ring k p e =
      let (o, l, s) = some_out m (λ x. touch p x && source seed ring k x) (and_r (free p) _ e) in
      (and_l (free p) _ e, (o, l, and_l (touch p o) _ s, and_r (touch p o) _ s))

  -- a chain of rings that the checker takes is a path to a seed: so it cannot lean on itself
  pub chain : (ring : ℕ → ℕ) → Right ring → (j p : ℕ) → p < m → ring p ≡ suc j → Path (suc j) p
  chain ring r zero p l e = let (f, (o, lo, t, s)) = fits_out ring zero p (r p zero l e) in start f lo t (seed_source seed ring o s).0
  chain ring r (suc j) p l e = let (f, (o, lo, t, s)) = fits_out ring (suc j) p (r p (suc j) l e) in onward f lo t (chain ring r j o lo (ring_source seed ring j o s))

  -- The steps of growing ----------------------------------------------------------------------------------------------

  -- the ring of pixel p after k steps
  abbrev pub after : ℕ → ℕ → ℕ
  after k p = get_or (grown m touch free seed k) p 0

  unfoldable pub fitting : ℕ → ℕ → Bool
  fitting k p = fits m touch free seed (after k) k p

  pub after_zero : (p : ℕ) → p < m → after zero p ≡ 0
  unfolding grown
  after_zero p l = get_d_each 0 m (λ x. 0) p 0 l

  pub after_suc : (k p : ℕ) → p < m → after (suc k) p ≡ cond (eqb (after k p) 0 && fitting k p) (suc k) (after k p)
  unfolding grown grow fitting
  after_suc k p l = get_d_each 0 m (λ x. cond (eqb (after k x) 0 && fitting k x) (suc k) (after k x)) p 0 l ∙ rw zero-add

  -- a ring stays
  pub keep : (k p j : ℕ) → p < m → after k p ≡ suc j → after (suc k) p ≡ suc j
  keep k p j l e = after_suc k p l ∙ rw (ne_eqb (after k p) 0 (λ z. omega arith), e)

  pub keep_long : (d k p j : ℕ) → p < m → after k p ≡ suc j → after (d + k) p ≡ suc j
  keep_long zero k p j l e = rw zero-add e
  keep_long (suc d) k p j l e = rw suc-add (keep (d + k) p j l (keep_long d k p j l e))

  pub keep_to : (k n p j : ℕ) → k ≤ n → p < m → after k p ≡ suc j → after n p ≡ suc j
  keep_to k n p j h l e = let z : n - k + k ≡ n = omega arith in rw z at (keep_long (n - k) k p j l e)

  pub new : (k p : ℕ) → p < m → after k p ≡ 0 → fitting k p ≡ true → after (suc k) p ≡ suc k
  new k p l z f = after_suc k p l ∙ rw (eq-eqb (after k p) 0 z, f)

  -- where a ring comes from
  pub data From (k p j : ℕ) : Type 0 where
    old : after k p ≡ suc j → From k p j
    fresh : j ≡ k → after k p ≡ 0 → fitting k p ≡ true → From k p j

  pub from : (k p j : ℕ) → p < m → after (suc k) p ≡ suc j → From k p j
  from k p j l e =
      split (eqb (after k p) 0)
      (λ z. split (fitting k p)
      (λ f. fresh (let h : after (suc k) p ≡ suc k = new k p l (eqb-true _ _ z) f in omega arith) (eqb-true _ _ z) f)
      (λ f. old (sym (rw (z, f) at (after_suc k p l)) ∙ e)))
      (λ z. old (sym (rw z at (after_suc k p l)) ∙ e))

  pub bounded : (k p : ℕ) → p < m → after k p ≤ k
  bounded zero p l = omega (arith, after_zero p l)
  bounded (suc k) p l = go (bounded k p l) (after (suc k) p) refl
    where
      go : after k p ≤ k → (r : ℕ) → after (suc k) p ≡ r → after (suc k) p ≤ suc k
      go b zero e = omega arith
      go b (suc j) e = elim (from k p j l e) [ old q ↦ omega arith | fresh q z f ↦ omega arith ]

  -- a ring is given at its own step
  pub born : (k p j : ℕ) → p < m → after k p ≡ suc j → after (suc j) p ≡ suc j
  born zero p j l e = absurd (omega (arith, after_zero p l))
  born (suc k) p j l e = elim (from k p j l e) [ old q ↦ born k p j l q | fresh q z f ↦ rw (← q) at e ]

  pub born_bare : (k p : ℕ) → p < m → after (suc k) p ≡ suc k → (after k p ≡ 0) × (fitting k p ≡ true)
  born_bare k p l e = elim (from k p k l e) [ old q ↦ absurd (omega (arith, bounded k p l)) | fresh q z f ↦ (z, f) ]

  -- Rings are paths, and the fewest steps -----------------------------------------------------------------------------

  pub path : (j p : ℕ) → p < m → after (suc j) p ≡ suc j → Path (suc j) p
  unfolding fitting
  path zero p l e = let (f, (o, lo, t, s)) = fits_out (after 0) 0 p (born_bare 0 p l e).1 in start f lo t (seed_source seed (after 0) o s).0
  path (suc j) p l e =
      let (f, (o, lo, t, s)) = fits_out (after (suc j)) (suc j) p (born_bare (suc j) p l e).1 in
      onward f lo t (path j o lo (ring_source seed (after (suc j)) j o s))

  -- a pixel that is joined by k steps has a ring of at most k, after as many steps as its ring says
  pub complete : {k p : ℕ} → Path k p → p < m → (i : ℕ) × (suc i ≤ k) × (after (suc i) p ≡ suc i)
  unfolding fitting
  complete (start {p = p} {o = o} f lo t s) l =
      (0, omega arith, new 0 p l (after_zero p l) (fits_in (after 0) 0 p o f lo t (source_seed seed (after 0) o s (after_zero o lo))))
  complete (onward {k = k} {p = p} {o = o} f lo t r) l = go (complete r lo)
    where
      go : (i : ℕ) × (suc i ≤ k) × (after (suc i) o ≡ suc i) → (i : ℕ) × (suc i ≤ suc k) × (after (suc i) p ≡ suc i)
      go (i, h, e) = pick (after (suc i) p) refl
        where
          pick : (r : ℕ) → after (suc i) p ≡ r → (i : ℕ) × (suc i ≤ suc k) × (after (suc i) p ≡ suc i)
          pick zero z = (suc i, omega arith, new (suc i) p l z (fits_in (after (suc i)) (suc i) p o f lo t (source_ring seed (after (suc i)) i o e)))
          pick (suc x) z = (x, omega (arith, bounded (suc i) p l), born (suc i) p x l z)

  -- each step that gives a ring raises the number of pixels with a ring, so there are at most m steps
  unfoldable pub has : ℕ → ℕ → Bool
  has k p = ltb 0 (after k p)

  has_keep : (k x : ℕ) → x < m → has k x ≡ true → has (suc k) x ≡ true
  unfolding has
  has_keep k x l h = go (after k x) refl
    where
      go : (r : ℕ) → after k x ≡ r → ltb 0 (after (suc k) x) ≡ true
      go zero e = absurd (omega (arith, ltb-true 0 (after k x) h))
      go (suc j) e = lt-ltb 0 (after (suc k) x) (omega (arith, keep k x j l e))

  more : (k p : ℕ) → p < m → after (suc k) p ≡ suc k → suc (count m (has k)) ≤ count m (has (suc k))
  unfolding has
  more k p l e =
      let (z, f) = born_bare k p l e in
      count_more m (has k) (has (suc k)) (has_keep k) p l (le-ltb 0 (after k p) (omega arith)) (lt-ltb 0 (after (suc k) p) (omega arith))

  pub crowd : (k p : ℕ) → p < m → after (suc k) p ≡ suc k → suc k ≤ count m (has (suc k))
  unfolding fitting
  crowd zero p l e = omega (arith, more zero p l e)
  crowd (suc k) p l e =
      let (f, (o, lo, t, s)) = fits_out (after (suc k)) (suc k) p (born_bare (suc k) p l e).1 in
      omega (arith, more (suc k) p l e, crowd k o lo (ring_source seed (after (suc k)) k o s))

  -- the rings after m steps: 0 or the fewest steps to a seed
  abbrev pub ring : ℕ → ℕ
  ring = after m

  pub ring_joined : (p j : ℕ) → p < m → ring p ≡ suc j → Path (suc j) p
  ring_joined p j l e = path j p l (born m p j l e)

  pub ring_fewest : {k p : ℕ} → p < m → Path k p → (0 < ring p) × (ring p ≤ k)
  ring_fewest {k} {p} l r =
      let (i, h, e) = complete r l in
      let q : ring p ≡ suc i = keep_to (suc i) m p i (omega (arith, crowd i p l e, count_le m (has (suc i)))) l e in
      (omega arith, omega arith)

  -- "until none is added": one step more than there are pixels gives no ring
  pub growing_ends : (p : ℕ) → p < m → after (suc m) p ≡ after m p
  growing_ends p l = go (after (suc m) p) refl
    where
      go : (r : ℕ) → after (suc m) p ≡ r → after (suc m) p ≡ after m p
      go zero e = split (eqb (after m p) 0) (λ z. e ∙ sym (eqb-true _ _ z)) (λ z. rw z at (after_suc m p l))
      go (suc j) e = elim (from m p j l e) [
        | old q ↦ e ∙ sym q
        | fresh q z f ↦ absurd (omega (arith, crowd m p l (new m p l z f), count_le m (has (suc m))))
      ]

  -- What the checker takes ---------------------------------------------------------------------------------------------

  -- where no seed is free, a seed has no ring, and the rings after any number of steps may all be carried
  module _ (barred : (o : ℕ) → seed o ≡ true → free o ≡ false) where
    pub seed_bare : (k o : ℕ) → o < m → seed o ≡ true → after k o ≡ 0
    unfolding fitting
    seed_bare k o l s = go (after k o) refl
      where
        go : (r : ℕ) → after k o ≡ r → after k o ≡ 0
        go zero e = e
        go (suc j) e = clash (fits_out (after j) j o (born_bare j o l (born k o j l e)).1).0 (barred o s)

    pub after_right : (k : ℕ) → Right (after k)
    unfolding fitting
    after_right k p zero l e =
        let (f, (o, lo, t, s)) = fits_out (after 0) 0 p (born_bare 0 p l (born k p 0 l e)).1 in
        let z : seed o ≡ true = (seed_source seed (after 0) o s).0 in
        fits_in (after k) 0 p o f lo t (source_seed seed (after k) o z (seed_bare k o lo z))
    after_right k p (suc j) l e =
        let (f, (o, lo, t, s)) = fits_out (after (suc j)) (suc j) p (born_bare (suc j) p l (born k p (suc j) l e)).1 in
        let z : after k o ≡ suc j = keep_to (suc j) k o j (omega (arith, bounded k p l)) lo (ring_source seed (after (suc j)) j o s) in
        fits_in (after k) (suc j) p o f lo t (source_ring seed (after k) j o z)

    -- a ring is less than the number of pixels: a seed has none
    pub ring_less : (p : ℕ) → p < m → ring p < m
    unfolding has
    ring_less p l = go (ring p) refl
      where
        seed_of : {k p : ℕ} → Path k p → (o : ℕ) × (o < m) × (seed o ≡ true)
        seed_of (start {o = o} f lo t u) = (o, lo, u)
        seed_of (onward f lo t r) = seed_of r

        go : (r : ℕ) → ring p ≡ r → ring p < m
        go zero e = omega arith
        go (suc j) e =
            let (o, lo, u) = seed_of (ring_joined p j l e) in
            let z : after (suc j) o ≡ 0 = seed_bare (suc j) o lo u in
            omega (
              arith,
              crowd j p l (born m p j l e),
              count_le m (λ x. true),
              count_more m (has (suc j)) (λ x. true) (λ x lx h. refl) o lo (le-ltb 0 (after (suc j) o) (omega arith)) refl,
            )

  -- it is enough that two planes have the same rings
  pub right_same : (f g : ℕ → ℕ) → ((p : ℕ) → p < m → f p ≡ g p) → Right f → Right g
  right_same f g s r p j l e =
      let (free-p, (o, lo, t, u)) = fits_out f j p (r p j l (s p l ∙ e)) in
      fits_in g j p o free-p lo t (same j o lo u)
    where
      same : (k o : ℕ) → o < m → source seed f k o ≡ true → source seed g k o ≡ true
      same zero o lo u = let (a, b) = seed_source seed f o u in source_seed seed g o a (sym (s o lo) ∙ b)
      same (suc k) o lo u = source_ring seed g k o (sym (s o lo) ∙ ring_source seed f k o u)

-- Growing looks only at the pixels that exist ------------------------------------------------------------------------

-- what is joined stays joined where more is free and more are seeds
module _ (m : ℕ) (t : ℕ → ℕ → Bool) (f g s r : Plane) (ef : (p : ℕ) → p < m → f p ≡ true → g p ≡ true) (es : (p : ℕ) → p < m → s p ≡ true → r p ≡ true) where
  pub joined_more : {k p : ℕ} → p < m → Joined m t f s k p → Joined m t g r k p
  joined_more lp (start {p = p} {o = o} a lo b d) = start (ef p lp a) lo b (es o lo d)
  joined_more lp (onward {k = k} {p = p} {o = o} a lo b d) = onward (ef p lp a) lo b (joined_more lo d)

module _ (m : ℕ) (t : ℕ → ℕ → Bool) (f g s r : Plane) (ef : (p : ℕ) → p < m → f p ≡ g p) (es : (p : ℕ) → p < m → s p ≡ r p) where
  joined_same : {k p : ℕ} → p < m → Joined m t f s k p → Joined m t g r k p
  joined_same = joined_more m t f g s r (λ p l a. sym (ef p l) ∙ a) (λ p l a. sym (es p l) ∙ a)

  grown_le : (p : ℕ) → p < m → 0 < get_or (grown m t f s m) p 0 → (0 < get_or (grown m t g r m) p 0) × (get_or (grown m t g r m) p 0 ≤ get_or (grown m t f s m) p 0)
  grown_le p lp a = go (get_or (grown m t f s m) p 0) refl
    where
      go : (v : ℕ) → get_or (grown m t f s m) p 0 ≡ v → (0 < get_or (grown m t g r m) p 0) × (get_or (grown m t g r m) p 0 ≤ get_or (grown m t f s m) p 0)
      go zero e = absurd (omega arith)
      go (suc v) e = let (x, y) = ring_fewest m t g r lp (joined_same lp (ring_joined m t f s p v lp e)) in (x, omega arith)

pub grown_same : (m : ℕ) (t : ℕ → ℕ → Bool) (f g s r : Plane) → ((p : ℕ) → p < m → f p ≡ g p) → ((p : ℕ) → p < m → s p ≡ r p) → grown m t f s m ≡ grown m t g r m
grown_same m t f g s r ef es =
    ext_get_or 0 (grown m t f s m) (grown m t g r m) (length_grown m t f s m ∙ sym (length_grown m t g r m))
    (λ p l. same p (omega (arith, length_grown m t f s m)) (get_or (grown m t f s m) p 0) refl (get_or (grown m t g r m) p 0) refl)
  where
    same : (p : ℕ) → p < m → (a : ℕ) → get_or (grown m t f s m) p 0 ≡ a → (b : ℕ) → get_or (grown m t g r m) p 0 ≡ b → get_or (grown m t f s m) p 0 ≡ get_or (grown m t g r m) p 0
    same p lp zero x zero y = x ∙ sym y
    same p lp zero x (suc b) y = absurd (omega (arith, grown_le m t g f r s (λ p l. sym (ef p l)) (λ p l. sym (es p l)) p lp (omega arith)))
    same p lp (suc a) x zero y = absurd (omega (arith, grown_le m t f g s r ef es p lp (omega arith)))
    same p lp (suc a) x (suc b) y = omega (arith, grown_le m t f g s r ef es p lp (omega arith), grown_le m t g f r s (λ p l. sym (ef p l)) (λ p l. sym (es p l)) p lp (omega arith))

-- without a seed, or without a free pixel, there is no ring
module _ (m : ℕ) (t : ℕ → ℕ → Bool) (free seed : Plane) where
  no_path : {C : Type 0} → ((p : ℕ) → p < m → free p ≡ false) ⊎ ((p : ℕ) → p < m → seed p ≡ false) → {k p : ℕ} → p < m → Joined m t free seed k p → C
  no_path (inl e) lp (start {p = p} f l u s) = clash f (e p lp)
  no_path (inl e) lp (onward {p = p} f l u r) = clash f (e p lp)
  no_path (inr e) lp (start {o = o} f l u s) = clash s (e o l)
  no_path (inr e) lp (onward f l u r) = no_path (inr e) l r

  pub grown_none : (l : List ℕ) → length l ≡ m → ((p : ℕ) → p < m → get_or l p 0 ≡ 0) → ((p : ℕ) → p < m → free p ≡ false) ⊎ ((p : ℕ) → p < m → seed p ≡ false) → l ≡ grown m t free seed m
  grown_none l long zeros e = ext_get_or 0 l (grown m t free seed m) (long ∙ sym (length_grown m t free seed m))
      (λ p h. zeros p (omega arith) ∙ sym (none p (omega arith) (get_or (grown m t free seed m) p 0) refl))
    where
      none : (p : ℕ) → p < m → (v : ℕ) → get_or (grown m t free seed m) p 0 ≡ v → get_or (grown m t free seed m) p 0 ≡ 0
      none p lp zero x = x
      none p lp (suc v) x = no_path e lp (ring_joined m t free seed p v lp x)
