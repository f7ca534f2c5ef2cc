-- Line 3 of the chapter's Algorithm 4, and its step for each new anchor: GrowingSwallow(S, x, x, t) with the posts for x is what posts take away, but for
-- their own pixels. "001's pseudo-code never removes the post's own pixel; ours does."
use Rattle.std.specs.Prelude.{◌≡◌, refl, ◌&&◌, ◌||◌, eqb, get_or}
use Rattle.std.proofs.Math.Path.{sym, ap}
use Rattle.std.proofs.Common.{◌∙◌, zero-add, arith, eqb-true, eq-eqb}
use Rattle.std.proofs.Math.Bool.{Bool, true, false, not}
use mathlib.Core.List.{List}
use Prim.Native.Nat.{ℕ, zero, suc, ◌*◌, ◌<◌}
use Rattle.std.proofs.Math.ListN.{length}
use Rattle.std.proofs.Math.Seq.{ext_get_or}
use Rattle.rules.specs.Tools.{each}
use Rattle.rules.specs.Images.{Plane, Stack}
use Rattle.rules.specs.Planning.{shadow, seeds, near, reached, touch, Swallow, dilated, swallowed, growing_swallow}
use Rattle.rules.specs.Demands.{Joined, start, onward}
use Rattle.rules.specs.Posts.{left_by, gone_down, plane_of, listed, spared, scanned, region_subtraction_sla}
use Rattle.laws.specs.Tests.{split, bool_eq, and_l, and_r, and_in, or_r, or_false, and_true, and_false, length_each, get_d_each, each_same}
use Rattle.laws.specs.Growing.{ring, ring_joined, ring_fewest, joined_more}
use Rattle.laws.specs.Chapter.{same_always}
use Rattle.laws.specs.Soundness.{rings_of, rings_of_is, seed_barred}
use Rattle.laws.specs.PostLayers.{posts_at, posts_step, spared_is, spared_same, below_is}
use Rattle.laws.specs.Posts.{left_is, down_apart}

-- Seeds that are in Ψ themselves ----------------------------------------------------------------------------------------------

module _ (m : ℕ) (touch : ℕ → ℕ → Bool) (psi seed within : Plane) where
  -- Ψ without them
  abbrev bare : Plane
  bare p = psi p && not (seed p)

  abbrev G : ℕ → Swallow m touch psi seed seed within
  G = growing_swallow m touch psi seed seed within

  abbrev B : ℕ → Swallow m touch bare seed seed within
  B = growing_swallow m touch bare seed seed within

  free : (p : ℕ) → (psi p && within p) ≡ true → seed p ≡ false → (bare p && within p) ≡ true
  free p a f = rw f (rw (and_true (psi p)) a)

  -- an element of a list of m
  there : (f : Plane) (p : ℕ) → p < m → get_or (each 0 m f) p false ≡ f p
  there f p l = get_d_each 0 m f p false l ∙ rw zero-add

  -- Algorithm 1 goes on the same without them: they are in A from the first, and C has nothing of A
  record Alike (k : ℕ) : Type 0 where
    region : (G k).A ≡ (B k).A
    left : (p : ℕ) → p < m → get_or (B k).S̃ p false ≡ (get_or (G k).S̃ p false && not (seed p))
    own : (p : ℕ) → p < m → seed p ≡ true → (get_or (G k).A p false ≡ true) × (get_or (G k).S̃ p false ≡ psi p)

  same_swallowed : (k : ℕ) → Alike k → (p : ℕ) → p < m → swallowed m touch psi seed seed within (G k) p ≡ swallowed m touch bare seed seed within (B k) p
  unfolding swallowed dilated
  same_swallowed k s p l = split (seed p)
      (λ t. rw (← s.region, (s.own p l t).0))
      (λ f. rw (← s.region, s.left p l, f, and_true))

  none_own : (k : ℕ) → Alike k → (p : ℕ) → p < m → seed p ≡ true → swallowed m touch psi seed seed within (G k) p ≡ false
  unfolding swallowed
  none_own k s p l t = rw ((s.own p l t).0, and_false)

  alike : (k : ℕ) → Alike k
  unfolding growing_swallow
  alike zero = record {
    region = refl;
    left = λ p l. there bare p l ∙ ap (λ (b : Bool). b && not (seed p)) (sym (there psi p l));
    own = λ p l t. (there (λ p. seed p && seed p) p l ∙ rw t, there psi p l);
  }
  alike (suc k) = next (alike k)
    where
      C : ℕ → Bool
      C = swallowed m touch psi seed seed within (G k)

      next : Alike k → Alike (suc k)
      next s = record {
        region = each_same 0 m _ _ (λ p l. rw (zero-add, same_swallowed k s p l, s.region));
        left = λ p l.
            there (λ p. get_or (B k).S̃ p false && not (swallowed m touch bare seed seed within (B k) p)) p l
            ∙ rw (← same_swallowed k s p l, s.left p l) (swap (get_or (G k).S̃ p false) (not (seed p)) (not (C p)))
            ∙ ap (λ (b : Bool). b && not (seed p)) (sym (there (λ p. get_or (G k).S̃ p false && not (C p)) p l));
        own = λ p l t. (
          there (λ p. C p || get_or (G k).A p false) p l ∙ or_r (C p) _ (s.own p l t).0,
          there (λ p. get_or (G k).S̃ p false && not (C p)) p l ∙ rw (none_own k s p l t, and_true) (s.own p l t).1,
        );
      }
        where
          swap : (a b c : Bool) → (a && b && c) ≡ (a && c && b)
          swap true true c = sym (and_true c)
          swap true false c = sym (and_false c)
          swap false b c = refl

  -- the same of rings: a path that leaves a seed may begin at the last one that it goes through
  begins : {k p : ℕ} → p < m → seed p ≡ false → Joined m touch (λ o. psi o && within o) seed k p → (j : ℕ) × Joined m touch (λ o. bare o && within o) (λ o. seed o && seed o) j p
  begins lp f (start {p = p} {o = o} a lo t u) = (1, start (free p a f) lo t (and_in _ _ u u))
  begins lp f (onward {p = p} {o = o} a lo t r) = split (seed o)
      (λ u. (1, start (free p a f) lo t (and_in _ _ u u)))
      (λ z. let (j, x) = begins lo z r in (suc j, onward (free p a f) lo t x))

  ring_same : (p : ℕ) → p < m → seed p ≡ false → eqb (ring m touch (λ o. bare o && within o) (λ o. seed o && seed o) p) 0 ≡ eqb (ring m touch (λ o. psi o && within o) seed p) 0
  ring_same p l f = bool_eq _ _
      (λ e. bare_if (ring m touch (λ o. psi o && within o) seed p) refl (λ j x.
      let (i, y) = begins l f (ring_joined m touch (λ o. psi o && within o) seed p j l x) in
      omega (arith, ring_fewest m touch (λ o. bare o && within o) (λ o. seed o && seed o) l y, eqb-true (ring m touch (λ o. bare o && within o) (λ o. seed o && seed o) p) 0 e)))
      (λ e. bare_if (ring m touch (λ o. bare o && within o) (λ o. seed o && seed o) p) refl (λ j x.
      omega (
        arith,
        ring_fewest m touch (λ o. psi o && within o) seed l
            (joined_more m touch (λ o. bare o && within o) (λ o. psi o && within o) (λ o. seed o && seed o) seed
            (λ o lo t. and_in _ _ (and_l (psi o) _ (and_l (bare o) _ t)) (and_r (bare o) _ t)) (λ o lo t. and_l (seed o) _ t) l
            (ring_joined m touch (λ o. bare o && within o) (λ o. seed o && seed o) p j l x)),
        eqb-true (ring m touch (λ o. psi o && within o) seed p) 0 e,
      )))
    where
      bare_if : {x : ℕ} (r : ℕ) → x ≡ r → ((j : ℕ) → x ≡ suc j → ⊥) → eqb x 0 ≡ true
      bare_if {x} zero e n = eq-eqb x 0 e
      bare_if (suc r) e n = absurd (n r e)

  -- what Algorithm 1 leaves of Ψ, but for its seeds: the pixels that have no ring
  swallow_is : (p : ℕ) → p < m → (get_or (G m).S̃ p false && not (seed p)) ≡ (psi p && not (seed p) && eqb (ring m touch (λ o. psi o && within o) seed p) 0)
  swallow_is p l =
      sym ((alike m).left p l)
      ∙ (same_always m touch bare seed seed within (λ o e. rw (and_l (seed o) _ e, and_false)) m).left p l
      ∙ split (seed p) (λ t. rw (t, and_false)) (λ f. ap (λ (b : Bool). psi p && not (seed p) && b) (ring_same p l f))

  -- it never takes a seed away
  swallow_own : (p : ℕ) → p < m → seed p ≡ true → get_or (G m).S̃ p false ≡ psi p
  swallow_own p l t = ((alike m).own p l t).1

-- Posts -----------------------------------------------------------------------------------------------------------------------

module _ (w h q : ℕ) (rest posts : Plane) where
  -- the chapter's GrowingSwallow(S, x, x, t), for a plane S of pixels that remain, posts x and the bound q of the radius t
  abbrev pub left_over : List Bool
  left_over = (growing_swallow (h * w) (touch w) rest posts posts (near w h q posts) (h * w)).S̃

  -- what remains after posts is what it leaves, without the posts' own pixels
  pub posts_swallow : (p : ℕ) → p < h * w → plane_of (spared w h q rest posts) p ≡ (plane_of left_over p && not (posts p))
  posts_swallow p l = spared_is w h q rest posts p l ∙ sym (swallow_is (h * w) (touch w) rest posts (near w h q posts) p l)

  -- "001's pseudo-code never removes the post's own pixel"
  pub swallow_keeps_own : (p : ℕ) → p < h * w → posts p ≡ true → plane_of left_over p ≡ rest p
  swallow_keeps_own p l t = swallow_own (h * w) (touch w) rest posts (near w h q posts) p l t

  -- "For posts from above it makes no difference": they are never pixels that remain
  pub swallow_apart : ((p : ℕ) → p < h * w → posts p ≡ true → rest p ≡ false) → (p : ℕ) → p < h * w → plane_of (spared w h q rest posts) p ≡ plane_of left_over p
  swallow_apart apart p l =
      posts_swallow p l
      ∙ split (posts p)
      (λ t. rw (t, swallow_keeps_own p l t, apart p l t))
      (λ f. rw (f, and_true))

-- Algorithm 4 -------------------------------------------------------------------------------------------------------------------

module _ (m : ℕ) (touch : ℕ → ℕ → Bool) (psi low up within : Plane) where
  swallow_length : (k : ℕ) → length (growing_swallow m touch psi low up within k).S̃ ≡ m
  unfolding growing_swallow
  swallow_length zero = length_each 0 m psi
  swallow_length (suc k) = length_each 0 m _

module _ (w h n r : ℕ) (q : ℕ → ℕ) (part : Stack) where
  -- the posts A of the layers
  abbrev A : Stack
  A = posts_at w h n r part (rings_of w h n q part)

  module _ (i : ℕ) where
    -- 1: Ψ ← P(i+1) − P(i); the inner swallow of line 3, GrowingSwallow(Ψ, P(i), P(i+1), t)
    abbrev pub inner : List Bool
    inner = (growing_swallow (h * w) (touch w) (shadow (part i) (part (suc i))) (part i) (part (suc i)) (near w h (q i) (part i)) (h * w)).S̃

    -- 2: PA ← A(i+1) − P(i)
    abbrev pub PA : Plane
    PA = gone_down (part i) (A (suc i))

    -- 3: S̃ ← GrowingSwallow(GrowingSwallow(Ψ, P(i), P(i+1), t), PA, PA, ta)
    abbrev pub outer : List Bool
    outer = left_over w h r (plane_of inner) PA

  module _ (i : ℕ) (l : suc i < n) where
    -- what the overhang leaves is what the inner swallow leaves
    pub inner_is : (p : ℕ) → p < h * w → left_by part (rings_of w h n q part) i p ≡ plane_of (inner i) p
    unfolding reached seeds
    inner_is p lp =
        left_is w h n 0 part (rings_of w h n q part) i p
        ∙ rw (rings_of_is w h n q part i p l lp)
        (sym ((same_always (h * w) (touch w) (shadow (part i) (part (suc i))) (part i) (part (suc i)) (near w h (q i) (part i)) (seed_barred w h n q part i) (h * w)).left p lp))

    -- and what then remains is what the outer one leaves
    outer_is : spared w h r (left_by part (rings_of w h n q part) i) (PA i) ≡ outer i
    unfolding spared
    outer_is =
        let S : List Bool = spared w h r (plane_of (inner i)) (PA i) in
        let long : length S ≡ h * w = length_each 0 (h * w) _ in
        spared_same w h r (left_by part (rings_of w h n q part) i) (plane_of (inner i)) (PA i) (PA i) inner_is (λ p lp. refl)
        ∙ ext_get_or false S (outer i) (long ∙ sym (swallow_length (h * w) (touch w) (plane_of (inner i)) (PA i) (PA i) (near w h r (PA i)) (h * w)))
        (λ p lp. swallow_apart w h r (plane_of (inner i)) (PA i) (λ o lo t. sym (inner_is o lo) ∙ down_apart w h n r part (rings_of w h n q part) i o l lo t) p (omega arith))

    -- the posts of a layer are Algorithm 4's, by its lines
    pub region_subtraction_sla_lem : (p : ℕ) → p < h * w → A i p ≡ region_subtraction_sla w h (q i) r (part i) (part (suc i)) (A (suc i)) p
    unfolding region_subtraction_sla
    region_subtraction_sla_lem p lp =
        posts_step w h n r part (rings_of w h n q part) i l p lp
        ∙ below_is w h r (left_by part (rings_of w h n q part) i) (PA i) p lp
        ∙ rw outer_is (or_swap (PA i p) (listed (scanned w h r (h * w) (outer i)) p))
      where
        or_swap : (a b : Bool) → (a || b) ≡ (b || a)
        or_swap true b = sym (or_r b true refl)
        or_swap false b = sym (or_false b)
