-- Closing by a disc on an image contains its input, keeps inclusion and changes nothing the second time.
use Rattle.std.specs.Prelude.{◌≡◌, ◌↔◌, true, false, ◌&&◌, ℕ, ◌-◌, ◌*◌, ◌/◌, ◌%◌, ◌≤◌, ◌<◌}
use Rattle.std.proofs.Common.{sym, ap, subst, ◌∙◌, add_comm, arith}
use Rattle.std.proofs.Math.Bool.{not}
use Rattle.std.proofs.Math.Dec.{leb}
use borrow.Author.Tests.{le-leb, leb-true}
use Rattle.rules.specs.Images.{Plane}
use Rattle.rules.specs.Reach.{apart, square, distance²}
use Rattle.rules.specs.Planning.{near}
use Rattle.rules.specs.Cleaning.{eroded, closed}
use Rattle.laws.specs.Tests.{split, clash, bool_eq, and_l, and_r, and_in, not_in, not_out, some_in, some_out}
use Rattle.laws.specs.Neighbours.{distance_none}

-- distances are the same from both ends
distance_symmetric : (w p o : ℕ) → distance² w p o ≡ distance² w o p
unfolding distance² apart
distance_symmetric w p o = rw (add_comm (p / w - o / w), add_comm (p % w - o % w))

distance_self : (w p q : ℕ) → distance² w p p ≤ q
unfolding distance² apart square
distance_self w p q =
    let r : p / w - p / w ≡ 0 = omega arith in
    let c : p % w - p % w ≡ 0 = omega arith in
    rw (r, c) (omega arith)

-- all pixels of f are pixels of g
abbrev pub Inside : ℕ → ℕ → Plane → Plane → Type 0
Inside w h f g = (p : ℕ) → p < h * w → f p ≡ true → g p ≡ true

module _ (w h q : ℕ) where
  pub near_in_lem : (f : Plane) (p o : ℕ) → o < h * w → f o ≡ true → distance² w p o ≤ q → near w h q f p ≡ true
  unfolding near
  near_in_lem f p o l e d = some_in (h * w) (λ o. f o && leb (distance² w p o) q) o l (and_in _ _ e (le-leb _ _ d))

  pub near_out : (f : Plane) (p : ℕ) → near w h q f p ≡ true → (o : ℕ) × (o < h * w) × (f o ≡ true) × (distance² w p o ≤ q)
  unfolding near
  near_out f p e = let (o, l, t) = some_out (h * w) (λ o. f o && leb (distance² w p o) q) e in (o, l, and_l (f o) _ t, leb-true _ _ (and_r (f o) _ t))

  pub near_keeps : (f g : Plane) → Inside w h f g → (p : ℕ) → near w h q f p ≡ true → near w h q g p ≡ true
  near_keeps f g s p e = let (o, l, t, d) = near_out f p e in near_in_lem g p o l (s o l t) d

  -- near asks only about pixels that exist
  pub near_same : (f g : Plane) → ((o : ℕ) → o < h * w → f o ≡ g o) → (p : ℕ) → near w h q f p ≡ near w h q g p
  near_same f g s p = bool_eq _ _ (near_keeps f g (λ o l e. sym (s o l) ∙ e) p) (near_keeps g f (λ o l e. s o l ∙ e) p)

  -- "erosion asks only about pixels that exist": a pixel stays exactly where all pixels of the image within the disc are in the plane
  pub eroded_exactly : (f : Plane) (p : ℕ) → (eroded w h q f p ≡ true) ↔ ((o : ℕ) → o < h * w → distance² w p o ≤ q → f o ≡ true)
  unfolding eroded
  eroded_exactly f p = (
    (λ e o l d. split (f o) (λ t. t) (λ z. clash (near_in_lem (λ o. not (f o)) p o l (not_in (f o) z) d) (not_out _ e))),
    (λ s. not_in _ (split (near w h q (λ o. not (f o)) p) (λ t. let (o, l, e, d) = near_out (λ o. not (f o)) p t in clash (s o l d) (not_out (f o) e)) (λ z. z))),
  )

  -- closing in words: each pixel of the image within the disc has one of the plane within the disc about it
  pub closed_exactly : (f : Plane) (p : ℕ) → (closed w h q f p ≡ true) ↔ ((o : ℕ) → o < h * w → distance² w p o ≤ q → near w h q f o ≡ true)
  unfolding closed
  closed_exactly f p = eroded_exactly (near w h q f) p

  -- "closing on such an image contains its input"
  pub closing_contains : (f : Plane) → Inside w h f (closed w h q f)
  closing_contains f p l e = (closed_exactly f p).1 (λ o lo d. near_in_lem f o p l e (subst (λ (x : ℕ). x ≤ q) (distance_symmetric w p o) d))

  -- "keeps inclusion"
  pub closing_keeps : (f g : Plane) → Inside w h f g → Inside w h (closed w h q f) (closed w h q g)
  closing_keeps f g s p l e = (closed_exactly g p).1 (λ o lo d. near_keeps f g s o ((closed_exactly f p).0 e o lo d))

  -- "and changes nothing the second time"
  pub closing_twice : (f : Plane) (p : ℕ) → p < h * w → closed w h q (closed w h q f) p ≡ closed w h q f p
  closing_twice f p l = bool_eq _ _ again (closing_contains (closed w h q f) p l)
    where
      again : closed w h q (closed w h q f) p ≡ true → closed w h q f p ≡ true
      again e = (closed_exactly f p).1 (λ o lo d.
          let (x, lx, t, b) = near_out (closed w h q f) o ((closed_exactly (closed w h q f) p).0 e o lo d) in
          (closed_exactly f x).0 t o lo (subst (λ (y : ℕ). y ≤ q) (distance_symmetric w o x) b))

  -- closing stays inside the dilation
  pub closing_near : (f : Plane) → Inside w h (closed w h q f) (near w h q f)
  closing_near f p l e = (closed_exactly f p).0 e p l (distance_self w p q)

  -- and asks only about pixels that exist
  pub closed_same : (f g : Plane) → ((o : ℕ) → o < h * w → f o ≡ g o) → (p : ℕ) → p < h * w → closed w h q f p ≡ closed w h q g p
  closed_same f g s p l = bool_eq _ _ (closing_keeps f g (λ o lo e. sym (s o lo) ∙ e) p l) (closing_keeps g f (λ o lo e. s o lo ∙ e) p l)

-- a plane without a pixel has no closing
pub closed_empty : (w h q : ℕ) (f : Plane) → ((o : ℕ) → o < h * w → f o ≡ false) → (p : ℕ) → p < h * w → closed w h q f p ≡ false
closed_empty w h q f none p l = split (closed w h q f p)
    (λ t. let (o, lo, e, d) = near_out w h q f p (closing_near w h q f p l t) in clash e (none o lo))
    (λ z. z)

-- a disc of no pixels but its middle closes nothing
pub closed_none : (w h : ℕ) (f : Plane) (p : ℕ) → p < h * w → closed w h 0 f p ≡ f p
closed_none w h f p l = bool_eq _ _
    (λ e. let (o, lo, t, d) = near_out w h 0 f p (closing_near w h 0 f p l e) in ap f (distance_none w p o d) ∙ t)
    (closing_contains w h 0 f p l)
