-- Rules 3: planning a stack, and beside it Algorithms 1 and 2 of the chapter.
use Rattle.std.specs.Prelude.{Bool, false, not, ◌&&◌, ◌||◌, cond, List, ℕ, zero, suc, ◌-◌, ◌*◌, ◌/◌, ◌%◌, leb, ltb, eqb, get_or}
use Rattle.rules.specs.Tools.{some, each, joined_up}
use Rattle.rules.specs.Images.{Plane, Stack, Rings, pixel, bytes_of, ring_at}
use Rattle.rules.specs.Reach.{apart, distance²}

-- Rule 3.1: part above, and none below
unfoldable pub shadow : Plane → Plane → Plane
shadow low up p = up p && not (low p)

-- Rule 3.2: some pixel of the lower part is within the bound; only pixels that exist are asked
unfoldable pub near : ℕ → ℕ → ℕ → Plane → Plane
near w h q low p = some (h * w) λ o. low o && leb (distance² w p o) q

-- Rule 3.3: part in both layers
unfoldable pub seeds : Plane → Plane → Plane
seeds low up p = low p && up p

-- Rule 3.4: the pixels that may carry a ring
unfoldable pub reached : ℕ → ℕ → ℕ → Plane → Plane → Plane
reached w h q low up p = shadow low up p && near w h q low p

-- Rule 3.5: the pixel o is one of p's eight neighbours
unfoldable pub touch : ℕ → ℕ → ℕ → Bool
touch w p o = leb (apart (p / w) (o / w)) 1 && leb (apart (p % w) (o % w)) 1 && not (eqb p o)

-- Rule 3.6, growing, over m pixels with any neighbours, any free pixels (those that may carry a ring) and any seeds ------

-- what a pixel of ring k + 1 must touch: a pixel of ring k, and for ring 1 that is a seed
unfoldable pub source : Plane → (ℕ → ℕ) → ℕ → Plane
source seed ring k o = eqb (ring o) k && (ltb 0 k || seed o)

module _ (m : ℕ) (touch : ℕ → ℕ → Bool) where
  unfoldable pub touching : Plane → Plane
  touching f p = some m λ o. touch p o && f o

  -- the pixel may carry ring k + 1
  unfoldable pub fits : Plane → Plane → (ℕ → ℕ) → ℕ → Plane
  fits free seed ring k p = free p && touching (source seed ring k) p

  -- step k gives ring k + 1 to each pixel that has no ring yet and may carry it
  unfoldable pub grow : Plane → Plane → ℕ → List ℕ → List ℕ
  grow free seed k l = each 0 m λ p. cond (eqb (get_or l p 0) 0 && fits free seed (λ o. get_or l o 0) k p) (suc k) (get_or l p 0)

  -- the rings after k steps
  unfoldable pub grown : Plane → Plane → ℕ → List ℕ
  grown free seed zero = each 0 m λ p. 0
  grown free seed (suc k) = grow free seed k (grown free seed k)

-- until none is added: a plane of h * w pixels is grown after as many steps (growing_ends of the laws)
unfoldable pub ring_plane : ℕ → ℕ → (ℕ → ℕ) → Stack → ℕ → List ℕ
ring_plane w h q part i =
    grown (h * w) (touch w) (reached w h (q i) (part i) (part (suc i))) (seeds (part i) (part (suc i))) (h * w)

unfoldable pub rings : ℕ → ℕ → ℕ → (ℕ → ℕ) → Stack → List ℕ
rings w h n q part = joined_up 0 (n - 1) (ring_plane w h q part)

-- Rule 3.7: a pixel with a ring is excused
unfoldable pub excused : Rings → Stack
excused ring i p = ltb 0 (ring i p)

-- Rule 3.8: support ------------------------------------------------------------------------------------------------------

-- the unexcused shadow, with the support above and without the part: the support of layer i where that of the layer d above it is
-- `above`; `painted` is wanted besides, and is empty in plain planning
unfoldable pub support_under : Stack → Stack → Rings → Plane → ℕ → Stack
support_under part painted ring above zero i p = above p
support_under part painted ring above (suc d) i p =
    (shadow (part i) (part (suc i)) p && not (excused ring i p) || support_under part painted ring above d (suc i) p || painted i p) && not (part i p)

-- the top layer has none, but for what is painted there outside the part
unfoldable pub top_of : ℕ → Stack → Stack → Plane
top_of n part painted p = painted (n - 1) p && not (part (n - 1) p)

-- from the layer below the top down to layer 0
unfoldable pub planned : ℕ → Stack → Stack → Rings → Stack
planned n part painted ring i p = support_under part painted ring (top_of n part painted) (n - 1 - i) i p

unfoldable pub empty : Stack
empty i p = false

-- Rule 3.9: the planned ring numbers and the bytes of the planned support, from the bytes of the part
unfoldable pub planned_rings : ℕ → ℕ → ℕ → (ℕ → ℕ) → List ℕ → List ℕ
planned_rings w h n q part = rings w h n q (pixel w h part)

unfoldable pub planned_bytes : ℕ → ℕ → ℕ → (ℕ → ℕ) → List ℕ → List ℕ
planned_bytes w h n q part =
    bytes_of w h n (planned n (pixel w h part) empty (ring_at w h (planned_rings w h n q part)))

-- Rule 3.10: the chapter's algorithms, by their lines. The distance map of lines 3 and 4 is rule 3.2; lines 5 and 10, 'while C ≠ ∅', are a number
-- of iterations, and the laws show that as many as there are pixels are enough (swallow_ends) and stopping sooner is the same (swallow_stops)

module _ (m : ℕ) (touch : ℕ → ℕ → Bool) (psi low up within : Plane) where
  -- the state of Algorithm 1: the region A, and the support S̃ that is left
  pub record Swallow : Type 0 where
    pub A : List Bool
    pub S̃ : List Bool

  -- 6: B ← γ1.5(A), a pixel of A or one of the eight about it
  unfoldable pub dilated : List Bool → Plane
  dilated A p = get_or A p false || touching m touch (λ o. get_or A o false) p

  -- 7: C ← (B−A) ∩ D ∩ S̃
  unfoldable pub swallowed : Swallow → Plane
  swallowed s p = dilated s.A p && not (get_or s.A p false) && within p && get_or s.S̃ p false

  -- 1: S̃ ← Ψ; 2: A ← P(i) ∩ P(i+1). Then k times 8: A ← C ∪ A; 9: S̃ ← S̃ − C
  unfoldable pub growing_swallow : ℕ → Swallow
  growing_swallow zero = record { A = each 0 m λ p. low p && up p; S̃ = each 0 m psi }
  growing_swallow (suc k) =
      let s : Swallow = growing_swallow k in
      record { A = each 0 m λ p. swallowed s p || get_or s.A p false; S̃ = each 0 m λ p. get_or s.S̃ p false && not (swallowed s p) }

-- Algorithm 2, RegionSubtraction: 1: Ψ ← P(i+1) − P(i); 2: S̃ ← GrowingSwallow; 3: S(i) ← S̃ ∪ S(i+1) − P(i)
unfoldable pub region_subtraction : ℕ → ℕ → ℕ → Plane → Plane → Plane → Plane
region_subtraction w h q low up above p =
    (get_or (growing_swallow (h * w) (touch w) (shadow low up) low up (near w h q low) (h * w)).S̃ p false || above p) && not (low p)
