-- Rules 11: posts for resin machines, and beside them Algorithm 4 of the chapter.
use Rattle.std.specs.Prelude.{Bool, false, not, ◌&&◌, ◌||◌, List, [], ◌∷◌, ℕ, zero, suc, ◌-◌, ◌*◌, eqb, get_or}
use Rattle.rules.specs.Tools.{each, Found, nothing, found, first}
use Rattle.rules.specs.Images.{Plane, Stack, Rings, pixel, bytes_of, ring_at}
use Rattle.rules.specs.Planning.{shadow, near, touch, grown, excused, planned_rings, growing_swallow}

-- Rule 11.2, "left by the overhang": the shadow pixels that are not excused
unfoldable pub left_by : Stack → Rings → Stack
left_by part ring i p = shadow (part i) (part (suc i)) p && not (excused ring i p)

-- Rule 11.3, "posts go down from the layer above except where they meet part"
unfoldable pub gone_down : Plane → Plane → Plane
gone_down low above p = above p && not (low p)

-- the pixels of a plane that is kept as a list
abbrev pub plane_of : List Bool → Plane
plane_of l p = get_or l p false

-- the pixel is in the list
unfoldable pub listed : List ℕ → Plane
listed [] p = false
listed (a ∷ l) p = eqb a p || listed l p

-- no pixel where none is found, and else the one that is found before those that follow from it
abbrev pub found_then : Found → (ℕ → List ℕ) → List ℕ
found_then nothing f = []
found_then (found a) f = a ∷ f a

module _ (w h q : ℕ) where
  -- Rule 11.4, "takes away all that grows from it within the radius, through remaining pixels", "its own pixel included": what remains of `rest` after
  -- `posts`. Growing is rule 3.6, from the posts over the pixels of `rest` that are near one of them (rule 3.2)
  unfoldable pub spared : Plane → Plane → List Bool
  spared rest posts =
      let ring : List ℕ = grown (h * w) (touch w) (λ p. rest p && near w h q posts p) posts (h * w) in
      each 0 (h * w) λ p. rest p && not (posts p) && eqb (get_or ring p 0) 0

  -- Rule 11.5, "scanned by row and column; the first remaining pixel becomes a post and takes away ..., until none remains": the new posts, at most k of
  -- them, "each by itself"
  unfoldable pub scanned : ℕ → List Bool → List ℕ
  scanned zero rest = []
  scanned (suc k) rest = found_then (first 0 (h * w) (plane_of rest)) λ a. scanned k (spared (plane_of rest) (eqb a))

  -- the posts of a layer: those gone down, which "grow together in one go", and the new ones; a plane of h * w pixels has no more than as many
  unfoldable pub posts_below : Plane → Plane → List Bool
  posts_below left down =
      let new : List ℕ = scanned (h * w) (spared left down) in
      each 0 (h * w) λ p. down p || listed new p

  -- the posts of the layers from i up to the top, which is d layers above: "the top layer has none"
  unfoldable pub posts_from : Stack → Rings → ℕ → ℕ → List (List Bool)
  posts_from part ring zero i = each 0 (h * w) (λ p. false) ∷ []
  posts_from part ring (suc d) i =
      let above : List (List Bool) = posts_from part ring d (suc i) in
      posts_below (left_by part ring i) (gone_down (part i) (plane_of (get_or above 0 []))) ∷ above

-- the layers of a stack that is kept as lists
abbrev pub stack_of : List (List Bool) → Stack
stack_of l i = plane_of (get_or l i [])

-- Rule 11.6: the bytes of the posts, from the bytes of the part, by the bounds of the overhang and of the radius; rings are the planner's (rule 3.9)
unfoldable pub posts_bytes : ℕ → ℕ → ℕ → (ℕ → ℕ) → ℕ → List ℕ → List ℕ
posts_bytes w h n q r part =
    let posts : List (List Bool) = posts_from w h r (pixel w h part) (ring_at w h (planned_rings w h n q part)) (n - 1) 0 in
    bytes_of w h n (stack_of posts)

-- Rule 11.7: Algorithm 4, RegionSubtractionSLA, by its lines, with A(i+1) in `above`. 1: Ψ ← P(i+1) − P(i); 2: PA ← A(i+1) − P(i); 3: S̃ ← GrowingSwallow(
-- GrowingSwallow(Ψ, P(i), P(i+1), t), PA, PA, ta); 4: Ã ← AnchorMapGen(S̃, ta), which is the scan; 5: A(i) ← Ã ∪ PA
unfoldable pub region_subtraction_sla : ℕ → ℕ → ℕ → ℕ → Plane → Plane → Plane → Plane
region_subtraction_sla w h q r low up above p =
    let PA : Plane = gone_down low above in
    let inner : List Bool = (growing_swallow (h * w) (touch w) (shadow low up) low up (near w h q low) (h * w)).S̃ in
    let outer : List Bool = (growing_swallow (h * w) (touch w) (plane_of inner) PA PA (near w h r PA) (h * w)).S̃ in
    listed (scanned w h r (h * w) outer) p || PA p
