-- What sweeps over marked pixels keep.
use Rattle.std.specs.Prelude.{◌≡◌, ℕ, zero, suc, ◌+◌, ◌*◌, ◌<◌, ◌≤◌, true, false, not, ◌&&◌, List, [], ◌∷◌, length, ◌≢◌, slice_index}
use Rattle.rules.specs.Demands.{Joined}
use Rattle.rules.specs.Images.{Plane}
use Rattle.rules.specs.Planning.{touching, touch}

-- a ring's number, and 65536 for none
abbrev pub level : ℕ → ℕ
level zero = 65536
level (suc v) = suc v

-- the sum of g over a list
unfoldable pub sum_by : (ℕ → ℕ) → List ℕ → ℕ
sum_by g [] = 0
sum_by g (x ∷ xs) = g x + sum_by g xs

-- 1 for a ring and 0 for none: adds up to how many pixels have one
abbrev pub one : ℕ → ℕ
one zero = 0
one (suc v) = 1

-- the free pixels whose ring is not known: those that may be told one
unfoldable pub later : Plane → Plane → Plane
later free known p = free p && not (known p)

-- One pair of layers
module _ (w h : ℕ) (free seed : Plane) where
  -- no pixel is both free and a seed, and there are few enough of them
  pub record Frame : Type 0 where
    pub apart : (p : ℕ) → p < h * w → free p ≡ true → seed p ≢ true
    pub room : h * w ≤ 65536

  -- rings l, marks M: each ring is the length of a path, none is more than there are rings, known pixels have the fewest steps, pixels
  -- without a mark have told their neighbours, and marked ones have a ring to tell
  pub record Sweeping (known : Plane) (l : List ℕ) (M : Plane) : Type 0 where
    pub long : length l ≡ h * w
    pub path : (p : ℕ) → p < h * w → 0 < slice_index l p → Joined (h * w) (touch w) free seed (slice_index l p) p
    pub few : (p : ℕ) → p < h * w → slice_index l p ≤ sum_by one l
    pub first : (p : ℕ) → p < h * w → free p ≡ true → touching (h * w) (touch w) seed p ≡ true → known p ≡ true
    pub sure : (p : ℕ) → p < h * w → known p ≡ true → (0 < slice_index l p) × ((k : ℕ) → Joined (h * w) (touch w) free seed k p → slice_index l p ≤ k)
    pub told : (q : ℕ) → q < h * w → M q ≡ false → (p : ℕ) → p < h * w → free p ≡ true → touch w p q ≡ true → level (slice_index l p) ≤ level (slice_index l q) + 1
    pub marked : (q : ℕ) → q < h * w → M q ≡ true → 0 < slice_index l q
