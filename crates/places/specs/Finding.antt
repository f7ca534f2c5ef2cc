-- Laws of a search that goes by stretches.
use Rattle.std.specs.Prelude.{◌≡◌, Bool, true, false, ℕ, ◌+◌, ◌-◌, ◌<◌, ◌≤◌, ltb, Option, Some, None, MatchOption, unwrap_or}
use Rattle.std.proofs.Common.{◌∙◌, arith, ltb-true, ltb-false}
use Rattle.rules.specs.Tools.{nothing, found, first}
use Rattle.laws.specs.Tests.{split}
use Rattle.laws.specs.Places.{none_is, one_is, first_is, first_unique}
use Rattle.places.specs.Search.{FirstOf}

pub least_none : (a n : ℕ) (f : ℕ → Bool) → a ≤ n → ((y : ℕ) → a ≤ y → y < n → f y ≡ false) → FirstOf a n f n
least_none a n f l all = record { low = l; bound = omega arith; before = all; at = λ h. absurd (omega arith) }

pub least_one : (a n : ℕ) (f : ℕ → Bool) (k : ℕ) → a ≤ k → k < n → ((y : ℕ) → a ≤ y → y < k → f y ≡ false) → f k ≡ true → FirstOf a n f k
least_one a n f k l h all t = record { low = l; bound = omega arith; before = all; at = λ _. t }

-- the same of what `find` tells of a range
pub found_first : (a n : ℕ) (f : ℕ → Bool) (o : Option ℕ) → a ≤ n →
    MatchOption o ((k : ℕ) → a ≤ k → k < n → f k ≡ false) (λ i. (a ≤ i) × (i < n) × (f i ≡ true) × ((k : ℕ) → a ≤ k → k < i → f k ≡ false)) → FirstOf a n f (unwrap_or o n)
found_first a n f None l all = least_none a n f l all
found_first a n f (Some i) l h = least_one a n f i h.0 h.1 h.3 h.2

-- one more that fails
pub fails_more : (a : ℕ) (f : ℕ → Bool) (k : ℕ) → ((y : ℕ) → a ≤ y → y < k → f y ≡ false) → f k ≡ false → (y : ℕ) → a ≤ y → y < k + 1 → f y ≡ false
fails_more a f k all e y l h = split (ltb y k) (λ t. all y l (ltb-true y k t)) (λ t. let z : k ≡ y = omega (arith, ltb-false y k t) in rw z at e)

-- all below x fail, and the n from x on are looked at as g
module _ (m : ℕ) (f g : ℕ → Bool) (x n k : ℕ) (before : (y : ℕ) → y < x → y < m → f y ≡ false)
    (same : (j : ℕ) → j < n → f (x + j) ≡ g j) (r : FirstOf 0 n g k) where
  passed : (y : ℕ) → y < x + k → y < m → k ≤ n → f y ≡ false
  passed y h b l =
      split (ltb y x) (λ t. before y (ltb-true y x t) b) (λ t.
      let z : x + (y - x) ≡ y = omega (arith, ltb-false y x t) in
      let j : y - x < k = omega (arith, ltb-false y x t) in
      let e : f (x + (y - x)) ≡ false = same (y - x) (omega arith) ∙ r.before (y - x) (omega arith) j in
      rw z at e)

  pub stretch_hit : x + n ≤ m → k < n → FirstOf 0 m f (x + k)
  stretch_hit l h =
      record { low = omega arith; bound = omega arith; before = λ y a b. passed y b (omega arith) (omega arith); at = λ _. same k h ∙ r.at h }

  pub stretch_more : (x' : ℕ) → n ≤ k → ((y : ℕ) → y < x' → y < m → y < x + n) → (y : ℕ) → y < x' → y < m → f y ≡ false
  stretch_more x' h cover y a b = passed y (omega (arith, cover y a b)) b r.bound

-- the search's answer is the definition's
pub least_found : (n : ℕ) (f : ℕ → Bool) (r : ℕ) → FirstOf 0 n f r → r < n → first 0 n f ≡ found r
least_found n f r s l =
    first_unique 0 n f (first 0 n f) (found r) (first_is 0 n f) (one_is {x = r} (omega arith) (omega arith) (s.at l) s.before)

pub least_nothing : (n : ℕ) (f : ℕ → Bool) (r : ℕ) → FirstOf 0 n f r → n ≤ r → first 0 n f ≡ nothing
least_nothing n f r s l =
    first_unique 0 n f (first 0 n f) nothing (first_is 0 n f) (none_is (λ y a b. s.before y a (omega arith)))

-- all before a fail, and the search goes on from a: found, at the end, and further
module _ (a e : ℕ) (f : ℕ → Bool) (k : ℕ) (before : (y : ℕ) → 0 ≤ y → y < a → f y ≡ false) (r : FirstOf a e f k) where
  onward : (y : ℕ) → 0 ≤ y → y < k → f y ≡ false
  onward y z l = split (ltb y a) (λ t. before y z (ltb-true y a t)) (λ t. r.before y (ltb-false y a t) l)
