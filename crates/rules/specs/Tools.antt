-- Tools of the definitions: tests and lists over a range of numbers, the first that passes, the first refusal that applies.
use Rattle.std.specs.Prelude.{Bool, true, false, ◌||◌, cond, List, [], ◌∷◌, ◌++◌, ℕ, zero, suc, ◌+◌}

-- some number below n passes the test
unfoldable pub some : ℕ → (ℕ → Bool) → Bool
some zero f = false
some (suc n) f = f n || some n f

-- 1 for a test that passes
unfoldable pub bit : Bool → ℕ
bit true = 1
bit false = 0

-- how many numbers below n pass the test
unfoldable pub count : ℕ → (ℕ → Bool) → ℕ
count zero f = 0
count (suc n) f = bit (f n) + count n f

-- the largest number up to n that passes the test, and 0 where none does
unfoldable pub largest : ℕ → (ℕ → Bool) → ℕ
largest zero f = 0
largest (suc n) f = cond (f (suc n)) (suc n) (largest n f)

-- f a, f (a + 1), .. : n of them
unfoldable pub each : {A : Type 0} → ℕ → ℕ → (ℕ → A) → List A
each a zero f = []
each a (suc n) f = f a ∷ each (suc a) n f

-- the lists f a, f (a + 1), .. : n of them, joined
unfoldable pub joined_up : {A : Type 0} → ℕ → ℕ → (ℕ → List A) → List A
joined_up a zero f = []
joined_up a (suc n) f = f a ++ joined_up (suc a) n f

-- what a search finds
pub data Found : Type 0 where
  nothing : Found
  found : ℕ → Found

-- the first of a, a + 1, .. (n of them) that passes the test
unfoldable pub first : ℕ → ℕ → (ℕ → Bool) → Found
first a zero f = nothing
first a (suc n) f = cond (f a) (found a) (first (suc a) n f)

-- a refusal number with its condition: a call's table is a list of them, in the order in which they are tested
pub record Case : Type 0 where
  pub number : ℕ
  pub applies : Bool

infix 10 ◌when◌
abbrev pub ◌when◌ : ℕ → Bool → Case
k when b = record { number = k; applies = b }

-- the first number of a table whose condition holds, and 0 where none does
abbrev pub refusal : List Case → ℕ
refusal [] = 0
refusal (c ∷ cs) = cond c.applies c.number (refusal cs)

-- what follows from a refusal number: `fine` where it is 0, and else `refused` of the number
abbrev pub answer : {A : Type 0} → ℕ → A → (ℕ → A) → A
answer zero fine refused = fine
answer (suc k) fine refused = refused (suc k)
