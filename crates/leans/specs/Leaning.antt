-- What the rings of a word and of a row tell: each is good by itself, but for nearness.
use Rattle.std.specs.Prelude.{◌≡◌, Bool, true, false, List, ℕ, ◌+◌, ◌-◌, ◌*◌, ◌≤◌, ◌<◌, ltb, length, get_or}
use Rattle.rules.specs.Tools.{bit}
use Rattle.words.specs.Words.{bit_of_word}
use Rattle.leans.specs.declared.Told.{Told}

-- each of three rows or columns, of n in all, is x or beside it
abbrev pub About : ℕ → ℕ → List ℕ → Type 0
About x n xs = (length xs ≡ 3) × ((i : ℕ) → i < 3 → (get_or xs i 0 < n) × ((x ≤ get_or xs i 0 + 1) × (get_or xs i 0 ≤ x + 1)))

-- the pixel in row r and column c, or one of its neighbours, has ring v
pub record Step (w h : ℕ) (rings : List ℕ) (r c v : ℕ) : Type 0 where
  pub row : ℕ
  pub column : ℕ
  pub row_in : row < h
  pub column_in : column < w
  pub up : r ≤ row + 1
  pub down : row ≤ r + 1
  pub left : c ≤ column + 1
  pub right : column ≤ c + 1
  pub is : get_or rings (row * w + column) 0 ≡ v

-- the ring in row r and column c is good: ring 1 where the pixel is one of the first, a larger one where it is free and can step on
pub record Good (w h : ℕ) (free first : Bool) (rings : List ℕ) (r c : ℕ) : Type 0 where
  pub first_inside : get_or rings (r * w + c) 0 ≡ 1 → first ≡ true
  pub free_inside : 1 < get_or rings (r * w + c) 0 → free ≡ true
  pub leans : 1 < get_or rings (r * w + c) 0 → Step w h rings r c (get_or rings (r * w + c) 0 - 1)

-- byte b of the word m: its eight rings, of which place x is the word's first, are 1 at its bits and else 0
abbrev pub Alike : List ℕ → ℕ → ℕ → ℕ → Type 0
Alike rings x m b = (k : ℕ) → k < 8 → get_or rings (x + 8 * b + k) 0 ≡ bit (bit_of_word m (8 * b + k))

-- the bits of `got` from a up to b are those of the word's pixels that have a ring, and there are no others
pub record Got (w : ℕ) (rings : List ℕ) (at x a b got : ℕ) : Type 0 where
  pub has : (k : ℕ) → a ≤ k → k < b → x + k < w → bit_of_word got k ≡ ltb 0 (get_or rings (at + (x + k)) 0)
  pub only : (k : ℕ) → k < 64 → (a ≤ k → k < b → ⊥) → bit_of_word got k ≡ false

-- what the word at column x of row r tells of its bits from a up to b: their rings are good and at most `most`, and `got` has those that
-- have one
pub record Tells (w h : ℕ) (rings : List ℕ) (r x a b free first : ℕ) (t : Told) : Type 0 where
  pub fine : (k : ℕ) → a ≤ k → k < b → x + k < w → Good w h (bit_of_word free k) (bit_of_word first k) rings r (x + k)
  pub gets : Got w rings (r * w) x a b t.got
  pub most : (k : ℕ) → a ≤ k → k < b → x + k < w → get_or rings (r * w + (x + k)) 0 ≤ t.most

-- no pixel of row r has a ring
abbrev pub Bare : ℕ → List ℕ → ℕ → Type 0
Bare w rings r = (c : ℕ) → c < w → get_or rings (r * w + c) 0 ≡ 0
