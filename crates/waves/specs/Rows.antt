-- Waves by rows: only the rows that have something are gone through, and what one row of a wave leaves.
use Rattle.std.specs.Prelude.{◌≡◌, Bool, true, false, not, ◌&&◌, ◌||◌, cond, List, ℕ, ◌+◌, ◌*◌, ◌/◌, ◌%◌, ◌<◌, ◌≤◌, length, get_or}
use Rattle.words.specs.Words.{word_bit, Within}
use Rattle.planes.specs.Scratch.{Ready, fresh, spot}

-- ahead has, for each row k, the first row from k on that is gone to, and h where there is none
pub record Aheads (h : ℕ) (ahead : List ℕ) : Type 0 where
  pub long : length ahead ≡ 257
  pub on : (k : ℕ) → k ≤ h → (k ≤ get_or ahead k 0) × (get_or ahead k 0 ≤ h)

-- l has nothing in the rows that are passed over
abbrev pub Sparse : ℕ → List ℕ → List ℕ → Type 0
Sparse h ahead l = (k j : ℕ) → k ≤ h → (k + 33) * 320 ≤ j → j < (get_or ahead k 0 + 33) * 320 → word_bit l j ≡ false

-- l is room for pixels of the rows that are gone to
pub record Room (w h : ℕ) (ahead l : List ℕ) : Type 0 where
  pub ready : Ready w h l
  pub sparse : Sparse h ahead l

-- the bits of row k are g's, and all others are as they were
abbrev pub RowBits : ℕ → (ℕ → Bool) → List ℕ → List ℕ → Type 0
RowBits k g was now = Within (k * 320) (k * 320 + 256) g (word_bit was) (word_bit now)

-- v at the places of the columns of f, with place `at` for column 0, and all else as it was
pub record RowNumbers (at v : ℕ) (f : ℕ → Bool) (was now : List ℕ) : Type 0 where
  pub here : (c : ℕ) → c < 256 → get_or now (at + c) 0 ≡ cond (f c) v (get_or was (at + c) 0)
  pub before : (p : ℕ) → p < at → get_or now p 0 ≡ get_or was p 0
  pub behind : (p : ℕ) → at + 256 ≤ p → get_or now p 0 ≡ get_or was p 0

-- one row of a wave
pub record RowWave (w y v : ℕ) (new more : Bool) (from to to' left left' got got' ring ring' : List ℕ) : Type 0 where
  pub to_row : RowBits (y + 33) (fresh from left) to to'
  pub left_row : RowBits (y + 33) (λ j. word_bit left j && not (fresh from left j)) left left'
  pub got_row : RowBits (y + 33) (λ j. word_bit got j || fresh from left j) got got'
  pub ring_row : RowNumbers (y * w) v (λ c. fresh from left ((y + 33) * 320 + c)) ring ring'
  pub none_new : new ≡ false → (c : ℕ) → c < 256 → fresh from left ((y + 33) * 320 + c) ≡ false
  pub no_more : more ≡ false → (c : ℕ) → c < 256 → word_bit left' ((y + 33) * 320 + c) ≡ false

-- the bits of the rows before y are g's, and all others are as they were
pub record Upto (y : ℕ) (g : ℕ → Bool) (was now : List ℕ) : Type 0 where
  pub inner : (j : ℕ) → j < (y + 33) * 320 → word_bit now j ≡ g j
  pub outer : (j : ℕ) → (y + 33) * 320 ≤ j → word_bit now j ≡ word_bit was j

-- a wave that has come to row y
pub record WaveTo (w y v : ℕ) (from to to' left left' got got' ring ring' : List ℕ) : Type 0 where
  pub to_done : Upto y (fresh from left) to to'
  pub left_done : Upto y (λ j. word_bit left j && not (fresh from left j)) left left'
  pub got_done : Upto y (λ j. word_bit got j || fresh from left j) got got'
  pub ring_done : (p : ℕ) → p < y * w → get_or ring' p 0 ≡ cond (fresh from left (spot (p / w) (p % w))) v (get_or ring p 0)
  pub ring_rest : (p : ℕ) → y * w ≤ p → get_or ring' p 0 ≡ get_or ring p 0

-- a whole wave: what is left and touches `from` gets ring v and goes from left to got, and to `to`
pub record Waving (w h v : ℕ) (from to' left left' got got' ring ring' : List ℕ) : Type 0 where
  pub to_is : (j : ℕ) → word_bit to' j ≡ fresh from left j
  pub left_is : (j : ℕ) → word_bit left' j ≡ (word_bit left j && not (fresh from left j))
  pub got_is : (j : ℕ) → word_bit got' j ≡ (word_bit got j || fresh from left j)
  pub ring_is : (p : ℕ) → p < h * w → get_or ring' p 0 ≡ cond (fresh from left (spot (p / w) (p % w))) v (get_or ring p 0)

-- no bit is set in the one plane, or none in the other: no wave goes on
abbrev pub Still : List ℕ → List ℕ → Type 0
Still front left = (i j : ℕ) → word_bit front i ≡ true → word_bit left j ≡ true → ⊥
