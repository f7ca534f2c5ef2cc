-- Words of 64 bits, the highest bit leftmost, and rows of four of them.
use Rattle.std.specs.Prelude.{◌≡◌, Bool, true, false, not, ◌&&◌, ◌||◌, cond, List, [], ◌∷◌, ℕ, suc, min, ◌+◌, ◌-◌, ◌*◌, ◌/◌, ◌%◌, ◌^◌, ◌<◌, ◌≤◌, eqb, leb, ltb, length, get_or}
use Rattle.std.specs.Int.Count.{count_trailing_zeros}
use Rattle.rules.specs.Tools.{bit}
use Rattle.rules.specs.Images.{bit_at}
use Rattle.image.specs.Scratch.{bit_of}
use Rattle.words.specs.declared.Row.{Row}

-- binary digit e of x, from the right
unfoldable pub place : ℕ → ℕ → Bool
place x e = eqb (x / 2 ^ e % 2) 1

-- bit k of a word, from the left
unfoldable pub bit_of_word : ℕ → ℕ → Bool
bit_of_word x k = place x (63 - k)

-- bit j of a list of numbers of n bits
unfoldable pub flat : ℕ → List ℕ → ℕ → Bool
flat n l j = place (get_or l (j / n) 0) (n - 1 - j % n)

-- bit j of a list of words
abbrev pub word_bit : List ℕ → ℕ → Bool
word_bit = flat 64

-- the n binary digits of x are f a, f (a + 1), .. from the left: e is the place from the right, k the one from the left
pub record Digits (n x a : ℕ) (f : ℕ → Bool) : Type 0 where
  pub small : x < 2 ^ n
  pub bits : (e k : ℕ) → e + suc k ≡ n → place x e ≡ f (a + k)

-- column c of a row, and none behind its 256 columns: what bit a pixel is
unfoldable pub column : Row → ℕ → Bool
column x c = word_bit (x.a ∷ x.b ∷ x.c ∷ x.d ∷ []) c

-- n bytes of s from byte `at` on, and 0 behind
unfoldable pub row_part : List ℕ → ℕ → ℕ → ℕ → Bool
row_part s at n c = ltb c (n * 8) && bit_of s (at * 8 + c)

-- four words of l from word i on, and 0 behind
unfoldable pub row_at : List ℕ → ℕ → ℕ → Bool
row_at l i c = ltb c 256 && word_bit l (i * 64 + c)

-- a column, or the one s before or after it
unfoldable pub beside : ℕ → (ℕ → Bool) → ℕ → Bool
beside s f c = f c || f (c + s) || (leb s c && f (c - s))

-- the columns of r are those within `by` of a column of x
pub record Widened (by : ℕ) (x r : ℕ → Bool) : Type 0 where
  pub there : (c d : ℕ) → c < 256 → x d ≡ true → c ≤ d + by → d ≤ c + by → r c ≡ true
  pub back : (c : ℕ) → r c ≡ true → (d : ℕ) × (x d ≡ true) × (c ≤ d + by) × (d ≤ c + by)

-- the bits from a up to b are g's, and all others are as they were
pub record Within (a b : ℕ) (g was now : ℕ → Bool) : Type 0 where
  pub inner : (j : ℕ) → a ≤ j → j < b → now j ≡ g j
  pub before : (j : ℕ) → j < a → now j ≡ was j
  pub behind : (j : ℕ) → b ≤ j → now j ≡ was j

-- those bytes of word q, which is x, that a row of n bytes has, written to their places in the row from byte `at` on
abbrev pub WordPart : ℕ → ℕ → ℕ → ℕ → (ℕ → Bool) → (ℕ → Bool) → Type 0
WordPart at n q x = Within ((at + min n (q * 8)) * 8) ((at + min n (q * 8 + 8)) * 8) (λ j. bit_of_word x (j - (at + q * 8) * 8))

-- no bit of those bytes is set
abbrev pub BarePart : ℕ → ℕ → ℕ → (ℕ → Bool) → Type 0
BarePart at n q was = (j : ℕ) → (at + min n (q * 8)) * 8 ≤ j → j < (at + min n (q * 8 + 8)) * 8 → was j ≡ false

-- the bits of x taken off those bytes of word q, and all else as it was
abbrev pub TakenPart : ℕ → ℕ → ℕ → ℕ → (ℕ → Bool) → (ℕ → Bool) → Type 0
TakenPart at n q x was = Within ((at + min n (q * 8)) * 8) ((at + min n (q * 8 + 8)) * 8) (λ j. was j && not (bit_of_word x (j - (at + q * 8) * 8))) was

-- the last bit of x that is set
unfoldable pub last_bit : ℕ → ℕ
last_bit x = 63 - count_trailing_zeros 64 x

-- v at the places of the set bits of m, with place x for bit 0, and all else as it was
pub record Numbered (x m v : ℕ) (was now : List ℕ) : Type 0 where
  pub here : (k : ℕ) → k < 64 → get_or now (x + k) 0 ≡ cond (bit_of_word m k) v (get_or was (x + k) 0)
  pub before : (p : ℕ) → p < x → get_or now p 0 ≡ get_or was p 0
  pub behind : (p : ℕ) → x + 64 ≤ p → get_or now p 0 ≡ get_or was p 0

-- the bits of every byte, each as a number: bit k of byte m stands at 8 * m + k
pub record Ones (l : List ℕ) : Type 0 where
  pub long : length l ≡ 2048
  pub is : (i : ℕ) → i < 2048 → get_or l i 0 ≡ bit (bit_at (i / 8) (i % 8))

-- the n places from x on are f's, and all others are as they were
pub record Placed (x n : ℕ) (f : ℕ → ℕ) (was now : List ℕ) : Type 0 where
  pub here : (k : ℕ) → k < n → get_or now (x + k) 0 ≡ f k
  pub before : (p : ℕ) → p < x → get_or now p 0 ≡ get_or was p 0
  pub behind : (p : ℕ) → x + n ≤ p → get_or now p 0 ≡ get_or was p 0
