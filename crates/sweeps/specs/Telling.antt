-- Telling, as the code does it: some pixels get a lower ring, each with a mark; and the rows that a sweep leaves behind.
use Rattle.std.specs.Prelude.{◌≡◌, ℕ, ◌+◌, ◌-◌, ◌*◌, ◌<◌, ◌≤◌, Bool, true, false, ◌⊎◌, List, slice_index, slice_set}
use Rattle.words.specs.Words.{word_bit, bit_of_word}
use Rattle.sweeps.specs.Rings.{level, sum_by}
use Rattle.sweeps.specs.Marks.{Lit}

-- bit k of word i is a candidate and in the mask
pub record Meant (i mask : ℕ) (cand : List ℕ) (k : ℕ) : Type 0 where
  pub in_word : k < 64
  pub in_mask : bit_of_word mask k ≡ true
  pub in_cand : word_bit cand (i * 64 + k) ≡ true

-- x + k - less, for such a bit k, is one of n pixels
abbrev pub Inside : ℕ → ℕ → ℕ → ℕ → List ℕ → ℕ → Type 0
Inside i mask x less cand n = (k : ℕ) → Meant i mask cand k → (less ≤ x + k) × (x + k < less + n)

-- for such a bit, x + k - less is the pixel that `at` gives for it, and the bit is one of B
abbrev pub Aimed : (ℕ → ℕ) → (ℕ → Bool) → ℕ → ℕ → ℕ → ℕ → List ℕ → Type 0
Aimed at B i mask x less cand = (k : ℕ) → Meant i mask cand k → (B (i * 64 + k) ≡ true) × (at (i * 64 + k) + less ≡ x + k)

-- the pixels of such bits have a ring of at most v + 1, v being the ring of the pixel that tells
abbrev pub Told : (ℕ → ℕ) → ℕ → ℕ → ℕ → List ℕ → List ℕ → Type 0
Told at i mask v cand ring = (k : ℕ) → Meant i mask cand k → level (slice_index ring (at (i * 64 + k))) ≤ v + 1

-- from ring, marks and got on, step by step: the pixel `at j` of a bit j of B gets ring v + 1 in place of none or a larger one, and bit j is set in marks and got
pub data Lowers (at : ℕ → ℕ) (v : ℕ) (B : ℕ → Bool) (ring marks got : List ℕ) : List ℕ → List ℕ → List ℕ → Type 0 where
  none : Lowers at v B ring marks got ring marks got
  more : {r m g m' g' : List ℕ} → Lowers at v B ring marks got r m g → (j p : ℕ) → B j ≡ true → at j ≡ p → v + 1 < level (slice_index r p) → Lit j m' m → Lit j g' g →
      Lowers at v B ring marks got (slice_set r p (v + 1)) m' g'

-- the sum of levels falls, which is why sweeping ends, or all rings stay and P holds
abbrev pub Falls : List ℕ → List ℕ → Type 0 → Type 0
Falls ring' ring P = (sum_by level ring' < sum_by level ring) ⊎ ((ring' ≡ ring) × P)

-- middle is t, or the bit straight above or below it, a row having 320 bits; j is middle or next to it
pub record Beside (t j : ℕ) : Type 0 where
  pub middle : ℕ
  pub row : (middle ≡ t) ⊎ ((middle ≡ t + 320) ⊎ (middle + 320 ≡ t))
  pub left : middle ≤ j + 1
  pub right : j ≤ middle + 1

-- marks of `out` that `was` did not have are at t or beside it
abbrev pub Around : ℕ → List ℕ → List ℕ → Type 0
Around t out was = (j : ℕ) → word_bit out j ≡ true → (word_bit was j ≡ true) ⊎ Beside t j

-- row k of the plane has no mark
abbrev pub Unmarked : List ℕ → ℕ → Type 0
Unmarked marks k = (j : ℕ) → k * 320 ≤ j → j < (k + 1) * 320 → word_bit marks j ≡ false

-- marks of `out` that `was` did not have are in row k, or in the row above or below it
abbrev pub Nearby : ℕ → List ℕ → List ℕ → Type 0
Nearby k out was = (j : ℕ) → word_bit out j ≡ true → (word_bit was j ≡ true) ⊎ ((k * 320 ≤ j + 320) × (j < (k + 2) * 320))

-- the row of the image that a sweep comes to after r others: downward, or with true upward from the last of h
unfoldable pub turned : Bool → ℕ → ℕ → ℕ
turned false h r = r
turned true h r = h - 1 - r

-- the row of the plane, which has 33 empty rows on top, that the sweep passed just before row y of the image
unfoldable pub behind_row : Bool → ℕ → ℕ
behind_row false y = y + 32
behind_row true y = y + 34

-- row y of the image is among the first r rows that the sweep went through
unfoldable pub Gone : Bool → ℕ → ℕ → ℕ → Type 0
Gone false h r y = y < r
Gone true h r y = (h ≤ y + r) × (y < h)
