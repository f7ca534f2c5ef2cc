-- What a post takes away, in bits of a plane in scratch: a row grown along, two words looked at, and rows until none changes.
use Rattle.std.specs.Prelude.{◌≡◌, Bool, true, false, not, ◌&&◌, ◌||◌, List, ℕ, ◌+◌, ◌-◌, ◌*◌, ◌/◌, ◌%◌, ◌<◌, ◌≤◌, leb, ltb, length}
use Rattle.rules.specs.Reach.{square, apart}
use Rattle.words.specs.Words.{word_bit, Within}
use Rattle.planes.specs.Scratch.{spot}

-- two numbers that are the same or next to each other
abbrev pub Next : ℕ → ℕ → Type 0
Next c d = (c ≤ d + 1) × (d ≤ c + 1)

-- a test goes on from place to place: what is free and lies beside a place that passes it passes too
abbrev pub Spreads : (ℕ → Bool) → (ℕ → ℕ → Type 0) → (ℕ → Bool) → Type 0
Spreads free beside T = (j o : ℕ) → free j ≡ true → beside j o → T o ≡ true → T j ≡ true

-- r is what is joined along a row to x over free columns: all of x, only free columns, none that x does not lead to, and none left beside it
pub record Along (x free r : ℕ → Bool) : Type 0 where
  pub has : (c : ℕ) → x c ≡ true → r c ≡ true
  pub only : (c : ℕ) → r c ≡ true → free c ≡ true
  pub led : (T : ℕ → Bool) → ((c : ℕ) → x c ≡ true → T c ≡ true) → Spreads free Next T → (c : ℕ) → r c ≡ true → T c ≡ true
  pub whole : (c d : ℕ) → free c ≡ true → Next c d → r d ≡ true → r c ≡ true

-- bits of a plane that are one pixel, or touch
abbrev pub Beside : ℕ → ℕ → Type 0
Beside j o = Next (j / 320) (o / 320) × Next (j % 320) (o % 320)

-- the two words from word i on as columns, and those joined with the words above and below them
abbrev pub two_of : List ℕ → ℕ → ℕ → Bool
two_of l i c = ltb c 128 && word_bit l (i * 64 + c)

abbrev pub three_of : List ℕ → ℕ → ℕ → Bool
three_of l i c = (two_of l (i - 5) c || two_of l i c) || two_of l (i + 5) c

-- the bit's column is one of the 128 from word b of its row on
abbrev pub Columns : ℕ → ℕ → Type 0
Columns b j = (b * 64 ≤ j % 320) × (j % 320 < b * 64 + 128)

-- word b of row k and the one behind it are looked at, and of their 128 columns those of `disc`: what is new there remained and is led to by what was
-- got; it is got and remains no longer; and nothing that lies beside what is got remains there
pub record Looked (k b : ℕ) (disc : ℕ → Bool) (d : Bool) (rest got rest' got' : List ℕ) : Type 0 where
  pub new : ℕ → Bool
  pub there : (x : ℕ) → new x ≡ true → (x < 128) × (word_bit rest (k * 320 + b * 64 + x) ≡ true) × (disc x ≡ true)
  pub rest_put : Within (k * 320 + b * 64) (k * 320 + b * 64 + 128) (λ j. word_bit rest j && not (new (j - (k * 320 + b * 64)))) (word_bit rest) (word_bit rest')
  pub got_put : Within (k * 320 + b * 64) (k * 320 + b * 64 + 128) (λ j. word_bit got j || new (j - (k * 320 + b * 64))) (word_bit got) (word_bit got')
  pub led : (T : ℕ → Bool) → ((j : ℕ) → word_bit got j ≡ true → T j ≡ true)
      → ((x o : ℕ) → x < 128 → word_bit rest (k * 320 + b * 64 + x) ≡ true → disc x ≡ true → Beside (k * 320 + b * 64 + x) o → T o ≡ true → T (k * 320 + b * 64 + x) ≡ true)
      → (x : ℕ) → new x ≡ true → T (k * 320 + b * 64 + x) ≡ true
  pub whole : ((o : ℕ) → word_bit got o ≡ true → Columns b o) → (x o : ℕ) → x < 128 → word_bit rest' (k * 320 + b * 64 + x) ≡ true → disc x ≡ true → word_bit got' o ≡ true
      → Beside (k * 320 + b * 64 + x) o → ⊥
  pub none : d ≡ false → (x : ℕ) → new x ≡ false
  pub some : d ≡ true → (x : ℕ) × (new x ≡ true)

-- the bit is within the bound q of row y and column c
unfoldable pub disc_bit : ℕ → ℕ → ℕ → ℕ → Bool
disc_bit q y c j = leb (square (apart (j / 320) (y + 33)) + square (apart (j % 320) c)) q

-- what the post in row y and column c has got of what remained, `was`, and what remains: all that is got remained, lies in the disc, is led to by the
-- post, and stands in the `rows` rows from its own on
pub record Taking (q y c rows : ℕ) (was rest got : List ℕ) : Type 0 where
  pub rest_long : length rest ≡ 1610
  pub got_long : length got ≡ 1610
  pub rest_is : (j : ℕ) → word_bit rest j ≡ (word_bit was j && not (word_bit got j))
  pub owned : (j : ℕ) → word_bit got j ≡ true → word_bit was j ≡ true
  pub round : (j : ℕ) → word_bit got j ≡ true → disc_bit q y c j ≡ true
  pub post : word_bit got (spot y c) ≡ true
  pub led : (T : ℕ → Bool) → T (spot y c) ≡ true → Spreads (λ j. word_bit was j && disc_bit q y c j) Beside T → (j : ℕ) → word_bit got j ≡ true → T j ≡ true
  pub deep : (j : ℕ) → word_bit got j ≡ true → (y + 33 ≤ j / 320) × (j / 320 < y + 33 + rows)

-- nothing remains before the post, and none but the 256 columns of a row
abbrev pub Ahead : ℕ → ℕ → List ℕ → Type 0
Ahead y c was = (j : ℕ) → word_bit was j ≡ true → (spot y c ≤ j) × (j % 320 < 256)

-- nothing that could still be got remains in the rows before row s of the disc, but for row d
abbrev pub ClosedBut : ℕ → ℕ → ℕ → ℕ → ℕ → List ℕ → List ℕ → Type 0
ClosedBut q y c s d rest got = (j o : ℕ) → j / 320 < y + 33 + s → (j / 320 ≡ y + 33 + d → ⊥) → word_bit rest j ≡ true → disc_bit q y c j ≡ true → word_bit got o ≡ true → Beside j o → ⊥

-- nothing at all
abbrev pub Closed : ℕ → ℕ → ℕ → List ℕ → List ℕ → Type 0
Closed q y c rest got = (j o : ℕ) → word_bit rest j ≡ true → disc_bit q y c j ≡ true → word_bit got o ≡ true → Beside j o → ⊥
