-- Planes in scratch: a row is four words and then one that is 0, with 33 rows of 0 above and below, so that no loop has an edge.
-- The bits of a plane are numbered through, 320 to a row: the pixel in row r and column c is bit (r + 33) * 320 + c.
use Rattle.std.specs.Prelude.{◌≡◌, Bool, true, ◌&&◌, ◌||◌, List, ℕ, ◌+◌, ◌-◌, ◌*◌, ◌/◌, ◌%◌, ◌<◌, ◌≤◌, ltb, length}
use Rattle.rules.specs.Images.{Plane}
use Rattle.words.specs.Words.{word_bit, beside, Within}

-- the bit of row r, column c
abbrev pub spot : ℕ → ℕ → ℕ
spot r c = (r + 33) * 320 + c

-- the sizes of an image
pub record Sizes (w h : ℕ) : Type 0 where
  pub w_min : 0 < w
  pub w_max : w ≤ 256
  pub h_min : 0 < h
  pub h_max : h ≤ 256

-- bit j is a pixel's
pub record Pixel (w h j : ℕ) : Type 0 where
  pub row : ℕ
  pub column : ℕ
  pub row_in : row < h
  pub column_in : column < w
  pub here : j ≡ spot row column

-- only pixels' bits are set
abbrev pub Framed : ℕ → ℕ → List ℕ → Type 0
Framed w h l = (j : ℕ) → word_bit l j ≡ true → Pixel w h j

-- the pixels of a plane in scratch
unfoldable pub seen : ℕ → List ℕ → Plane
seen w l p = word_bit l (spot (p / w) (p % w))

-- l is room for a plane: of its length, and only pixels' bits are set
pub record Ready (w h : ℕ) (l : List ℕ) : Type 0 where
  pub long : length l ≡ 1610
  pub framed : Framed w h l

-- l is such room and holds the plane f
pub record Drawn (w h : ℕ) (f : Plane) (l : List ℕ) : Type 0 where
  pub ready : Ready w h l
  pub is : (p : ℕ) → p < h * w → seen w l p ≡ f p

-- column c of row k, counted from the first row of the plane
unfoldable pub row_bit : List ℕ → ℕ → ℕ → Bool
row_bit l k c = ltb c 256 && word_bit l (k * 320 + c)

-- column c of row k, of the row above or of the row below
unfoldable pub stacked : List ℕ → ℕ → ℕ → Bool
stacked l k c = row_bit l (k - 1) c || row_bit l k c || row_bit l (k + 1) c

-- the bits of `left` that are at one of `from` or next to it
unfoldable pub fresh : List ℕ → List ℕ → ℕ → Bool
fresh from left j = beside 1 (stacked from (j / 320)) (j % 320) && word_bit left j

-- the columns of row k are g's, and all other bits are as they were
abbrev pub RowPut : ℕ → (ℕ → Bool) → List ℕ → List ℕ → Type 0
RowPut k g was now = Within (k * 320) (k * 320 + 256) (λ j. g (j - k * 320)) (word_bit was) (word_bit now)
