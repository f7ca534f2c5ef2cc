-- Rules 1: sizes, rows, planes and stacks.
-- A pixel is one number, r * w + c for row r and column c (rule 1.2), so a plane is a test on numbers below h * w and a stack one on layers and pixels.
use Rattle.std.specs.Prelude.{Bool, not, ◌&&◌, List, ℕ, zero, suc, ◌+◌, ◌-◌, ◌*◌, ◌/◌, ◌%◌, ◌^◌, leb, ltb, eqb, get_or}
use Rattle.rules.specs.Tools.{bit, some, each, Found, first}
use Rattle.rules.specs.declared.Settings.{Settings}

abbrev pub Plane : Type 0
Plane = ℕ → Bool

abbrev pub Stack : Type 0
Stack = ℕ → Plane

-- the ring of a pixel in a ring plane
abbrev pub Rings : Type 0
Rings = ℕ → ℕ → ℕ

unfoldable pub within : ℕ → ℕ → ℕ → Bool
within low high x = leb low x && leb x high

-- Rule 1.1: width and height from 1 to 256, layers from 1 to 512
unfoldable pub sized : Settings → Bool
sized s = within 1 256 s.w && within 1 256 s.h && within 1 512 s.n

-- Rule 1.3: how many bytes a row has
unfoldable pub row_bytes : ℕ → ℕ
row_bytes w = (w + 7) / 8

-- Rule 1.3: bit k of a byte, counted from the highest, which is the leftmost pixel
unfoldable pub bit_at : ℕ → ℕ → Bool
bit_at b k = eqb (b / 2 ^ (7 - k) % 2) 1

-- Rules 1.3 and 1.5: pixel p of layer i in the bytes of a stack, layer 0 and row 0 first
unfoldable pub pixel : ℕ → ℕ → List ℕ → Stack
pixel w h s i p = bit_at (get_or s ((i * h + p / w) * row_bytes w + p % w / 8) 0) (p % w % 8)

-- Rule 1.5: how many rows a stack has, and how many bytes
unfoldable pub rows_of : Settings → ℕ
rows_of s = s.n * s.h

unfoldable pub stack_bytes : Settings → ℕ
stack_bytes s = rows_of s * row_bytes s.w

-- Rule 1.4: a row of a stack, all its rows counted through, has a bit set that no pixel uses
unfoldable pub padded : ℕ → List ℕ → ℕ → Bool
padded w s row = not (eqb (get_or s (row * row_bytes w + (row_bytes w - 1)) 0 % 2 ^ (8 * row_bytes w - w)) 0)

-- Rule 1.4: some of the first k rows has padding set
unfoldable pub padding_set : ℕ → ℕ → List ℕ → Bool
padding_set w k s = some k (padded w s)

-- Rule 1.4: the first row whose padding is set, "by layer and then row"
unfoldable pub first_padded : Settings → List ℕ → Found
first_padded s l = first 0 (rows_of s) (padded s.w l)

-- Rule 1.5: the bytes of a stack: byte j of a row has the eight pixels from column 8 * j on, and 0 where the row has ended
unfoldable pub byte_of : ℕ → ℕ → Stack → ℕ → ℕ → ℕ → ℕ
byte_of w h s row j zero = 0
byte_of w h s row j (suc k) = byte_of w h s row j k * 2 + bit (ltb (8 * j + k) w && s (row / h) (row % h * w + (8 * j + k)))

unfoldable pub bytes_of : ℕ → ℕ → ℕ → Stack → List ℕ
bytes_of w h n s = each 0 (n * h * row_bytes w) λ b. byte_of w h s (b / row_bytes w) (b % row_bytes w) 8

-- Rule 1.6: how many rings there are, and the ring of pixel p in plane i
unfoldable pub rings_in : Settings → ℕ
rings_in s = (s.n - 1) * (s.h * s.w)

unfoldable pub ring_at : ℕ → ℕ → List ℕ → Rings
ring_at w h l i p = get_or l (i * (h * w) + p) 0
