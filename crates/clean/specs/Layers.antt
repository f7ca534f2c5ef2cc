-- The cleaned support by the layers of part and support alone: what is excused is the shadow that has no support.
use Rattle.std.specs.Prelude.{◌≡◌, Bool, false, not, ◌&&◌, ◌||◌, List, ℕ, zero, suc, ◌+◌, ◌-◌, ◌*◌, ◌≤◌, length}
use Rattle.rules.specs.Images.{Plane, Stack, row_bytes, stack_bytes, pixel, bytes_of, padding_set}
use Rattle.rules.specs.Calls.{clean_refusal}
use Rattle.rules.specs.Cleaning.{most_gap, closed}
use Rattle.rules.specs.declared.Pixels.{Pixels}
use Rattle.rules.specs.declared.Settings.{Settings}
use Rattle.image.specs.Rows.{Packs, plane}
use Rattle.image.specs.Scratch.{bit_of}
use Rattle.plan.specs.Stacks.{From}

-- one layer: `low` and `up` are of the part, `sup` is the support, `above` the cleaned layer above, `wide` the closing
unfoldable pub layer_of : Plane → Plane → Plane → Plane → Plane → Plane
layer_of low up sup above wide p = (above p || wide p) && not (low p) && (not (up p) || sup p)

-- layer i, d layers below the top, for a disc of the bound q
unfoldable pub clean_under : ℕ → ℕ → ℕ → Stack → Stack → ℕ → Stack
clean_under w h q part sup zero i p = false
clean_under w h q part sup (suc d) i p = layer_of (part i) (part (suc i)) (sup i) (clean_under w h q part sup d (suc i)) (closed w h q (sup i)) p

unfoldable pub clean_by : ℕ → ℕ → ℕ → ℕ → Stack → Stack → Stack
clean_by w h n q part sup i p = clean_under w h q part sup (n - 1 - i) i p

-- the same of bits: bit j of the layer from byte `at` on, the layer above being `size` bytes behind
unfoldable pub joined_bit : ℕ → ℕ → List ℕ → List ℕ → List ℕ → List ℕ → ℕ → Bool
joined_bit at size part sup wide clean j =
    (bit_of clean (size * 8 + j) || bit_of wide (j - at * 8)) && not (bit_of part j) && (not (bit_of part (size * 8 + j)) || bit_of sup j)

-- r is the refusal of cleaning where it is not 0, and else what comes before planning's own tests is right
pub record Early (s : Settings) (c : Pixels) (part clean r : ℕ) : Type 0 where
  pub refused : (r ≡ 0 → ⊥) → (l : List ℕ) (sup k : ℕ) → length l ≡ part → r ≡ clean_refusal s c l sup k clean
  pub gap : r ≡ 0 → c.0 ≤ most_gap
  pub clean_long : r ≡ 0 → clean ≡ stack_bytes s

-- what is lent: a part, support without padding bits, and room for the cleaned support
pub record Lent (w h n : ℕ) (part support clean : List ℕ) : Type 0 where
  pub part_long : length part ≡ n * h * row_bytes w
  pub support_long : length support ≡ n * h * row_bytes w
  pub support_clear : padding_set w (n * h) support ≡ false
  pub clean_long : length clean ≡ n * h * row_bytes w

-- the layers from i on are cleaned, and wide is the closing of the support of layer i
pub record Down (w h n q i : ℕ) (part support clean wide : List ℕ) : Type 0 where
  pub done : From (i * (h * row_bytes w)) clean (bytes_of w h n (clean_by w h n q (pixel w h part) (pixel w h support)))
  pub here : Packs w h (clean_by w h n q (pixel w h part) (pixel w h support) i) (plane (h * row_bytes w) i clean)
  pub wide_is : Packs w h (closed w h q (pixel w h support i)) wide
