-- Planning a stack from the top down: what is done when it has come down to a layer.
use Rattle.std.specs.Prelude.{◌≡◌, Bool, true, false, cond, List, ℕ, ◌-◌, ◌*◌, ◌<◌, ◌≤◌, get_or, length}
use Rattle.rules.specs.Images.{Stack, row_bytes, pixel, ring_at, padding_set}
use Rattle.rules.specs.Planning.{planned, empty, planned_rings, planned_bytes}
use Rattle.image.specs.Rows.{Packs}

-- a plane of rings without any
abbrev pub Bare : ℕ → List ℕ → Type 0
Bare area rings = (p : ℕ) → p < area → get_or rings p 0 ≡ 0

-- the buffers of a stack: a part without padding bits, and room for its support and its rings, or for the rings of one pair where they are not kept
pub record Buffers (keep : Bool) (w h n : ℕ) (part support rings : List ℕ) : Type 0 where
  pub part_long : length part ≡ n * h * row_bytes w
  pub clean : padding_set w (n * h) part ≡ false
  pub support_long : length support ≡ n * h * row_bytes w
  pub rings_long : length rings ≡ cond keep ((n - 1) * (h * w)) (h * w)
  pub bare : keep ≡ false → Bare (h * w) rings

-- from place a on, xs is ys
abbrev pub From : ℕ → List ℕ → List ℕ → Type 0
From a xs ys = (x : ℕ) → a ≤ x → get_or xs x 0 ≡ get_or ys x 0

-- the planned support of a part, layer by layer
abbrev pub planned_stack : ℕ → ℕ → ℕ → ℕ → List ℕ → Stack
planned_stack w h n q part = planned n (pixel w h part) empty (ring_at w h (planned_rings w h n (λ k. q) part))

-- the layers from i on are planned: their support, and the rings of the pairs from i on where they are kept; and the support of layer i stands in above
pub record Down (keep : Bool) (w h n q i : ℕ) (part support rings above : List ℕ) : Type 0 where
  pub support_done : From (i * (h * row_bytes w)) support (planned_bytes w h n (λ k. q) part)
  pub rings_done : keep ≡ true → From (i * (h * w)) rings (planned_rings w h n (λ k. q) part)
  pub bare : keep ≡ false → Bare (h * w) rings
  pub above_is : Packs w h (planned_stack w h n q part i) above
