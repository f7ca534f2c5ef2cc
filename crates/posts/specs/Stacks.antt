-- The posts of a stack from the top down: what is done when they have come down to a layer.
use Rattle.std.specs.Prelude.{◌≡◌, false, List, ℕ, ◌-◌, ◌*◌, ◌<◌, length, get_or}
use Rattle.rules.specs.Images.{Stack, row_bytes, pixel, ring_at, padding_set}
use Rattle.rules.specs.Planning.{planned_rings, planned_bytes}
use Rattle.rules.specs.Posts.{posts_from, stack_of, posts_bytes}
use Rattle.image.specs.Rows.{Packs, plane}
use Rattle.planes.specs.Scratch.{Ready}
use Rattle.pair.specs.Found.{Empty}
use Rattle.plan.specs.Stacks.{From}

-- a part without padding bits, and room for its posts
pub record Lent (w h n : ℕ) (part posts : List ℕ) : Type 0 where
  pub part_long : length part ≡ n * h * row_bytes w
  pub clean : padding_set w (n * h) part ≡ false
  pub posts_long : length posts ≡ n * h * row_bytes w

-- the posts of a part, layer by layer, for the bounds q and r
abbrev pub posts_stack : ℕ → ℕ → ℕ → ℕ → ℕ → List ℕ → Stack
posts_stack w h n q r part = stack_of (posts_from w h r (pixel w h part) (ring_at w h (planned_rings w h n (λ k. q) part)) (n - 1) 0)

-- scratch between layers: room for two planes twice, rings of a pair that are 0, an empty plane, and room for a plane
pub record Scratch (w h : ℕ) (two held ring got plane : List ℕ) : Type 0 where
  pub two_long : length two ≡ 2 * h * row_bytes w
  pub held_long : length held ≡ 2 * h * row_bytes w
  pub ring_long : length ring ≡ h * w
  pub ring_bare : (p : ℕ) → p < h * w → get_or ring p 0 ≡ 0
  pub got_empty : Empty got
  pub plane_ready : Ready w h plane

-- the layers from i on have their posts, and those of layer i stand in above; the layers below still have the planner's support
pub record Down (w h n q r i : ℕ) (part posts above : List ℕ) : Type 0 where
  pub posts_done : From (i * (h * row_bytes w)) posts (posts_bytes w h n (λ k. q) r part)
  pub above_is : Packs w h (posts_stack w h n q r part i) above
  pub support_left : (k : ℕ) → k < i → plane (h * row_bytes w) k posts ≡ plane (h * row_bytes w) k (planned_bytes w h n (λ k. q) part)
