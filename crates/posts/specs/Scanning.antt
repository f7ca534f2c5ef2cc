-- The scan of what remains of a plane.
use Rattle.std.specs.Prelude.{◌≡◌, Bool, ◌||◌, List, ℕ, ◌*◌, ◌<◌, ◌≤◌}
use Rattle.rules.specs.Images.{row_bytes}
use Rattle.rules.specs.Posts.{scanned, listed}
use Rattle.rules.specs.Tools.{count, each}
use Rattle.image.specs.Rows.{packed, Clean}
use Rattle.planes.specs.Scratch.{Sizes, Ready, seen}
use Rattle.pair.specs.Found.{Empty}

-- what a scan works on: what remains, scratch that is empty between posts, and the packed plane that the posts are set in
pub record ScanPlanes (w h n : ℕ) (rest got out : List ℕ) : Type 0 where
  pub sizes : Sizes w h
  pub bytes : n ≡ row_bytes w
  pub rest_ready : Ready w h rest
  pub got_empty : Empty got
  pub out_clean : Clean w h out

-- the posts that a scan finds from here on, with enough steps for all that remains
abbrev pub to_come : ℕ → ℕ → ℕ → ℕ → List ℕ → ℕ → Bool
to_come w h q k rest p = listed (scanned w h q k (each 0 (h * w) (seen w rest))) p

-- a stretch of the scan: what is set at its end and what comes then is what was set at its beginning and came then
abbrev pub Scanning : ℕ → ℕ → ℕ → List ℕ → List ℕ → List ℕ → List ℕ → Type 0
Scanning w h q rest out rest' out' = (k : ℕ) → count (h * w) (seen w rest) ≤ k → (j : ℕ) × (count (h * w) (seen w rest') ≤ j)
    × ((p : ℕ) → p < h * w → (packed w out' p || to_come w h q j rest' p) ≡ (packed w out p || to_come w h q k rest p))
