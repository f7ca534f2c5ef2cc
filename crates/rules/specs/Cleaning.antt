-- Rules 10: cleaning planned support for filament machines, and beside it Algorithm 3 of the chapter.
use Rattle.std.specs.Prelude.{false, not, ◌&&◌, ◌||◌, List, ℕ, zero, suc, ◌-◌}
use Rattle.rules.specs.Images.{Plane, Stack, Rings, pixel, bytes_of, ring_at}
use Rattle.rules.specs.Reach.{square}
use Rattle.rules.specs.Planning.{shadow, near, excused, planned, empty, planned_rings, region_subtraction}
use Rattle.rules.specs.declared.Pixels.{Pixels}
use Rattle.rules.specs.declared.Bound.{Bound}

-- Rule 10.1, "c from 0 to 32"
abbrev pub most_gap : ℕ
most_gap = 32

-- Rule 10.1, "a disc of c whole pixels": squared distances up to c², the bound d below
unfoldable pub disc_of : Pixels → Bound
disc_of c = record { 0 = square c.0 }

-- Rule 10.2, "dilation is cut to the image", needs no definition: it is near (rule 3.2) of any plane

-- Rule 10.3, "erosion asks only about pixels that exist": the pixels with no pixel of the image within the disc that is outside the plane
unfoldable pub eroded : ℕ → ℕ → ℕ → Plane → Plane
eroded w h d f p = not (near w h d (λ o. not (f o)) p)

-- Rule 10.4, "closing is dilation and then erosion"
unfoldable pub closed : ℕ → ℕ → ℕ → Plane → Plane
closed w h d f = eroded w h d (near w h d f)

-- Rule 10.5, "F(i) is F(i+1) with the closing of S(i), without the excused pixels, without P(i)": F of layer i, k layers below the top, where
-- "F(top) is empty"
unfoldable pub cleaned_under : ℕ → ℕ → ℕ → Stack → Rings → Stack → ℕ → Stack
cleaned_under w h d part ring sup zero i p = false
cleaned_under w h d part ring sup (suc k) i p =
    (cleaned_under w h d part ring sup k (suc i) p || closed w h d (sup i) p) && not (excused ring i p) && not (part i p)

unfoldable pub cleaned : ℕ → ℕ → ℕ → ℕ → Stack → Rings → Stack → Stack
cleaned w h n d part ring sup i p = cleaned_under w h d part ring sup (n - 1 - i) i p

-- Rule 10.6: the bytes of F, from the bytes of the part; support and rings are the planner's (rule 3.9)
unfoldable pub cleaned_bytes : ℕ → ℕ → ℕ → (ℕ → ℕ) → Pixels → List ℕ → List ℕ
cleaned_bytes w h n q c part =
    let ring : Rings = ring_at w h (planned_rings w h n q part) in
    bytes_of w h n (cleaned w h n (disc_of c).0 (pixel w h part) ring (planned n (pixel w h part) empty ring))

-- Rule 10.7: Algorithm 3, RegionSubtractionFDM, by its lines, with S(i+1) in `above` and F(i+1) in `cleaned_above`. 1: Ψ ← P(i+1) − P(i); 2: S(i) ← RegionSubtraction;
-- 3: Δ ← Ψ − S(i); 4: F(i) ← F(i+1) ∪ η(S(i)) − Δ − P(i)
unfoldable pub region_subtraction_fdm : ℕ → ℕ → ℕ → ℕ → Plane → Plane → Plane → Plane → Plane
region_subtraction_fdm w h q d low up above cleaned_above p =
    let S : Plane = region_subtraction w h q low up above in
    (cleaned_above p || closed w h d S p) && not (shadow low up p && not (S p)) && not (low p)
