-- What the searches look for, one definition for both: a bad ring, or an unheld pixel.
use Rattle.std.specs.Prelude.{◌≡◌, Bool, List, Option, Some, None, MatchOption, unwrap_or, ℕ, ◌+◌, ◌-◌, ◌*◌, ◌<◌, ◌≤◌, length, get_or}
use Rattle.std.proofs.Math.Path.{refl}
use Rattle.std.proofs.Common.{◌∙◌, arith}
use Rattle.std.proofs.Math.Bool.{true, false}
use Rattle.rules.specs.Images.{Plane, Stack, row_bytes, pixel, ring_at}
use Rattle.rules.specs.Planning.{near, seeds, source}
use Rattle.rules.specs.Judging.{bad_ring, unheld}
use Rattle.image.specs.Rows.{packed}
use Rattle.places.specs.Search.{FirstOf, bad_here, unheld_here, flat, Sized}
use Rattle.places.specs.Finding.{least_none, least_one}
use Rattle.words.specs.Words.{Within}
use Rattle.planes.specs.Scratch.{Sizes, Framed, Drawn, seen}
use Rattle.places.specs.Planes.{cut, bad_plane, unheld_plane}
use Rattle.quick.specs.Stacks.{bytes_is}
use Rattle.quick.specs.Sureness.{Whole}
use Rattle.quick.specs.RowsOfPair.{put_four}
use Rattle.quick.specs.Layers.{sizes_of, near_drawn}
use Rattle.quick.specs.declared.Sure.{Sure}

-- what a pixel of ring k must touch
unfoldable pub lender : ℕ → List ℕ → List ℕ → List ℕ → ℕ → Plane
lender w low up rings k = source (seeds (packed w low) (packed w up)) (λ o. get_or rings o 0) (k - 1)

-- in a pair of layers, by their bytes
unfoldable pub amiss_here : Bool → ℕ → ℕ → ℕ → List ℕ → List ℕ → List ℕ → List ℕ → List ℕ → Plane
amiss_here true w h q low up below above rings = bad_here w h q (packed w low) (packed w up) (λ o. get_or rings o 0)
amiss_here false w h q low up below above rings = unheld_here (packed w low) (packed w up) (packed w below) (packed w above) (λ o. get_or rings o 0)

-- in a stack
unfoldable pub amiss_in : Bool → ℕ → ℕ → ℕ → List ℕ → List ℕ → List ℕ → Stack
amiss_in true w h q part sup rings = bad_ring w h (λ (i : ℕ). q) (pixel w h part) (ring_at w h rings)
amiss_in false w h q part sup rings = unheld (pixel w h part) (pixel w h sup) (ring_at w h rings)

-- what the quick test says of it
unfoldable pub sure_of : Sure → Bool → Bool
sure_of s true = s.rings
sure_of s false = s.held

-- the bytes of a pair, and its rings
pub record Planes (w h : ℕ) (low up below above rings : List ℕ) : Type 0 where
  pub low_long : length low ≡ h * row_bytes w
  pub up_long : length up ≡ h * row_bytes w
  pub below_long : length below ≡ h * row_bytes w
  pub above_long : length above ≡ h * row_bytes w
  pub rings_long : length rings ≡ h * w

-- the near pixels of row r, put into four words
pub close_row : (w h q r : ℕ) (low disc : List ℕ) (n was out : ℕ → Bool) → Sized w h → r < h → Drawn w h (packed w low) disc →
    ((w h : ℕ) → Sizes w h → Framed w h disc → r < h → (c : ℕ) → c < w → n c ≡ near w h q (seen w disc) (r * w + c)) → Within (0 * 64) ((0 + 4) * 64) (λ j. n (j - 0 * 64)) was out →
    (c : ℕ) → c < w → out c ≡ near w h q (packed w low) (r * w + c)
close_row w h q r low disc n was out z lr d is put c lc =
    put_four n was out put c (omega (arith, z.w_high)) ∙ is w h (sizes_of w h z) d.ready.framed lr c lc ∙ near_drawn w h q low disc d (r * w + c)

-- where the quick test is sure nothing is amiss
pub sure_none : (ringed : Bool) (w h q : ℕ) (low up below above rings : List ℕ) (s : Sure) → sure_of s ringed ≡ true
    → (s.rings ≡ true → (p : ℕ) → p < h * w → bad_here w h q (packed w low) (packed w up) (λ o. get_or rings o 0) p ≡ false)
    → (s.held ≡ true → (p : ℕ) → p < h * w → unheld_here (packed w low) (packed w up) (packed w below) (packed w above) (λ o. get_or rings o 0) p ≡ false)
    → (p : ℕ) → 0 ≤ p → p < h * w → amiss_here ringed w h q low up below above rings p ≡ false
unfolding sure_of amiss_here
sure_none true w h q low up below above rings s e good held p z l = good e p l
sure_none false w h q low up below above rings s e good held p z l = held e p l

-- what `find` over a row's columns answers
pub first_found : (n : ℕ) (f : ℕ → Bool) (r : Option ℕ) →
    MatchOption r ((k : ℕ) → 0 ≤ k → k < n → k < n → f k ≡ false) (λ i. (0 ≤ i) × (i < n) × (i < n → f i ≡ true) × ((k : ℕ) → 0 ≤ k → k < i → k < n → f k ≡ false)) →
    FirstOf 0 n f (unwrap_or r n)
first_found n f None none = least_none 0 n f (omega arith) (λ k a l. none k a l l)
first_found n f (Some i) (a, l, hit, before) = least_one 0 n f i a l (λ k b m. before k b m (omega arith)) (hit l)

-- pixels of a pair, counted through
module _ {w h n rb at x : ℕ} {part sup rings : List ℕ} (i : ℕ) (W : Whole w h n part sup rings) (B : (rb ≡ row_bytes w) × (rb ≤ 32)) (ea : at ≡ i * (h * rb)) (ex : x ≡ i * (h * w))
    (l : i + 1 < n) where
  pub amiss_pair : (ringed : Bool) (q p : ℕ) → p < h * w → flat w h (amiss_in ringed w h q part sup rings) (x + p)
      ≡ amiss_here ringed w h q (cut at (at + h * rb) part) (cut (at + h * rb) (at + h * rb + h * rb) part) (cut at (at + h * rb) sup) (cut (at + h * rb) (at + h * rb + h * rb) sup)
      (cut x (x + h * w) rings) p
  unfolding amiss_in amiss_here
  amiss_pair true q p lp =
      bad_plane w h i (h * rb) (h * w) at x (at + h * rb) (at + h * rb + h * rb) (x + h * w) (bytes_is i W B ea ex l) refl ea ex refl refl refl (λ (j : ℕ). q) q part rings refl p lp
  amiss_pair false q p lp = unheld_plane w h i (h * rb) (h * w) at x (at + h * rb) (at + h * rb + h * rb) (x + h * w) (bytes_is i W B ea ex l) refl ea ex refl refl refl part sup rings p lp
