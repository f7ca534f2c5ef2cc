-- The posts call itself: what it leaves, and what is promised of it by its contract.
use Rattle.std.specs.Prelude.{◌≡◌, ◌⊎◌, ◌↔◌, true, false, ◌&&◌, length}
use Rattle.std.proofs.Math.Path.{sym}
use Rattle.std.proofs.Common.{ap, ◌∙◌, ⊎_elim, inl, inr, arith}
use mathlib.Core.List.{List, [], ◌∷◌}
use Prim.Native.Nat.{ℕ, suc, ◌-◌, ◌*◌, ◌<◌}
use Rattle.std.proofs.Math.ListN.{get_or}
use Rattle.rules.specs.Images.{Plane, Stack, row_bytes, pixel, padding_set, bytes_of}
use Rattle.rules.specs.Reach.{bound_by, bound_of}
use Rattle.rules.specs.Planning.{near, touch, planned_rings, planned_bytes}
use Rattle.rules.specs.Posts.{left_by, posts_bytes}
use Rattle.rules.specs.Demands.{Joined, Excused}
use Rattle.rules.specs.Calls.{refused, says_planned, plan_answer, plan_support, plan_refusal, posts_refusal, posts_answer, posts_posts}
use Rattle.rules.specs.Outcomes.{Plans, Posts}
use Rattle.rules.specs.declared.Micrometres.{Micrometres}
use Rattle.rules.specs.declared.Settings.{Settings}
use Rattle.rules.specs.declared.Planned.{Planned}
use Rattle.rules.specs.declared.Planned.TheVariants.{Done, Refused}
use Rattle.laws.specs.Tests.{length_each}
use Rattle.laws.specs.Padding.{refused_number, said_none}
use Rattle.laws.specs.Refusals.{answer_fine, answer_refused}
use Rattle.laws.specs.StackTables.{posts_exactly}
use Rattle.laws.specs.Limits.{ranged}
use Rattle.laws.specs.Bounds.{bound_none}
use Rattle.laws.specs.PixelBytes.{pixel_bytes}
use Rattle.laws.specs.BytePixels.{bytes_same}
use Rattle.laws.specs.Demand2.{planned_pixel, planned_pixel_lem, planned_ring}
use Rattle.laws.specs.Demand3.{bytes_of_clear}
use Rattle.laws.specs.PostLayers.{posts_at, posts_top}
use Rattle.laws.specs.Posts.{Holds, holds_more, post_or_joined, posts_gone_down, posts_stand, post_is_left, posts_clear, posts_in_support, posts_are_support, left_exactly}

-- What the call leaves ---------------------------------------------------------------------------------------------------

module _ (s : Settings) (r : Micrometres) (part old : List ℕ) where
  abbrev k : ℕ
  k = posts_refusal s r part (length old)

  -- not refused: the posts, whatever the lent memory held
  pub posts_fills : k ≡ 0 →
      (says_planned (posts_answer s r part (length old)) ≡ 0 ∷ [])
      × (posts_posts s r part old ≡ posts_bytes s.w s.h s.n (bound_of s) (bound_by s.pitch r).0 part)
  unfolding posts_answer posts_posts
  posts_fills e = (ap says_planned (answer_fine k Done (λ j. Refused (refused s part [] j)) e), answer_fine k _ (λ j. old) e)

  -- refused: the number first (posts_tells of Demand1 has what follows it), and the lent memory as it was found
  pub posts_keeps : (k ≡ 0 → ⊥) → (get_or (says_planned (posts_answer s r part (length old))) 0 0 ≡ k) × (posts_posts s r part old ≡ old)
  unfolding posts_answer posts_posts
  posts_keeps n =
      let a = answer_refused k Done (λ j. Refused (refused s part [] j)) n in
      (ap (λ (x : Planned). get_or (says_planned x) 0 0) a ∙ refused_number s part [] k, answer_refused k _ (λ j. old) n)

  -- an answer of 0 is one that is not refused
  pub posts_done : (a : Planned) → a ≡ posts_answer s r part (length old) → says_planned a ≡ 0 ∷ [] → k ≡ 0
  unfolding posts_answer
  posts_done a x e = said_none s part [] k (sym (ap says_planned x) ∙ e)

-- Rules 11, pixel by pixel ------------------------------------------------------------------------------------------------

-- "left by the overhang", by the planner's rings: part above, none below, and not excused
module _ (w h n : ℕ) (q : ℕ → ℕ) (part : List ℕ) where
  abbrev pub left : ℕ → Plane
  left = left_by (pixel w h part) (planned_ring w h n q part)

  pub left_means : (i p : ℕ) → suc i < n → p < h * w →
      (left i p ≡ true) ↔ ((pixel w h part (suc i) p ≡ true) × (pixel w h part i p ≡ false) × (Excused w h q (pixel w h part) i p → ⊥))
  unfolding planned_rings
  left_means i p l lp = left_exactly w h n q (pixel w h part) i p l lp

module _ (w h n : ℕ) (q : ℕ → ℕ) (r : ℕ) (part : List ℕ) where
  abbrev P : Stack
  P = pixel w h part

  abbrev L : ℕ → Plane
  L = left w h n q part

  abbrev pub post_pixel : ℕ → Plane
  post_pixel = pixel w h (posts_bytes w h n q r part)

  post_pixel_lem : (i p : ℕ) → i < n → p < h * w → post_pixel i p ≡ posts_at w h n r P (planned_ring w h n q part) i p
  unfolding posts_bytes
  post_pixel_lem i p li lp = pixel_bytes w h n (posts_at w h n r P (planned_ring w h n q part)) i p li lp

  at : (i p : ℕ) → i < n → p < h * w → post_pixel i p ≡ true → posts_at w h n r P (planned_ring w h n q part) i p ≡ true
  at i p li lp e = sym (post_pixel_lem i p li lp) ∙ e

  -- "The top layer has none"
  pub top_no_posts : (p : ℕ) → 0 < n → p < h * w → post_pixel (n - 1) p ≡ false
  top_no_posts p l lp = post_pixel_lem (n - 1) p (omega arith) lp ∙ posts_top w h n r P (planned_ring w h n q part) p l lp

  -- "Each pixel left by the overhang is a post of that layer or joins one by touching pixels, itself the first, all left by the overhang and within the radius
  -- of some post of that layer"
  pub left_held : (i p : ℕ) → suc i < n → p < h * w → L i p ≡ true →
      (post_pixel i p ≡ true) ⊎ ((k : ℕ) × Joined (h * w) (touch w) (λ o. L i o && near w h r (post_pixel i) o) (post_pixel i) k p)
  left_held i p l lp e =
      holds_more w h r (L i) (L i) (posts_at w h n r P (planned_ring w h n q part) i) (post_pixel i) (λ o lo t. t) (λ o lo t. post_pixel_lem i o (omega arith) lo ∙ t) p lp
      (post_or_joined w h n r P (planned_ring w h n q part) i p l lp e)

  -- "Each post above layer 0 stands on a post or on part"
  pub post_stands : (i p : ℕ) → suc i < n → p < h * w → post_pixel (suc i) p ≡ true → (post_pixel i p ≡ true) ⊎ (P i p ≡ true)
  post_stands i p l lp e = ⊎_elim (λ t. inl (post_pixel_lem i p (omega arith) lp ∙ t)) (λ t. inr t) (posts_stand w h n r P (planned_ring w h n q part) i p l lp (at (suc i) p l lp e))

  -- "Posts go down from the layer above except where they meet part", and every other post is a pixel that is left
  pub post_goes_down : (i p : ℕ) → suc i < n → p < h * w → post_pixel (suc i) p ≡ true → P i p ≡ false → post_pixel i p ≡ true
  post_goes_down i p l lp e f = post_pixel_lem i p (omega arith) lp ∙ posts_gone_down w h n r P (planned_ring w h n q part) i p l lp (at (suc i) p l lp e) f

  pub post_comes_from : (i p : ℕ) → suc i < n → p < h * w → post_pixel i p ≡ true → ((post_pixel (suc i) p ≡ true) × (P i p ≡ false)) ⊎ (L i p ≡ true)
  post_comes_from i p l lp e =
      ⊎_elim (λ (t, f). inl (post_pixel_lem (suc i) p l lp ∙ t, f)) (λ t. inr t) (post_is_left w h n r P (planned_ring w h n q part) i p l lp (at i p (omega arith) lp e))

  -- a post is never inside the part, and always in the planner's support
  pub post_clear : (i p : ℕ) → i < n → p < h * w → post_pixel i p ≡ true → P i p ≡ false
  post_clear i p l lp e = posts_clear w h n r P (planned_ring w h n q part) i p l lp (at i p l lp e)

  pub post_in_support : (i p : ℕ) → i < n → p < h * w → post_pixel i p ≡ true → planned_pixel w h n q part i p ≡ true
  unfolding planned_rings
  post_in_support i p l lp e = planned_pixel_lem w h n q part i p l lp ∙ posts_in_support w h n r P (planned_ring w h n q part) i p l lp (at i p l lp e)

-- with a radius that reaches no other pixel, posts are the planner's support, byte for byte
pub posts_bytes_none : (w h n : ℕ) (q : ℕ → ℕ) (part : List ℕ) → 0 < h → posts_bytes w h n q 0 part ≡ planned_bytes w h n q part
unfolding posts_bytes planned_bytes
posts_bytes_none w h n q part lh = bytes_same w h n _ _ lh (posts_are_support w h n (pixel w h part) (planned_ring w h n q part))

-- the bytes are those of a stack, with no padding set
pub posts_bytes_length : (w h n : ℕ) (q : ℕ → ℕ) (r : ℕ) (part : List ℕ) → length (posts_bytes w h n q r part) ≡ n * h * row_bytes w
unfolding posts_bytes bytes_of
posts_bytes_length w h n q r part = length_each 0 (n * h * row_bytes w) _

pub posts_bytes_clear : (w h n : ℕ) (q : ℕ → ℕ) (r : ℕ) (part : List ℕ) → 0 < w → padding_set w (n * h) (posts_bytes w h n q r part) ≡ false
unfolding posts_bytes
posts_bytes_clear w h n q r part lw = bytes_of_clear w h n _ lw

-- By the contract of the call ----------------------------------------------------------------------------------------------

module _ (s : Settings) (r : Micrometres) (part old : List ℕ) (a : Planned) (new : List ℕ) (x : Posts s r part old a new) (e : says_planned a ≡ 0 ∷ []) where
  abbrev none : posts_refusal s r part (length old) ≡ 0
  none = posts_done s r part old a x.answer e

  -- where the call says 0, the lent memory holds the posts, whatever it held
  pub posts_written : new ≡ posts_bytes s.w s.h s.n (bound_of s) (bound_by s.pitch r).0 part
  posts_written = x.posts ∙ (posts_fills s r part old none).1

  abbrev q : ℕ
  q = (bound_by s.pitch r).0

  -- so the two facts hold of it
  pub call_holds : (i p : ℕ) → suc i < s.n → p < s.h * s.w → left s.w s.h s.n (bound_of s) part i p ≡ true →
      Holds s.w s.h q (left s.w s.h s.n (bound_of s) part i) (pixel s.w s.h new i) p
  call_holds i p l lp t = rw posts_written (left_held s.w s.h s.n (bound_of s) q part i p l lp t)

  pub call_stands : (i p : ℕ) → suc i < s.n → p < s.h * s.w → pixel s.w s.h new (suc i) p ≡ true →
      (pixel s.w s.h new i p ≡ true) ⊎ (pixel s.w s.h part i p ≡ true)
  call_stands i p l lp = rw posts_written (post_stands s.w s.h s.n (bound_of s) q part i p l lp)

  -- a radius below the pitch: posts are the support that planning leaves, whatever memory is lent to it
  pub posts_below_pitch : r.0 < s.pitch.0 → (sup ring : List ℕ) (b : Planned) (sup' ring' : List ℕ) →
      Plans s part sup ring b sup' ring' → says_planned b ≡ 0 ∷ [] → new ≡ sup'
  unfolding plan_answer plan_support
  posts_below_pitch l sup ring b sup' ring' y f =
      let k : ℕ = plan_refusal s part (length sup) (length ring) in
      let z : k ≡ 0 = said_none s part [] k (sym (ap says_planned y.answer) ∙ f) in
      let range = ranged s ((posts_exactly s r part (length old)).0 none).settings in
      let o : (bound_by s.pitch r).0 ≡ 0 = bound_none s.pitch r (omega (arith, range.pitch_low)) l in
      posts_written ∙ rw o (posts_bytes_none s.w s.h s.n (bound_of s) part range.h_low) ∙ sym (y.support ∙ answer_fine k _ (λ j. sup) z)
