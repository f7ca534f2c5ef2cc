-- What posts do, over stacks of pixels: each pixel that the overhang leaves is a post or joins one, and each post stands on a post or on part. Part and
-- rings are any, where the planner's are not named.
use Rattle.std.specs.Prelude.{◌≡◌, refl, ◌⊎◌, ◌↔◌, true, ◌&&◌, ◌||◌, ltb}
use Rattle.std.proofs.Common.{sym, ◌∙◌, eqb-true, eq-eqb, ltb-true, ltb-false}
use Rattle.std.proofs.Math.Path.{ap}
use Rattle.std.proofs.Math.Logic.{inl, inr, ⊎_elim}
use Rattle.std.proofs.Math.Bool.{Bool, false, not}
use mathlib.Core.List.{List}
use Prim.Native.Nat.{ℕ, zero, suc, ◌+◌, ◌-◌, ◌*◌, ◌≤◌, ◌<◌}
use native.Mathlib.Omega.{arith}
use Rattle.std.proofs.Math.Dec.{eqb}
use Rattle.std.proofs.lemmas.Bool.{eqb-false}
use Rattle.rules.specs.Tools.{count}
use Rattle.rules.specs.Images.{Plane, Stack, Rings}
use Rattle.rules.specs.Planning.{shadow, near, touch, planned, support_under, top_of, empty}
use Rattle.rules.specs.Demands.{Joined, Excused}
use Rattle.rules.specs.Posts.{left_by, gone_down, plane_of, listed, spared, scanned, posts_below}
use Rattle.laws.specs.Tests.{split, clash, and_l, and_r, and_in, or_l, or_r, or_out, or_false, not_in, not_out, count_le}
use Rattle.laws.specs.Growing.{joined_more, ring_joined, ring_fewest}
use Rattle.laws.specs.Soundness.{rings_of, not_excused, planned_step, rings_of_excused, rings_of_fewest}
use Rattle.laws.specs.Closing.{Inside, near_keeps}
use Rattle.laws.specs.PostLayers.{posts_at, posts_top, posts_layer, posts_step, about, taken, spared_is, spared_left, new_posts, below_is, below_zero}
use Rattle.laws.specs.PostLayers.{FirstLeft, scan_first, scan_less, scan_cases, scan_in, none_counted}

-- One layer ------------------------------------------------------------------------------------------------------------------

module _ (w h q : ℕ) where
  -- the pixel is one of the posts, or joins one by touching pixels, itself the first, all of them in `rest` and within the radius of some post
  abbrev pub Holds : Plane → Plane → ℕ → Type 0
  Holds rest posts p = (posts p ≡ true) ⊎ ((k : ℕ) × Joined (h * w) (touch w) (λ o. rest o && near w h q posts o) posts k p)

  -- more posts hold more
  pub holds_more : (rest rest' posts posts' : Plane) → Inside w h rest rest' → Inside w h posts posts' → (p : ℕ) → p < h * w → Holds rest posts p → Holds rest' posts' p
  holds_more rest rest' posts posts' a b p l (inl e) = inl (b p l e)
  holds_more rest rest' posts posts' a b p l (inr (k, j)) = inr (
    k,
    joined_more (h * w) (touch w) (about w h q rest posts) (about w h q rest' posts') posts posts'
        (λ o lo t. and_in _ _ (a o lo (and_l (rest o) _ t)) (near_keeps w h q posts posts' b o (and_r (rest o) _ t))) b l j,
  )

  -- what posts take away, they hold
  taken_holds : (rest posts : Plane) (p : ℕ) → p < h * w → rest p ≡ true → plane_of (spared w h q rest posts) p ≡ false → Holds rest posts p
  taken_holds rest posts p l e z = split (posts p) (λ t. inl t) (λ f. inr (go f (taken w h q rest posts p) refl))
    where
      go : posts p ≡ false → (r : ℕ) → taken w h q rest posts p ≡ r → (k : ℕ) × Joined (h * w) (touch w) (λ o. rest o && near w h q posts o) posts k p
      go f zero x = clash (spared_is w h q rest posts p l ∙ and_in _ _ (and_in _ _ e (not_in (posts p) f)) (eq-eqb (taken w h q rest posts p) 0 x)) z
      go f (suc r) x = (suc r, ring_joined (h * w) (touch w) (about w h q rest posts) posts p r l x)

  -- the posts of a scan hold all that remained when it began
  scan_holds : (k : ℕ) (rest : List Bool) → count (h * w) (plane_of rest) ≤ k → (p : ℕ) → p < h * w → plane_of rest p ≡ true → Holds (plane_of rest) (listed (scanned w h q k rest)) p
  unfolding listed
  scan_holds zero rest b p l e = clash e (none_counted w h q rest b p l)
  scan_holds (suc k) rest b p l e = scan_cases w h q rest
      (λ none. clash e (none p l))
      (λ a f.
      let S : List Bool = spared w h q (plane_of rest) (eqb a) in
      let new : Plane = listed (scanned w h q k S) in
      rw (scan_first w h q k rest a f)
      (split (plane_of S p)
      (λ t. holds_more (plane_of S) (plane_of rest) new (λ o. eqb a o || new o) (spared_left w h q (plane_of rest) (eqb a)) (λ o lo u. or_r (eqb a o) _ u) p l
      (scan_holds k S (omega (arith, scan_less w h q rest a f)) p l t))
      (λ t. holds_more (plane_of rest) (plane_of rest) (eqb a) (λ o. eqb a o || new o) (λ o lo u. u) (λ o lo u. or_l (eqb a o) _ u) p l
      (taken_holds (plane_of rest) (eqb a) p l e t))))

  module _ (left down : Plane) where
    abbrev posts : Plane
    posts = plane_of (posts_below w h q left down)

    -- the posts gone down are posts of the layer, and so are those of the scan
    below_down : Inside w h down posts
    below_down p l e = below_is w h q left down p l ∙ or_l (down p) _ e

    below_new : Inside w h (listed (new_posts w h q left down)) posts
    below_new p l e = below_is w h q left down p l ∙ or_r (down p) _ e

    -- each post has gone down, or is a pixel that was left
    below_cases : (p : ℕ) → p < h * w → posts p ≡ true → (down p ≡ true) ⊎ (left p ≡ true)
    below_cases p l e = ⊎_elim (λ t. inl t) (λ t. inr (spared_left w h q left down p l (scan_in w h q (h * w) (spared w h q left down) p l t)))
        (or_out (down p) _ (sym (below_is w h q left down p l) ∙ e))

    -- together they hold all that was left
    below_holds : (p : ℕ) → p < h * w → left p ≡ true → Holds left posts p
    below_holds p l e =
        let S : List Bool = spared w h q left down in
        split (plane_of S p)
        (λ t. holds_more (plane_of S) left (listed (new_posts w h q left down)) posts (spared_left w h q left down) below_new p l
        (scan_holds (h * w) S (count_le (h * w) (plane_of S)) p l t))
        (λ t. holds_more left left down posts (λ o lo u. u) below_down p l (taken_holds left down p l e t))

  -- "takes away all that grows from it": no later post of a scan is joined to an earlier one by pixels that remained within its radius
  pub scan_apart : (k : ℕ) (rest : List Bool) (a b : ℕ) → FirstLeft w h q rest a → b < h * w → listed (scanned w h q k (spared w h q (plane_of rest) (eqb a))) b ≡ true →
      Holds (plane_of rest) (eqb a) b → ⊥
  scan_apart k rest a b f l e = go (sym (spared_is w h q (plane_of rest) (eqb a) b l) ∙ scan_in w h q k (spared w h q (plane_of rest) (eqb a)) b l e)
    where
      go : (plane_of rest b && not (eqb a b) && eqb (taken w h q (plane_of rest) (eqb a) b) 0) ≡ true → Holds (plane_of rest) (eqb a) b → ⊥
      go t (inl u) = clash u (not_out (eqb a b) (and_r (plane_of rest b) _ (and_l (plane_of rest b && not (eqb a b)) _ t)))
      go t (inr (j, u)) = omega (
        arith,
        ring_fewest (h * w) (touch w) (about w h q (plane_of rest) (eqb a)) (eqb a) l u,
        eqb-true (taken w h q (plane_of rest) (eqb a) b) 0 (and_r (plane_of rest b && not (eqb a b)) _ t),
      )

-- A stack ---------------------------------------------------------------------------------------------------------------------

module _ (w h n q : ℕ) (part : Stack) (ring : Rings) where
  abbrev post : Stack
  post = posts_at w h n q part ring

  abbrev down : ℕ → Plane
  down i = gone_down (part i) (post (suc i))

  -- "Each pixel left by the overhang is a post of that layer or joins one by touching pixels, itself the first, all left by the overhang and within the radius
  -- of some post of that layer"
  pub post_or_joined : (i p : ℕ) → suc i < n → p < h * w → left_by part ring i p ≡ true →
      (post i p ≡ true) ⊎ ((k : ℕ) × Joined (h * w) (touch w) (λ o. left_by part ring i o && near w h q (post i) o) (post i) k p)
  post_or_joined i p l lp e = rw (posts_layer w h n q part ring i l) (below_holds w h q (left_by part ring i) (down i) p lp e)

  -- "Posts go down from the layer above except where they meet part"
  pub posts_gone_down : (i p : ℕ) → suc i < n → p < h * w → post (suc i) p ≡ true → part i p ≡ false → post i p ≡ true
  unfolding gone_down
  posts_gone_down i p l lp e f = posts_step w h n q part ring i l p lp ∙ below_down w h q (left_by part ring i) (down i) p lp (and_in _ _ e (not_in (part i p) f))

  -- "Each post above layer 0 stands on a post or on part"
  pub posts_stand : (i p : ℕ) → suc i < n → p < h * w → post (suc i) p ≡ true → (post i p ≡ true) ⊎ (part i p ≡ true)
  posts_stand i p l lp e = split (part i p) (λ t. inr t) (λ f. inl (posts_gone_down i p l lp e f))

  -- a post has gone down from the layer above, or is a pixel that the overhang leaves
  pub post_is_left : (i p : ℕ) → suc i < n → p < h * w → post i p ≡ true → ((post (suc i) p ≡ true) × (part i p ≡ false)) ⊎ (left_by part ring i p ≡ true)
  unfolding gone_down
  post_is_left i p l lp e = ⊎_elim
      (λ t. inl (and_l (post (suc i) p) _ t, not_out (part i p) (and_r (post (suc i) p) _ t)))
      (λ t. inr t)
      (below_cases w h q (left_by part ring i) (down i) p lp (sym (posts_step w h n q part ring i l p lp) ∙ e))

  -- what is left is a shadow pixel: part above, and none below
  left_shadow : (i p : ℕ) → left_by part ring i p ≡ true → shadow (part i) (part (suc i)) p ≡ true
  unfolding left_by
  left_shadow i p e = and_l (shadow (part i) (part (suc i)) p) _ e

  left_clear : (i p : ℕ) → left_by part ring i p ≡ true → part i p ≡ false
  unfolding shadow
  left_clear i p e = not_out (part i p) (and_r (part (suc i) p) _ (left_shadow i p e))

  -- a layer is the top one or has one above it
  layers : {C : Type 0} (i : ℕ) → i < n → (suc i < n → C) → (n - 1 ≡ i → C) → C
  layers i l below top = split (ltb (suc i) n) (λ t. below (ltb-true (suc i) n t)) (λ t. top (omega (arith, ltb-false (suc i) n t)))

  -- a post is never inside the part
  pub posts_clear : (i p : ℕ) → i < n → p < h * w → post i p ≡ true → part i p ≡ false
  posts_clear i p l lp e = layers i l
      (λ m. ⊎_elim (λ (t, f). f) (left_clear i p) (post_is_left i p m lp e))
      (λ z. clash (rw (← z) at e) (posts_top w h n q part ring p (omega arith) lp))

  -- so none that goes down is a pixel that is left, whose own pixel is part of the layer above
  pub down_apart : (i p : ℕ) → suc i < n → p < h * w → down i p ≡ true → left_by part ring i p ≡ false
  unfolding gone_down left_by shadow
  down_apart i p l lp e = let f : part (suc i) p ≡ false = posts_clear (suc i) p l lp (and_l (post (suc i) p) _ e) in rw f

  -- Beside the planner's support ----------------------------------------------------------------------------------------------

  abbrev support : Stack
  support = planned n part empty ring

  pub left_is : (i p : ℕ) → left_by part ring i p ≡ (shadow (part i) (part (suc i)) p && eqb (ring i p) 0)
  unfolding left_by
  left_is i p = rw (not_excused w h n (λ x. 0) part ring i p)

  -- what is left, and what stands above outside the part, is support; and nothing else is
  support_is : (i p : ℕ) → suc i < n → support i p ≡ ((left_by part ring i p || support (suc i) p) && not (part i p))
  unfolding empty
  support_is i p l =
      planned_step w h n (λ x. 0) part empty ring i p l ∙ ap (λ (b : Bool). b && not (part i p)) (or_false _ ∙ ap (λ (b : Bool). b || support (suc i) p) (sym (left_is i p)))

  -- posts are never beyond it, layer by layer from the top
  under : (k i p : ℕ) → k + suc i ≡ n → p < h * w → post i p ≡ true → support i p ≡ true
  under zero i p z lp e = let y : n - 1 ≡ i = omega arith in clash (rw (← y) at e) (posts_top w h n q part ring p (omega arith) lp)
  under (suc k) i p z lp e =
      support_is i p (omega arith)
      ∙ ⊎_elim
      (λ (t, f). and_in _ _ (or_r (left_by part ring i p) _ (under k (suc i) p (omega arith) lp t)) (not_in (part i p) f))
      (λ t. and_in _ _ (or_l (left_by part ring i p) _ t) (not_in (part i p) (left_clear i p t)))
      (post_is_left i p (omega arith) lp e)

  pub posts_in_support : (i p : ℕ) → i < n → p < h * w → post i p ≡ true → support i p ≡ true
  posts_in_support i p l lp e = under (n - 1 - i) i p (omega arith) lp e

-- A radius of 0: "each left pixel becomes a post"
module _ (w h n : ℕ) (part : Stack) (ring : Rings) where
  zero_step : (i p : ℕ) → suc i < n → p < h * w → posts_at w h n 0 part ring i p ≡ (left_by part ring i p || posts_at w h n 0 part ring (suc i) p && not (part i p))
  unfolding gone_down
  zero_step i p l lp = posts_step w h n 0 part ring i l p lp ∙ below_zero w h (left_by part ring i) (gone_down (part i) (posts_at w h n 0 part ring (suc i))) p lp

  pub posts_all : (i p : ℕ) → suc i < n → p < h * w → left_by part ring i p ≡ true → posts_at w h n 0 part ring i p ≡ true
  posts_all i p l lp e = zero_step i p l lp ∙ or_l _ _ e

  support_top : (p : ℕ) → planned n part empty ring (n - 1) p ≡ false
  unfolding planned support_under top_of empty
  support_top p = let z : n - 1 - (n - 1) ≡ 0 = omega arith in rw z

  -- so they are the planner's support
  all_under : (k i p : ℕ) → k + suc i ≡ n → p < h * w → posts_at w h n 0 part ring i p ≡ planned n part empty ring i p
  all_under zero i p z lp = let y : n - 1 ≡ i = omega arith in rw (← y) (posts_top w h n 0 part ring p (omega arith) lp ∙ sym (support_top p))
  all_under (suc k) i p z lp =
      zero_step i p (omega arith) lp
      ∙ rw (all_under k (suc i) p (omega arith) lp)
      (outside (left_by part ring i p) (planned n part empty ring (suc i) p) (part i p) (left_clear w h n 0 part ring i p))
      ∙ sym (support_is w h n 0 part ring i p (omega arith))
    where
      outside : (a b c : Bool) → (a ≡ true → c ≡ false) → (a || b && not c) ≡ ((a || b) && not c)
      outside true b c f = rw (f refl)
      outside false b c f = refl

  pub posts_are_support : (i p : ℕ) → i < n → p < h * w → posts_at w h n 0 part ring i p ≡ planned n part empty ring i p
  posts_are_support i p l lp = all_under (n - 1 - i) i p (omega arith) lp

-- With the planner's rings, "left by the overhang" is: part above, none below, and not excused
pub left_exactly : (w h n : ℕ) (q : ℕ → ℕ) (part : Stack) (i p : ℕ) → suc i < n → p < h * w →
    (left_by part (rings_of w h n q part) i p ≡ true) ↔ ((part (suc i) p ≡ true) × (part i p ≡ false) × (Excused w h q part i p → ⊥))
unfolding shadow
left_exactly w h n q part i p l lp = (
  (λ e.
      let t : (shadow (part i) (part (suc i)) p && eqb (rings_of w h n q part i p) 0) ≡ true = sym (left_is w h n 0 part (rings_of w h n q part) i p) ∙ e in
      let s : shadow (part i) (part (suc i)) p ≡ true = and_l (shadow (part i) (part (suc i)) p) _ t in
      let z : rings_of w h n q part i p ≡ 0 = eqb-true _ _ (and_r (shadow (part i) (part (suc i)) p) _ t) in
      (and_l (part (suc i) p) _ s, not_out (part i p) (and_r (part (suc i) p) _ s), λ (k, r). omega (arith, rings_of_fewest w h n q part i p k l lp r))),
  (λ (u, f, x).
      left_is w h n 0 part (rings_of w h n q part) i p
      ∙ and_in _ _ (and_in _ _ u (not_in (part i p) f))
      (split (eqb (rings_of w h n q part i p) 0) (λ z. z) (λ z. absurd (x (rings_of_excused w h n q part i p l lp (omega (arith, eqb-false (rings_of w h n q part i p) 0 z))))))),
)
