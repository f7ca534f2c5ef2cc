-- Posts, layer by layer: what a layer is made of, what posts take away, and the scan step by step.
use Rattle.std.specs.Prelude.{◌≡◌, ◌&&◌, ◌||◌, ltb, get_or}
use Rattle.std.proofs.Math.Path.{refl, sym, ap, ap₂, subst}
use Rattle.std.proofs.Common.{◌∙◌}
use Rattle.std.proofs.Math.Logic.{⊎_elim}
use Rattle.std.proofs.Math.Bool.{Bool, true, false, not}
use mathlib.Core.List.{List, [], ◌∷◌}
use Prim.Native.Nat.{ℕ, zero, suc, ◌+◌, ◌-◌, ◌*◌, ◌≤◌, ◌<◌}
use Rattle.std.proofs.Math.Nat.{zero-add}
use native.Mathlib.Omega.{arith}
use Rattle.std.proofs.Math.Dec.{eqb}
use borrow.Author.Tests.{eqb-true, eqb-false, eq-eqb, lt-ltb, le-ltb}
use Rattle.rules.specs.Tools.{count, Found, nothing, found, first}
use Rattle.rules.specs.Images.{Plane, Stack, Rings}
use Rattle.rules.specs.Planning.{shadow, seeds, near, reached, touch, grown}
use Rattle.rules.specs.Posts.{left_by, gone_down, plane_of, listed, spared, scanned, posts_below, posts_from, stack_of}
use Rattle.laws.specs.Tests.{split, clash, and_l, and_r, or_r, or_out, or_false, and_true, and_false, get_d_each, each_same, count_le, count_more}
use Rattle.laws.specs.Growing.{grown_same, ring_joined}
use Rattle.laws.specs.Places.{First, none_is, one_is, first_is, first_unique}
use Rattle.laws.specs.Neighbours.{distance_none}
use Rattle.laws.specs.Soundness.{joined_free}
use Rattle.laws.specs.Closing.{near_out, near_same}

-- Layers -----------------------------------------------------------------------------------------------------------------

-- the posts of the layers of a stack
abbrev pub posts_at : ℕ → ℕ → ℕ → ℕ → Stack → Rings → Stack
posts_at w h n q part ring = stack_of (posts_from w h q part ring (n - 1) 0)

module _ (w h q : ℕ) (part : Stack) (ring : Rings) where
  -- k layers up in a list of layers is the list that begins there
  from_on : (k d i : ℕ) → k ≤ d → get_or (posts_from w h q part ring d i) k [] ≡ get_or (posts_from w h q part ring (d - k) (i + k)) 0 []
  unfolding posts_from
  from_on zero d i l = let z : d - 0 ≡ d = omega arith in let y : i + 0 ≡ i = omega arith in rw (z, y)
  from_on (suc k) zero i l = absurd (omega arith)
  from_on (suc k) (suc d) i l =
      let z : suc d - suc k ≡ d - k = omega arith in
      let y : i + suc k ≡ suc i + k = omega arith in
      rw (z, y) (from_on k d (suc i) (omega arith))

  from_top : (i p : ℕ) → p < h * w → plane_of (get_or (posts_from w h q part ring 0 i) 0 []) p ≡ false
  unfolding posts_from
  from_top i p l = get_d_each 0 (h * w) (λ x. false) p false l

  from_below : (d i : ℕ) →
      get_or (posts_from w h q part ring (suc d) i) 0 [] ≡ posts_below w h q (left_by part ring i) (gone_down (part i) (plane_of (get_or (posts_from w h q part ring d (suc i)) 0 [])))
  unfolding posts_from
  from_below d i = refl

module _ (w h n q : ℕ) (part : Stack) (ring : Rings) where
  -- "the top layer has none"
  pub posts_top : (p : ℕ) → 0 < n → p < h * w → posts_at w h n q part ring (n - 1) p ≡ false
  posts_top p l lp =
      let z : n - 1 - (n - 1) ≡ 0 = omega arith in
      let y : 0 + (n - 1) ≡ n - 1 = omega arith in
      rw (from_on w h q part ring (n - 1) (n - 1) 0 (omega arith), z, y) (from_top w h q part ring (n - 1) p lp)

  -- a layer below the top is made of what the overhang leaves there and of the posts gone down from the layer above
  pub posts_layer : (i : ℕ) → suc i < n →
      get_or (posts_from w h q part ring (n - 1) 0) i [] ≡ posts_below w h q (left_by part ring i) (gone_down (part i) (posts_at w h n q part ring (suc i)))
  posts_layer i l =
      let z : n - 1 - i ≡ suc (n - 1 - suc i) = omega arith in
      let y : 0 + i ≡ i = omega arith in
      let x : 0 + suc i ≡ suc i = omega arith in
      let above : get_or (posts_from w h q part ring (n - 1) 0) (suc i) [] ≡ get_or (posts_from w h q part ring (n - 1 - suc i) (suc i)) 0 [] =
      rw x at (from_on w h q part ring (suc i) (n - 1) 0 (omega arith)) in
      rw (from_on w h q part ring i (n - 1) 0 (omega arith), z, y, above) (from_below w h q part ring (n - 1 - suc i) i)

  pub posts_step : (i : ℕ) → suc i < n → (p : ℕ) → p < h * w →
      posts_at w h n q part ring i p ≡ plane_of (posts_below w h q (left_by part ring i) (gone_down (part i) (posts_at w h n q part ring (suc i)))) p
  posts_step i l p lp = ap (λ (x : List Bool). plane_of x p) (posts_layer i l)

-- What posts take away ------------------------------------------------------------------------------------------------------

module _ (w h q : ℕ) where
  -- the pixels of `rest` that posts may grow through, and the rings that they grow
  abbrev pub about : Plane → Plane → Plane
  about rest posts p = rest p && near w h q posts p

  abbrev pub taken : Plane → Plane → ℕ → ℕ
  taken rest posts p = get_or (grown (h * w) (touch w) (about rest posts) posts (h * w)) p 0

  pub spared_is : (rest posts : Plane) (p : ℕ) → p < h * w → plane_of (spared w h q rest posts) p ≡ (rest p && not (posts p) && eqb (taken rest posts p) 0)
  unfolding spared
  spared_is rest posts p l = get_d_each 0 (h * w) (λ p. rest p && not (posts p) && eqb (taken rest posts p) 0) p false l ∙ rw zero-add

  -- where no post is a remaining pixel, as of the posts from above, their own pixels need no test
  pub spared_apart : (rest posts : Plane) (p : ℕ) → p < h * w → (posts p ≡ true → rest p ≡ false) →
      plane_of (spared w h q rest posts) p ≡ (rest p && not (ltb 0 (taken rest posts p)))
  spared_apart rest posts p l apart =
      spared_is rest posts p l ∙ split (posts p) (λ t. rw (apart t)) (λ t. rw t (ap₂ (λ (a b : Bool). a && b) (and_true (rest p)) (bare (taken rest posts p))))
    where
      bare : (r : ℕ) → eqb r 0 ≡ not (ltb 0 r)
      bare r = split (eqb r 0)
          (λ z. rw (z, le-ltb 0 r (omega (arith, eqb-true r 0 z))))
          (λ z. rw (z, lt-ltb 0 r (omega (arith, eqb-false r 0 z))))

  -- then what remains is what the planner would not excuse, by the bound of the radius, where the posts are the lower part and the upper has them and what is left
  module _ (left posts up : Plane) (apart : (p : ℕ) → p < h * w → posts p ≡ true → left p ≡ false) (both : (p : ℕ) → p < h * w → up p ≡ (left p || posts p)) where
    shadow_left : (p : ℕ) → p < h * w → left p ≡ shadow posts up p
    unfolding shadow
    shadow_left p l = split (posts p) (λ t. rw (both p l, t, apart p l t)) (λ f. rw (both p l, f) (sym (and_true (left p || false) ∙ or_false (left p))))

    seeds_posts : (p : ℕ) → p < h * w → posts p ≡ seeds posts up p
    unfolding seeds
    seeds_posts p l = split (posts p) (λ t. rw (both p l, t) (sym (or_r (left p) true refl))) (λ f. rw f)

    pub spared_as_planned : (p : ℕ) → p < h * w →
        plane_of (spared w h q left posts) p ≡ (shadow posts up p && not (ltb 0 (get_or (grown (h * w) (touch w) (reached w h q posts up) (seeds posts up) (h * w)) p 0)))
    unfolding reached
    spared_as_planned p l =
        let e : grown (h * w) (touch w) (about left posts) posts (h * w) ≡ grown (h * w) (touch w) (reached w h q posts up) (seeds posts up) (h * w) =
        grown_same (h * w) (touch w) (about left posts) (reached w h q posts up) posts (seeds posts up)
        (λ o lo. ap (λ (b : Bool). b && near w h q posts o) (shadow_left o lo)) seeds_posts in
        spared_apart left posts p l (apart p l) ∙ ap₂ (λ (a : Bool) (g : List ℕ). a && not (ltb 0 (get_or g p 0))) (shadow_left p l) e

  -- only pixels that exist are asked
  pub spared_same : (rest rest' posts posts' : Plane) → ((p : ℕ) → p < h * w → rest p ≡ rest' p) → ((p : ℕ) → p < h * w → posts p ≡ posts' p) →
      spared w h q rest posts ≡ spared w h q rest' posts'
  unfolding spared
  spared_same rest rest' posts posts' a b =
      each_same 0 (h * w) _ _ (λ p l.
      let e : grown (h * w) (touch w) (about rest posts) posts (h * w) ≡ grown (h * w) (touch w) (about rest' posts') posts' (h * w) =
      grown_same (h * w) (touch w) (about rest posts) (about rest' posts') posts posts'
      (λ o lo. ap₂ (λ (x y : Bool). x && y) (a o lo) (near_same w h q posts posts' b o)) b in
      rw (zero-add, a p l, b p l, e))

  -- the posts of a layer: those gone down, and those of the scan
  abbrev pub new_posts : Plane → Plane → List ℕ
  new_posts left down = scanned w h q (h * w) (spared w h q left down)

  pub below_is : (left down : Plane) (p : ℕ) → p < h * w → plane_of (posts_below w h q left down) p ≡ (down p || listed (new_posts left down) p)
  unfolding posts_below
  below_is left down p l = get_d_each 0 (h * w) (λ p. down p || listed (new_posts left down) p) p false l ∙ rw zero-add

  pub below_same : (left left' down down' : Plane) → ((p : ℕ) → p < h * w → left p ≡ left' p) → ((p : ℕ) → p < h * w → down p ≡ down' p) →
      posts_below w h q left down ≡ posts_below w h q left' down'
  unfolding posts_below
  below_same left left' down down' a b =
      each_same 0 (h * w) _ _ (λ p l. rw (zero-add, b p l, spared_same left left' down down' a b))

  -- what remains, remained before, and is neither a post nor has a ring
  pub spared_left : (rest posts : Plane) (p : ℕ) → p < h * w → plane_of (spared w h q rest posts) p ≡ true → rest p ≡ true
  spared_left rest posts p l e = and_l (rest p) _ (and_l _ (eqb (taken rest posts p) 0) (sym (spared_is rest posts p l) ∙ e))

  pub spared_own : (rest posts : Plane) (p : ℕ) → p < h * w → posts p ≡ true → plane_of (spared w h q rest posts) p ≡ false
  spared_own rest posts p l e = spared_is rest posts p l ∙ rw (e, and_false)

  -- The scan ----------------------------------------------------------------------------------------------------------------

  -- none remains
  abbrev pub NoneLeft : List Bool → Type 0
  NoneLeft rest = (p : ℕ) → p < h * w → plane_of rest p ≡ false

  -- a is the first that remains
  pub record FirstLeft (rest : List Bool) (a : ℕ) : Type 0 where
    pub inside : a < h * w
    pub remains : plane_of rest a ≡ true
    pub none_before : (p : ℕ) → p < a → plane_of rest p ≡ false

  pub scan_end : (k : ℕ) (rest : List Bool) → NoneLeft rest → scanned w h q k rest ≡ []
  unfolding scanned
  scan_end zero rest e = refl
  scan_end (suc k) rest e =
      rw (first_unique 0 (h * w) (plane_of rest) (first 0 (h * w) (plane_of rest)) nothing (first_is 0 (h * w) (plane_of rest)) (none_is (λ x l m. e x (omega arith))))

  pub scan_first : (k : ℕ) (rest : List Bool) (a : ℕ) → FirstLeft rest a → scanned w h q (suc k) rest ≡ a ∷ scanned w h q k (spared w h q (plane_of rest) (eqb a))
  unfolding scanned
  scan_first k rest a f =
      rw (first_unique 0 (h * w) (plane_of rest) (first 0 (h * w) (plane_of rest)) (found a) (first_is 0 (h * w) (plane_of rest))
      (one_is {x = a} (omega arith) (omega (arith, f.inside)) f.remains (λ y l m. f.none_before y m)))

  -- each step of the scan leaves fewer
  pub scan_less : (rest : List Bool) (a : ℕ) → FirstLeft rest a → count (h * w) (plane_of (spared w h q (plane_of rest) (eqb a))) < count (h * w) (plane_of rest)
  scan_less rest a f =
      count_more (h * w) (plane_of (spared w h q (plane_of rest) (eqb a))) (plane_of rest) (spared_left (plane_of rest) (eqb a))
      a f.inside (spared_own (plane_of rest) (eqb a) a f.inside (eq-eqb a a refl)) f.remains

  -- none remains, or one is the first
  pub scan_cases : {C : Type 0} (rest : List Bool) → (NoneLeft rest → C) → ((a : ℕ) → FirstLeft rest a → C) → C
  scan_cases {C} rest none one = go (first 0 (h * w) (plane_of rest)) (first_is 0 (h * w) (plane_of rest))
    where
      go : (r : Found) → First 0 (h * w) (plane_of rest) r → C
      go nothing (none_is g) = none (λ p l. g p (omega arith) (omega arith))
      go (found a) (one_is l m t g) = one a (record { inside = omega arith; remains = t; none_before = λ p l. g p (omega arith) l })

  -- each post of the scan is a pixel that remained
  pub scan_in : (k : ℕ) (rest : List Bool) (p : ℕ) → p < h * w → listed (scanned w h q k rest) p ≡ true → plane_of rest p ≡ true
  unfolding listed scanned
  scan_in zero rest p l e = clash e refl
  scan_in (suc k) rest p l e = scan_cases rest
      (λ none. clash (sym (ap (λ (x : List ℕ). listed x p) (scan_end (suc k) rest none)) ∙ e) refl)
      (λ a f.
      let S : List Bool = spared w h q (plane_of rest) (eqb a) in
      ⊎_elim
      (λ t. rw (← eqb-true a p t) f.remains)
      (λ t. spared_left (plane_of rest) (eqb a) p l (scan_in k S p l t))
      (or_out (eqb a p) (listed (scanned w h q k S) p) (sym (ap (λ (x : List ℕ). listed x p) (scan_first k rest a f)) ∙ e)))

  -- what remains is counted: none, or some
  pub none_counted : (rest : List Bool) → count (h * w) (plane_of rest) ≤ 0 → NoneLeft rest
  none_counted rest b p l = split (plane_of rest p)
      (λ t. absurd (omega (arith, count_more (h * w) (λ x. false) (plane_of rest) (λ x lx z. clash z refl) p l refl t)))
      (λ z. z)

  -- "the first remaining pixel becomes a post and takes away .., until none remains", as a statement on the list of posts
  pub data Scan : List Bool → List ℕ → Type 0 where
    ended : {rest : List Bool} → NoneLeft rest → Scan rest []
    post : {rest : List Bool} {a : ℕ} {l : List ℕ} → FirstLeft rest a → Scan (spared w h q (plane_of rest) (eqb a)) l → Scan rest (a ∷ l)

  -- as many steps as there are pixels, or even only as many as remain, are enough
  pub scan_is : (k : ℕ) (rest : List Bool) → count (h * w) (plane_of rest) ≤ k → Scan rest (scanned w h q k rest)
  unfolding scanned
  scan_is zero rest b = ended (none_counted rest b)
  scan_is (suc k) rest b = scan_cases rest
      (λ none. subst (Scan rest) (sym (scan_end (suc k) rest none)) (ended none))
      (λ a f. subst (Scan rest) (sym (scan_first k rest a f)) (post f (scan_is k (spared w h q (plane_of rest) (eqb a)) (omega (arith, scan_less rest a f)))))

  -- and there is only one such list
  pub scan_only : (k : ℕ) {rest : List Bool} {l : List ℕ} → count (h * w) (plane_of rest) ≤ k → Scan rest l → l ≡ scanned w h q k rest
  scan_only k {rest} b (ended none) = sym (scan_end k rest none)
  scan_only zero {rest} b (post {a = a} f r) = clash f.remains (none_counted rest b a f.inside)
  scan_only (suc k) {rest} b (post {a = a} {l = l} f r) =
      ap (λ (x : List ℕ). a ∷ x) (scan_only k (omega (arith, scan_less rest a f)) r) ∙ sym (scan_first k rest a f)

  -- so more steps change nothing
  pub scan_ends : (k : ℕ) (rest : List Bool) → count (h * w) (plane_of rest) ≤ k → scanned w h q k rest ≡ scanned w h q (h * w) rest
  scan_ends k rest b = scan_only (h * w) (count_le (h * w) (plane_of rest)) (scan_is k rest b)

  -- where the overhang leaves nothing, the posts gone down are all
  pub below_none : (left down : Plane) → ((p : ℕ) → p < h * w → left p ≡ false) → (p : ℕ) → p < h * w → plane_of (posts_below w h q left down) p ≡ down p
  unfolding listed
  below_none left down e p l =
      below_is left down p l
      ∙ rw (scan_end (h * w) (spared w h q left down)
      (λ o lo. split (plane_of (spared w h q left down) o) (λ t. clash (spared_left left down o lo t) (e o lo)) (λ z. z))) (or_false (down p))

-- A radius of 0: each pixel by itself ----------------------------------------------------------------------------------------

module _ (w h : ℕ) where
  -- a post takes away its own pixel alone
  spared_zero : (rest posts : Plane) (p : ℕ) → p < h * w → plane_of (spared w h 0 rest posts) p ≡ (rest p && not (posts p))
  spared_zero rest posts p l =
      spared_is w h 0 rest posts p l
      ∙ split (posts p)
      (λ t. rw (t, and_false))
      (λ f. rw (f, eq-eqb (taken w h 0 rest posts p) 0 (bare f (taken w h 0 rest posts p) refl)) (and_true (rest p && true)))
    where
      bare : posts p ≡ false → (r : ℕ) → taken w h 0 rest posts p ≡ r → taken w h 0 rest posts p ≡ 0
      bare f zero e = e
      bare f (suc r) e =
          let (o, lo, t, d) = near_out w h 0 posts p (and_r (rest p) _ (joined_free (ring_joined (h * w) (touch w) (about w h 0 rest posts) posts p r l e))) in
          clash (rw (← distance_none w p o d) at t) f

  -- so each that remains becomes a post
  scan_zero : (k : ℕ) (rest : List Bool) → count (h * w) (plane_of rest) ≤ k → (p : ℕ) → p < h * w → listed (scanned w h 0 k rest) p ≡ plane_of rest p
  unfolding listed scanned
  scan_zero zero rest b p l = sym (none_counted w h 0 rest b p l)
  scan_zero (suc k) rest b p l = scan_cases w h 0 rest
      (λ none. ap (λ (x : List ℕ). listed x p) (scan_end w h 0 (suc k) rest none) ∙ sym (none p l))
      (λ a f.
      let S : List Bool = spared w h 0 (plane_of rest) (eqb a) in
      let e : listed (scanned w h 0 k S) p ≡ (plane_of rest p && not (eqb a p)) =
      scan_zero k S (omega (arith, scan_less w h 0 rest a f)) p l ∙ spared_zero (plane_of rest) (eqb a) p l in
      ap (λ (x : List ℕ). listed x p) (scan_first w h 0 k rest a f)
      ∙ ap (λ (b : Bool). eqb a p || b) e
      ∙ split (eqb a p) (λ t. rw (t, ← eqb-true a p t) (sym f.remains)) (λ z. rw z (and_true (plane_of rest p))))

  pub below_zero : (left down : Plane) (p : ℕ) → p < h * w → plane_of (posts_below w h 0 left down) p ≡ (left p || down p)
  below_zero left down p l =
      below_is w h 0 left down p l
      ∙ ap (λ (b : Bool). down p || b) (scan_zero (h * w) (spared w h 0 left down) (count_le (h * w) (plane_of (spared w h 0 left down))) p l ∙ spared_zero left down p l)
      ∙ split (down p) (λ t. rw t (sym (or_r (left p) true refl))) (λ z. rw z (and_true (left p) ∙ sym (or_false (left p))))
