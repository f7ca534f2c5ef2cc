-- Laws of the posts of a stack: where they begin, one layer more, and where they end.
use Rattle.std.specs.Prelude.{◌≡◌, Bool, ◌||◌, ℕ, suc, ◌+◌, ◌-◌, ◌*◌, ◌≤◌, ◌<◌, eqb, length, get_or, take, drop, replicate}
use Rattle.std.proofs.Math.Path.{refl, sym, ap, ap₂}
use Rattle.std.proofs.Common.{subst, ◌∙◌, mul_assoc, zero-mul, add-one, arith, length-take, length-drop, length-take-le, ext_get_or, get_or-take}
use Rattle.std.proofs.Math.Bool.{true, false, not, ◌&&◌}
use mathlib.Core.List.{List}
use borrow.Rule.Slice.PartMut.{put_mid, same_len_mid}
use Rattle.std.proofs.lemmas.List.{get_or-replicate, length-replicate}
use Rattle.rules.specs.Images.{row_bytes, pixel, ring_at}
use Rattle.rules.specs.Planning.{shadow, empty, planned_rings, planned_bytes}
use Rattle.rules.specs.Posts.{left_by, gone_down, plane_of, posts_below, posts_bytes}
use Rattle.laws.specs.Demand3.{planned_bytes_length, planned_bytes_clear}
use Rattle.laws.specs.PixelBytes.{pixel_bytes}
use Rattle.laws.specs.PostCalls.{posts_bytes_none, posts_bytes_length}
use Rattle.laws.specs.PostLayers.{posts_top, posts_step, below_same}
use Rattle.laws.specs.Posts.{posts_clear, posts_gone_down, posts_in_support, left_is}
use Rattle.laws.specs.Soundness.{planned_step, planned_clear}
use Rattle.laws.specs.Tests.{clash, and_l, and_r, and_false, not_out}
use Rattle.image.specs.Packed.{plane_at, plane_pixel, plane_clean, plane_bytes_lem, bytes_same, stack_plane}
use Rattle.image.specs.Planes.{row_next, row_fits}
use Rattle.image.specs.Rows.{Packs, packed, plane_bytes, plane, OnlyPlane}
use Rattle.image.specs.Stretches.{mid_put, put_plane, put_only}
use Rattle.planes.specs.PlaneLaws.{zero_bits, zero_ready}
use Rattle.pair.specs.PairLaws.{packs_same}
use Rattle.plan.specs.Stacks.{From, planned_stack}
use Rattle.plan.specs.StackLaws.{support_top, from_end, from_all, from_more, layer_room, cut_low, cut_up, low_plane, lent_support}
use Rattle.posts.specs.Stacks.{posts_stack, Scratch, Down}

-- what is lent of fresh scratch
pub fresh_long : (k n : ℕ) → k ≤ n → length (take k (replicate {A = ℕ} n 0)) ≡ k
fresh_long k n l = length-take-le k (replicate n 0) (omega (arith, length-replicate {A = ℕ} n 0))

pub fresh_bare : (k p : ℕ) → k ≤ 65536 → p < k → get_or (take k (replicate {A = ℕ} 65536 0)) p 0 ≡ 0
fresh_bare k p l lp = get_or-take k (replicate 65536 0) p 0 lp ∙ get_or-replicate 65536 p 0 0 (omega arith)

pub fresh_scratch : (w h size : ℕ) (ring : List ℕ) → size ≡ h * row_bytes w → size ≤ 8192 → length ring ≡ h * w → ((p : ℕ) → p < h * w → get_or ring p 0 ≡ 0)
    → Scratch w h (take (size + size) (replicate 16384 0)) (take (size + size) (replicate 16384 0)) ring (replicate 1610 0) (replicate 1610 0)
fresh_scratch w h size ring es l lr bare =
    let e : length (take (size + size) (replicate {A = ℕ} 16384 0)) ≡ 2 * h * row_bytes w = fresh_long (size + size) 16384 (omega arith) ∙ omega (arith, es, mul_assoc 2 h (row_bytes w)) in
    record {
      two_long = e;
      held_long = e;
      ring_long = lr;
      ring_bare = bare;
      got_empty = record { long = length-replicate {A = ℕ} 1610 0; none = zero_bits };
      plane_ready = zero_ready w h;
    }

-- a stretch that was worked on and given back
module _ (w h n size i : ℕ) (posts ys : List ℕ) (es : size ≡ h * row_bytes w) (ls : length posts ≡ n * h * row_bytes w) (li : i < n) (ly : length ys ≡ length (cut_low size i posts)) where
  abbrev given : List ℕ
  given = put_mid (i * size) (i * size + size - i * size) posts ys

  pub given_long : length ys ≡ h * row_bytes w
  given_long = ly ∙ lent_support w h n size i posts es ls li

  pub given_room : i * size + size ≤ length given
  given_room = omega (arith, layer_room w h n size i (length posts) es ls li, same_len_mid (i * size) (i * size + size - i * size) posts ys ly)

  pub given_back : cut_low size i given ≡ ys
  given_back = mid_put (i * size) (i * size + size - i * size) posts ys (omega (arith, layer_room w h n size i (length posts) es ls li)) (given_long ∙ sym es ∙ omega arith)

up_plane : (size i : ℕ) (part : List ℕ) → cut_up size i part ≡ plane size (suc i) part
up_plane size i part =
    let e : i * size + size + size - (i * size + size) ≡ size = omega arith in
    ap (λ (k : ℕ). take k (drop (i * size + size) part)) e
    ∙ ap (λ (a : ℕ). take size (drop a part)) (sym (row_next i size) ∙ ap (λ (x : ℕ). x * size) (add-one i))

-- a plane below the one that was written
plane_kept : (size i k : ℕ) (xs' xs : List ℕ) → OnlyPlane size i xs' xs → k < i → plane size k xs' ≡ plane size k xs
plane_kept size i k xs' xs o l =
    ext_get_or 0 (plane size k xs') (plane size k xs) (simp (length-take, length-drop, o.long) refl) (λ j lj.
    let lj' : j < size = omega (arith, lj, length-take size (drop (k * size) xs')) in
    let lx : k * size + j < i * size = omega (arith, row_fits k i size l) in
    plane_at size k xs' j lj'
    ∙ sym (get_or-take (i * size) xs' (k * size + j) 0 lx) ∙ ap (λ (l : List ℕ). get_or l (k * size + j) 0) o.below ∙ get_or-take (i * size) xs (k * size + j) 0 lx
    ∙ sym (plane_at size k xs j lj'))

module _ (w h n q r : ℕ) (lw : 0 < w) (part : List ℕ) (long : length part ≡ n * h * row_bytes w) where
  abbrev all : List ℕ
  all = posts_bytes w h n (λ k. q) r part

  -- the planner's support
  abbrev support : List ℕ
  support = planned_bytes w h n (λ k. q) part

  abbrev rings : ℕ → ℕ → ℕ
  rings = ring_at w h (planned_rings w h n (λ k. q) part)

  layer_bytes : (i : ℕ) → i < n → plane (h * row_bytes w) i all ≡ plane_bytes w h (posts_stack w h n q r part i)
  unfolding posts_bytes
  layer_bytes i li = stack_plane w h n (posts_stack w h n q r part) i li

  support_bytes : (i : ℕ) → i < n → plane (h * row_bytes w) i support ≡ plane_bytes w h (planned_stack w h n q part i)
  unfolding planned_bytes
  support_bytes i li = stack_plane w h n (planned_stack w h n q part) i li

  support_packs : (i : ℕ) → i < n → Packs w h (planned_stack w h n q part i) (plane (h * row_bytes w) i support)
  unfolding planned_bytes
  support_packs i li = record {
    clean = plane_clean w h n support (planned_bytes_length w h n (λ k. q) part) (planned_bytes_clear w h n (λ k. q) part lw) i li;
    pixels = λ p lp. plane_pixel w h n support (planned_bytes_length w h n (λ k. q) part) lw i p lp ∙ pixel_bytes w h n (planned_stack w h n q part) i p li lp;
  }

  -- the top layer has neither support nor posts
  pub down_start : (posts above : List ℕ) → 0 < n → posts ≡ support → Packs w h (λ p. false) above → Down w h n q r (n - 1) part posts above
  down_start posts above ln e a =
      let size : ℕ = h * row_bytes w in
      let none : (p : ℕ) → p < h * w → posts_stack w h n q r part (n - 1) p ≡ false = λ p lp. posts_top w h n r (pixel w h part) rings p ln lp in
      let ls : length support ≡ n * h * row_bytes w = planned_bytes_length w h n (λ k. q) part in
      let lp : length all ≡ n * h * row_bytes w = posts_bytes_length w h n (λ k. q) r part in
      let top : (n - 1 + 1) * size ≡ n * size = ap (λ (x : ℕ). x * size) (omega arith) in
      let same : plane size (n - 1) support ≡ plane size (n - 1) all =
      support_bytes (n - 1) (omega arith)
      ∙ bytes_same w h (planned_stack w h n q part (n - 1)) (posts_stack w h n q r part (n - 1)) (λ p lp. support_top w h n q part p ln ∙ sym (none p lp))
      ∙ sym (layer_bytes (n - 1) (omega arith)) in
      record {
        posts_done = subst (λ (l : List ℕ). From ((n - 1) * size) l all) (sym e)
            (from_more size (n - 1) support support all (record { long = refl; below = refl; above = refl })
            (from_end ((n - 1 + 1) * size) support all (omega (arith, top, mul_assoc n h (row_bytes w))) (omega (arith, top, mul_assoc n h (row_bytes w)))) same);
        above_is = packs_same w h lw (λ p. false) (posts_stack w h n q r part (n - 1)) above (λ p lp. sym (none p lp)) a;
        support_left = λ k lk. ap (plane size k) e;
      }

  -- one layer more: low and up are of the part, and own is the support, as they are cut
  module _ (i : ℕ) (posts above : List ℕ) (li : suc i < n) (D : Down w h n q r (i + 1) part posts above) (size : ℕ) (es : size ≡ h * row_bytes w) where
    abbrev low : List ℕ
    low = cut_low size i part

    abbrev up : List ℕ
    up = cut_up size i part

    abbrev own : List ℕ
    own = cut_low size i posts

    low_at : (p : ℕ) → p < h * w → packed w low p ≡ pixel w h part i p
    low_at p lp = ap (λ (l : List ℕ). packed w l p) (low_plane size i part ∙ ap (λ (x : ℕ). plane x i part) es) ∙ plane_pixel w h n part long lw i p lp

    up_at : (p : ℕ) → p < h * w → packed w up p ≡ pixel w h part (suc i) p
    up_at p lp = ap (λ (l : List ℕ). packed w l p) (up_plane size i part ∙ ap (λ (x : ℕ). plane x (suc i) part) es) ∙ plane_pixel w h n part long lw (suc i) p lp

    above_at : (p : ℕ) → p < h * w → packed w above p ≡ posts_stack w h n q r part (suc i) p
    above_at p lp = D.above_is.pixels p lp ∙ ap (λ (x : ℕ). posts_stack w h n q r part x p) (add-one i)

    pub own_packs : Packs w h (planned_stack w h n q part i) own
    own_packs =
        subst (Packs w h (planned_stack w h n q part i)) (sym (low_plane size i posts ∙ ap (λ (x : ℕ). plane x i posts) es ∙ D.support_left i (omega arith)))
        (support_packs i (omega arith))

    -- the posts of the layer above have none of its pixels
    pub above_apart : (p : ℕ) → p < h * w → packed w above p ≡ true → packed w up p ≡ true → ⊥
    above_apart p lp a u = clash (sym (up_at p lp) ∙ u) (posts_clear w h n r (pixel w h part) rings (suc i) p li lp (sym (above_at p lp) ∙ a))

    -- and go down within the support
    pub above_inside : (p : ℕ) → p < h * w → gone_down (packed w low) (packed w above) p ≡ true → packed w own p ≡ true
    unfolding gone_down
    above_inside p lp d =
        own_packs.pixels p lp
        ∙ posts_in_support w h n r (pixel w h part) rings i p (omega arith) lp
        (posts_gone_down w h n r (pixel w h part) rings i p li lp (sym (above_at p lp) ∙ and_l (packed w above p) _ d) (sym (low_at p lp) ∙ not_out (packed w low p) (and_r (packed w above p) _ d)))

    -- what of the support is part of the layer above is what the overhang leaves
    left_at : (p : ℕ) → p < h * w → (packed w own p && packed w up p) ≡ left_by (pixel w h part) rings i p
    unfolding shadow empty
    left_at p lp =
        ap₂ ◌&&◌ (own_packs.pixels p lp ∙ planned_step w h n (λ k. q) (pixel w h part) empty rings i p li) (up_at p lp)
        ∙ turn (pixel w h part (suc i) p) (pixel w h part i p) (eqb (rings i p) 0) (planned_stack w h n q part (suc i) p)
        (planned_clear w h n (λ k. q) (pixel w h part) empty rings (suc i) p li)
        ∙ sym (left_is w h n q (pixel w h part) rings i p)
      where
        turn : (u l e s : Bool) → (s ≡ true → u ≡ false) → ((((u && not l && e) || s || false) && not l) && u) ≡ (u && not l && e)
        turn true l e true f = clash refl (f refl)
        turn true true e false f = refl
        turn true false true false f = refl
        turn true false false false f = refl
        turn false l e s f = and_false (((s || false)) && not l)

    abbrev below : List Bool
    below = posts_below w h r (λ p. packed w own p && packed w up p) (gone_down (packed w low) (packed w above))

    layer_posts : (p : ℕ) → p < h * w → plane_of below p ≡ posts_stack w h n q r part i p
    unfolding gone_down
    layer_posts p lp =
        ap (λ (l : List Bool). plane_of l p)
        (below_same w h r (λ p. packed w own p && packed w up p) (left_by (pixel w h part) rings i)
        (gone_down (packed w low) (packed w above)) (gone_down (pixel w h part i) (posts_stack w h n q r part (suc i)))
        left_at (λ o lo. ap₂ (λ (a b : Bool). a && not b) (above_at o lo) (low_at o lo)))
        ∙ sym (posts_step w h n r (pixel w h part) rings i li p lp)

    -- layer i, worked on in its stretch; above' is the stretch that was given back
    module _ (ys : List ℕ) (ls : length posts ≡ n * h * row_bytes w) (ly : length ys ≡ length (cut_low size i posts)) where
      abbrev next : List ℕ
      next = put_mid (i * size) (i * size + size - i * size) posts ys

      next_is : (plane (h * row_bytes w) i next ≡ ys) × OnlyPlane (h * row_bytes w) i next posts
      next_is =
          let room : (i + 1) * size ≤ length posts = omega (arith, row_next i size, layer_room w h n size i (length posts) es ls (omega arith)) in
          subst (λ (x : ℕ). (plane x i next ≡ ys) × OnlyPlane x i next posts) es (put_plane size i posts ys room ly, put_only size i posts ys room ly)

      pub layer_done : (above' : List ℕ) → above' ≡ cut_low size i next → ((b : ℕ) → get_or above' b 0 < 256) → Packs w h (plane_of below) ys → Down w h n q r i part next above'
      layer_done above' ea small a =
          let e : above' ≡ ys = ea ∙ given_back w h n size i posts ys es ls (omega arith) ly in
          let A : Packs w h (posts_stack w h n q r part i) above' =
          packs_same w h lw (plane_of below) (posts_stack w h n q r part i) above' layer_posts (subst (Packs w h (plane_of below)) (sym e) a) in
          record {
            posts_done = from_more (h * row_bytes w) i next posts all next_is.1 D.posts_done
                (next_is.0 ∙ sym e ∙ plane_bytes_lem w h (posts_stack w h n q r part i) above' A.clean small A.pixels ∙ sym (layer_bytes i (omega arith)));
            above_is = A;
            support_left = λ k lk. plane_kept (h * row_bytes w) i k next posts next_is.1 lk ∙ D.support_left k (omega arith);
          }

  -- the lowest layer is reached
  pub down_end : (posts above : List ℕ) → length posts ≡ n * h * row_bytes w → Down w h n q r 0 part posts above → posts ≡ posts_bytes w h n (λ k. q) r part
  down_end posts above ls D = from_all posts all (ls ∙ sym (posts_bytes_length w h n (λ k. q) r part)) (λ x l. D.posts_done x (omega (arith, zero-mul (h * row_bytes w))))

-- posts of a radius that reaches no other pixel
pub no_radius : (w h n q r : ℕ) (part posts : List ℕ) → 0 < h → r ≡ 0 → posts ≡ planned_bytes w h n (λ k. q) part → posts ≡ posts_bytes w h n (λ k. q) r part
no_radius w h n q r part posts lh z e = rw z (e ∙ sym (posts_bytes_none w h n (λ k. q) part lh))
