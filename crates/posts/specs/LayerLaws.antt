-- Laws of one layer: what of the planner's support is left by the overhang, and what posts hold and leave of it.
use Rattle.std.specs.Prelude.{◌≡◌, Bool, ◌&&◌, ◌||◌, eqb, take, drop}
use Rattle.std.proofs.Math.Path.{refl, sym, ap, ap₂, subst}
use Rattle.std.proofs.Common.{◌∙◌, zero-add, arith, eqb-true, length-take, length-drop}
use Rattle.std.proofs.Math.Bool.{true, false, not}
use mathlib.Core.List.{List}
use Prim.Native.Nat.{ℕ, zero, suc, ◌+◌, ◌-◌, ◌*◌, ◌/◌, ◌%◌, ◌≤◌, ◌<◌}
use Rattle.std.proofs.Math.Nat.{zero-mul, mul_assoc}
use Rattle.std.proofs.Math.Decide.{dec_lt}
use Rattle.std.proofs.lemmas.Bool.{not-false}
use borrow.Rule.Slice.PartMut.{mid_of, put_mid}
use Rattle.std.specs.Int.Bits.{bit_and, bit_or}
use Rattle.std.proofs.Math.ListN.{length, get_or, get_or-eq_default}
use Rattle.rules.specs.Images.{Plane, Stack, bit_at, row_bytes, pixel, bytes_of, padding_set}
use Rattle.rules.specs.Planning.{shadow, planned_bytes}
use Rattle.rules.specs.Posts.{gone_down, plane_of, listed, spared, scanned, posts_below}
use Rattle.rules.specs.Tools.{each}
use Rattle.laws.specs.Demand3.{bytes_of_clear}
use Rattle.laws.specs.PixelBytes.{pixel_bytes}
use Rattle.laws.specs.PostLayers.{spared_is, spared_as_planned, below_is, below_none}
use Rattle.laws.specs.Tests.{split, clash, and_l, and_r, length_each, each_same}
use Rattle.image.specs.Bits.{bit_and_lem, bit_or_lem, zero_bit, byte_but_not}
use Rattle.image.specs.Filling.{bit_here}
use Rattle.image.specs.Loops.{Bits, but_not}
use Rattle.image.specs.Packed.{plane_at, plane_pixel, plane_clean, plane_bytes_lem, stack_plane}
use Rattle.image.specs.Planes.{row_fits, row_next}
use Rattle.image.specs.Rows.{packed, Clean, Packs, plane, OnlyPlane}
use Rattle.image.specs.Scratch.{bit_of}
use Rattle.image.specs.Stretches.{put_plane, put_only}
use Rattle.planes.specs.Scratch.{Drawn, seen}
use Rattle.pair.specs.PairLaws.{packs_same, own_packs, place_in, support_same}
use Rattle.pair.specs.Pairs.{pair_rings, unexcused, pair_support}
use Rattle.plan.specs.Stacks.{From, planned_stack}
use Rattle.plan.specs.StackLaws.{support_step, support_top, from_end, from_all, from_more}

-- Bytes -------------------------------------------------------------------------------------------------------------------

-- the first n bytes of a plane are 0
abbrev pub NoneSet : ℕ → List ℕ → Type 0
NoneSet n s = (k : ℕ) → k < n → get_or s k 0 ≡ 0

pub set_more : (s : List ℕ) (i : ℕ) → get_or s i 0 ≡ 0 → NoneSet i s → NoneSet (i + 1) s
set_more s i e f k lk = elim (dec_lt k i) [
  | yes x ↦ f k x
  | no x ↦ let k' : k ≡ i = omega arith in rw k' e
]

pub set_none : (s : List ℕ) (n t : ℕ) → (t ≡ 0 → NoneSet n s) → not (eqb t 0) ≡ false → (j : ℕ) → j < n * 8 → bit_of s j ≡ false
unfolding bit_of
set_none s n t f e j lj = ap (λ (v : ℕ). bit_at v (j % 8)) (f (eqb-true t 0 (not-false (eqb t 0) e)) (j / 8) (omega arith)) ∙ zero_bit (j % 8)

-- in the first n bytes two planes have no bit in common
abbrev pub NoneShared : ℕ → List ℕ → List ℕ → Type 0
NoneShared n all up = (k : ℕ) → k < n → (m : ℕ) → m < 8 → (bit_at (get_or all k 0) m && bit_at (get_or up k 0) m) ≡ false

pub shared_more : (all up : List ℕ) (i : ℕ) → bit_and (get_or all i 0) (get_or up i 0) ≡ 0 → NoneShared i all up → NoneShared (i + 1) all up
shared_more all up i e f k lk m lm = elim (dec_lt k i) [
  | yes x ↦ f k x m lm
  | no x ↦ let k' : k ≡ i = omega arith in rw k' (sym (bit_and_lem (get_or all i 0) (get_or up i 0) m) ∙ ap (λ (v : ℕ). bit_at v m) e ∙ zero_bit m)
]

pub shared_none : (all up : List ℕ) (n t : ℕ) → (t ≡ 0 → NoneShared n all up) → not (eqb t 0) ≡ false → (j : ℕ) → j < n * 8 → (bit_of all j && bit_of up j) ≡ false
unfolding bit_of
shared_none all up n t f e j lj = f (eqb-true t 0 (not-false (eqb t 0) e)) (j / 8) (omega arith) (j % 8) (omega arith)

pub from_byte : (all up : List ℕ) (i : ℕ) → get_or up i 0 < 256 → (m : ℕ) → m < 8
    → bit_at (bit_and (get_or all i 0) (255 - get_or up i 0)) m ≡ (bit_of all (i * 8 + m) && not (bit_of up (i * 8 + m)))
from_byte all up i y m l = byte_but_not (get_or all i 0) (get_or up i 0) y m l ∙ ap₂ but_not (sym (bit_here all i m l)) (sym (bit_here up i m l))

pub join_byte : (s up above low : List ℕ) (i : ℕ) → get_or low i 0 < 256 → (m : ℕ) → m < 8
    → bit_at (bit_or (bit_and (get_or s i 0) (get_or up i 0)) (bit_and (get_or above i 0) (255 - get_or low i 0))) m
    ≡ ((bit_of s (i * 8 + m) && bit_of up (i * 8 + m)) || (bit_of above (i * 8 + m) && not (bit_of low (i * 8 + m))))
join_byte s up above low i y m l =
    bit_or_lem (bit_and (get_or s i 0) (get_or up i 0)) (bit_and (get_or above i 0) (255 - get_or low i 0)) m
    ∙ ap₂ ◌||◌ (bit_and_lem (get_or s i 0) (get_or up i 0) m ∙ ap₂ ◌&&◌ (sym (bit_here s i m l)) (sym (bit_here up i m l))) (from_byte above low i y m l)

-- One layer ----------------------------------------------------------------------------------------------------------------

-- a plane by its list, pixel by pixel
spared_list : (w h r : ℕ) (left down f : Plane) → ((p : ℕ) → p < h * w → f p ≡ plane_of (spared w h r left down) p) → each 0 (h * w) f ≡ spared w h r left down
unfolding spared
spared_list w h r left down f e = each_same 0 (h * w) f _ (λ p lp. rw (zero-add) (e p lp ∙ spared_is w h r left down p lp))

-- a layer's part, that above it, the posts above, and the support
module _ (w h : ℕ) (lw : 0 < w) (low up above out : List ℕ) (A : Clean w h above) where
  -- what the overhang leaves of the support
  abbrev left : Plane
  left p = packed w out p && packed w up p

  -- the posts that go down
  abbrev down : Plane
  down = gone_down (packed w low) (packed w above)

  -- nothing of the support is there
  pub empty_packs : (r : ℕ) → ((p : ℕ) → p < h * w → down p ≡ true → packed w out p ≡ true) → Clean w h out → ((j : ℕ) → j < h * row_bytes w * 8 → bit_of out j ≡ false)
      → Packs w h (plane_of (posts_below w h r left down)) out
  unfolding packed
  empty_packs r inside C e = packs_same w h lw (packed w out) (plane_of (posts_below w h r left down)) out
      (λ p lp. none p lp ∙ sym (below_none w h r left down (λ o lo. ap (λ (b : Bool). b && packed w up o) (none o lo)) p lp ∙ no_down p lp)) (own_packs w h out C)
    where
      none : (p : ℕ) → p < h * w → packed w out p ≡ false
      none p lp = e (p / w * row_bytes w * 8 + p % w) (place_in w h lw p lp)

      no_down : (p : ℕ) → p < h * w → down p ≡ false
      no_down p lp = split (down p) (λ d. clash (inside p lp d) (none p lp)) (λ z. z)

  -- the posts that go down, as a plane
  pub down_packs : (from : List ℕ) (n : ℕ) → length from ≡ h * row_bytes w → n ≡ h * row_bytes w → Bits n (λ j. bit_of above j && not (bit_of low j)) from → Packs w h down from
  unfolding packed gone_down
  down_packs from n e en b = record {
    clean = record {
      long = e;
      clear = λ r c lr wc lc.
          b (r * row_bytes w * 8 + c) (omega (arith, en, row_fits r h (row_bytes w) lr))
          ∙ ap (λ (a : Bool). a && not (bit_of low (r * row_bytes w * 8 + c))) (A.clear r c lr wc lc);
    };
    pixels = λ p lp. b (p / w * row_bytes w * 8 + p % w) (omega (arith, en, place_in w h lw p lp));
  }

  -- the overhang leaves nothing
  pub none_packs : (r : ℕ) → ((j : ℕ) → j < h * row_bytes w * 8 → (bit_of out j && bit_of up j) ≡ false) → (out' : List ℕ) → Packs w h down out'
      → Packs w h (plane_of (posts_below w h r left down)) out'
  unfolding packed
  none_packs r e out' D = packs_same w h lw down (plane_of (posts_below w h r left down)) out'
      (λ p lp. sym (below_none w h r left down (λ o lo. e (o / w * row_bytes w * 8 + o % w) (place_in w h lw o lo)) p lp)) D

  -- what is left, with them
  pub join_packs : (to : List ℕ) (n : ℕ) → Clean w h out → length to ≡ h * row_bytes w → n ≡ h * row_bytes w
      → Bits n (λ j. (bit_of out j && bit_of up j) || (bit_of above j && not (bit_of low j))) to → Packs w h (λ p. left p || down p) to
  unfolding packed gone_down
  join_packs to n C e en b = record {
    clean = record {
      long = e;
      clear = λ r c lr wc lc.
          let j : ℕ = r * row_bytes w * 8 + c in
          b j (omega (arith, en, row_fits r h (row_bytes w) lr))
          ∙ ap₂ (λ (x a : Bool). (x && bit_of up j) || (a && not (bit_of low j))) (C.clear r c lr wc lc) (A.clear r c lr wc lc);
    };
    pixels = λ p lp. b (p / w * row_bytes w * 8 + p % w) (omega (arith, en, place_in w h lw p lp));
  }

  -- no post that goes down is a pixel that is left
  module _ (r : ℕ) (apart : (p : ℕ) → p < h * w → packed w above p ≡ true → packed w up p ≡ true → ⊥) where
    down_apart : (p : ℕ) → p < h * w → down p ≡ true → left p ≡ false
    unfolding gone_down
    down_apart p lp d = split (left p) (λ l. absurd (apart p lp (and_l (packed w above p) _ d) (and_r (packed w out p) _ l))) (λ z. z)

    -- so the support of two layers, the posts and these with what is left, is what remains
    two_remains : (a b : Plane) → ((p : ℕ) → p < h * w → a p ≡ down p) → ((p : ℕ) → p < h * w → b p ≡ (left p || down p)) → (p : ℕ) → p < h * w
        → pair_support w h r a b (λ o. false) p ≡ plane_of (spared w h r left down) p
    unfolding pair_support unexcused pair_rings shadow
    two_remains a b ea eb p lp =
        support_same w h r a down b (λ o. left o || down o) ea eb (λ o. false) (λ o. false) (λ o lo. refl) p lp
        ∙ turn (left p || down p) (down p) _
        ∙ sym (spared_as_planned w h r left down (λ o. left o || down o) down_apart (λ o lo. refl) p lp)
      where
        turn : (u d t : Bool) → ((u && not d && t || false) && not d) ≡ (u && not d && t)
        turn true true t = refl
        turn true false true = refl
        turn true false false = refl
        turn false d t = refl

    -- what remains is scanned, and with the posts found is a post
    pub posts_packs : (from : List ℕ) → Packs w h down from → (held plane out' : List ℕ) → Packs w h (plane_of (spared w h r left down)) held → Drawn w h (packed w held) plane
        → Packs w h (λ p. packed w from p || listed (scanned w h r (h * w) (each 0 (h * w) (seen w plane))) p) out'
        → Packs w h (plane_of (posts_below w h r left down)) out'
    posts_packs from D held plane out' R L P =
        packs_same w h lw _ (plane_of (posts_below w h r left down)) out'
        (λ p lp. ap₂ (λ (d : Bool) (l : List Bool). d || listed (scanned w h r (h * w) l) p) (D.pixels p lp) remains_are ∙ sym (below_is w h r left down p lp)) P
      where
        remains_are : each 0 (h * w) (seen w plane) ≡ spared w h r left down
        remains_are = spared_list w h r left down (seen w plane) (λ p lp. L.is p lp ∙ R.pixels p lp)

    -- the support of a stack of two such layers, in its lower one
    pub held_packs : (two held : List ℕ) → length two ≡ 2 * h * row_bytes w → Packs w h down (plane (h * row_bytes w) 0 two) → Packs w h (λ p. left p || down p) (plane (h * row_bytes w) 1 two)
        → held ≡ planned_bytes w h 2 (λ k. r) two → Packs w h (plane_of (spared w h r left down)) (plane (h * row_bytes w) 0 held)
    unfolding planned_bytes bytes_of
    held_packs two held long D U e =
        let S : Stack = planned_stack w h 2 r two in
        let lh : length (bytes_of w h 2 S) ≡ 2 * h * row_bytes w = length_each 0 (2 * h * row_bytes w) _ in
        subst (λ (l : List ℕ). Packs w h (plane_of (spared w h r left down)) (plane (h * row_bytes w) 0 l)) (sym e)
        (record {
          clean = plane_clean w h 2 (bytes_of w h 2 S) lh (bytes_of_clear w h 2 S lw) 0 (omega arith);
          pixels = λ p lp.
              plane_pixel w h 2 (bytes_of w h 2 S) lh lw 0 p lp
              ∙ pixel_bytes w h 2 S 0 p (omega arith) lp
              ∙ support_step w h 2 r two 0 p (omega arith) lp
              ∙ support_same w h r (pixel w h two 0) (pixel w h two 0) (pixel w h two 1) (pixel w h two 1) (λ o lo. refl) (λ o lo. refl) (S 1) (λ o. false)
              (λ o lo. support_top w h 2 r two o (omega arith)) p lp
              ∙ two_remains (pixel w h two 0) (pixel w h two 1)
              (λ o lo. sym (plane_pixel w h 2 two long lw 0 o lo) ∙ D.pixels o lo) (λ o lo. sym (plane_pixel w h 2 two long lw 1 o lo) ∙ U.pixels o lo) p lp;
        })

-- A stack of two planes, lent one after the other ------------------------------------------------------------------------------

-- a plane that was written and given back
put_at : (size i a k : ℕ) (xs ys : List ℕ) → i * size ≡ a → i * size + size - i * size ≡ k → (i + 1) * size ≤ length xs → length ys ≡ size
    → (plane size i (put_mid a k xs ys) ≡ ys) × OnlyPlane size i (put_mid a k xs ys) xs
put_at size i a k xs ys ea ek room l =
    let long : length ys ≡ length (mid_of (i * size) (i * size + size - i * size) xs) = l ∙ simp (length-take, length-drop) (omega (arith, row_next i size)) in
    subst (λ (x : ℕ). (plane size i (put_mid x k xs ys) ≡ ys) × OnlyPlane size i (put_mid x k xs ys) xs) ea
    (subst (λ (x : ℕ). (plane size i (put_mid (i * size) x xs ys) ≡ ys) × OnlyPlane size i (put_mid (i * size) x xs ys) xs) ek
    (put_plane size i xs ys room long, put_only size i xs ys room long))

module _ (size : ℕ) (two down up : List ℕ) (room : length two ≡ 2 * size) (ld : length down ≡ size) (lu : length up ≡ size) where
  abbrev upper : List ℕ
  upper = put_mid size (size + size - size) two up

  abbrev both : List ℕ
  both = put_mid 0 (size - 0) upper down

  pub both_are : (length both ≡ length two) × (plane size 0 both ≡ down) × (plane size 1 both ≡ up)
  both_are =
      let (a, u) = put_at size 1 size (size + size - size) two up (omega arith) (omega arith) (omega arith) lu in
      let (d, v) = put_at size 0 0 (size - 0) upper down (omega arith) (omega arith) (omega (arith, u.long)) ld in
      (v.long ∙ u.long, d, ap (λ (l : List ℕ). take size l) v.above ∙ a)

-- of two clean planes, it has no padding set
plane_small : (size i : ℕ) (s : List ℕ) → ((b : ℕ) → get_or s b 0 < 256) → (b : ℕ) → get_or (plane size i s) b 0 < 256
plane_small size i s small b = elim (dec_lt b size) [
  | yes l ↦ rw (plane_at size i s b l) (small (i * size + b))
  | no l ↦ rw (get_or-eq_default (plane size i s) 0 {n = b} (omega (arith, length-take size (drop (i * size) s)))) (omega arith)
]

module _ (w h : ℕ) (lw : 0 < w) (two down up : List ℕ) (long : length two ≡ 2 * h * row_bytes w) (small : (b : ℕ) → get_or two b 0 < 256)
    (ed : plane (h * row_bytes w) 0 two ≡ down) (eu : plane (h * row_bytes w) 1 two ≡ up) (D : Clean w h down) (U : Clean w h up) where
  T : Stack
  T zero = packed w down
  T (suc i) = packed w up

  made : two ≡ bytes_of w h 2 T
  unfolding bytes_of packed T
  made =
      let size : ℕ = h * row_bytes w in
      let B : List ℕ = bytes_of w h 2 T in
      let only : (i : ℕ) → OnlyPlane size i two two = λ i. record { long = refl; below = refl; above = refl } in
      let lb : length B ≡ 2 * h * row_bytes w = length_each 0 (2 * h * row_bytes w) _ in
      let sd : (b : ℕ) → get_or down b 0 < 256 = λ b. subst (λ (l : List ℕ). get_or l b 0 < 256) ed (plane_small size 0 two small b) in
      let su : (b : ℕ) → get_or up b 0 < 256 = λ b. subst (λ (l : List ℕ). get_or l b 0 < 256) eu (plane_small size 1 two small b) in
      let e0 : plane size 0 two ≡ plane size 0 B = ed ∙ plane_bytes_lem w h (packed w down) down D sd (λ p lp. refl) ∙ sym (stack_plane w h 2 T 0 (omega arith)) in
      let e1 : plane size 1 two ≡ plane size 1 B = eu ∙ plane_bytes_lem w h (packed w up) up U su (λ p lp. refl) ∙ sym (stack_plane w h 2 T 1 (omega arith)) in
      let end : From (2 * size) two B = from_end (2 * size) two B (omega (arith, mul_assoc 2 h (row_bytes w))) (omega (arith, mul_assoc 2 h (row_bytes w))) in
      from_all two B (long ∙ sym lb) (λ x l. from_more size 0 two two B (only 0) (from_more size 1 two two B (only 1) end e1) e0 x (omega (arith, zero-mul size)))

  two_clear : padding_set w (2 * h) two ≡ false
  two_clear = subst (λ (l : List ℕ). padding_set w (2 * h) l ≡ false) (sym made) (bytes_of_clear w h 2 T lw)

-- room for two planes, as the code cuts it
module _ (w h size : ℕ) (es : size ≡ h * row_bytes w) (two : List ℕ) (long : length two ≡ 2 * h * row_bytes w) where
  pub two_room : length two ≡ 2 * size
  two_room = long ∙ mul_assoc 2 h (row_bytes w) ∙ ap (λ (x : ℕ). 2 * x) (sym es)

  pub upper_long : length (take (size + size - size) (drop size two)) ≡ h * row_bytes w
  upper_long = simp (length-take, length-drop) (omega (arith, two_room, es))

  pub lower_long : length (take (size - 0) (drop 0 two)) ≡ h * row_bytes w
  lower_long = simp (length-take, length-drop) (omega (arith, two_room, es))

-- the stack of the posts that go down, and of these with what is left
module _ (w h size r : ℕ) (lw : 0 < w) (es : size ≡ h * row_bytes w) (low up above out two from to : List ℕ) (A : Clean w h above) (O : Clean w h out)
    (apart : (p : ℕ) → p < h * w → packed w above p ≡ true → packed w up p ≡ true → ⊥) (long : length two ≡ 2 * h * row_bytes w)
    (lt : length to ≡ length (take (size + size - size) (drop size two)))
    (J : Bits (length (take (size + size - size) (drop size two))) (λ j. (bit_of out j && bit_of up j) || (bit_of above j && not (bit_of low j))) to)
    (D : Packs w h (gone_down (packed w low) (packed w above)) from) where
  abbrev stacked : List ℕ
  stacked = put_mid 0 (size - 0) (put_mid size (size + size - size) two to) from

  U : Packs w h (λ p. (packed w out p && packed w up p) || gone_down (packed w low) (packed w above) p) to
  U = join_packs w h lw low up above out A to _ O (lt ∙ upper_long w h size es two long) (upper_long w h size es two long) J

  are : (length stacked ≡ length two) × (plane (h * row_bytes w) 0 stacked ≡ from) × (plane (h * row_bytes w) 1 stacked ≡ to)
  are =
      let e = both_are size two from to (two_room w h size es two long) (D.clean.long ∙ sym es) (U.clean.long ∙ sym es) in
      subst (λ (x : ℕ). (length stacked ≡ length two) × (plane x 0 stacked ≡ from) × (plane x 1 stacked ≡ to)) es e

  pub stacked_long : length stacked ≡ 2 * h * row_bytes w
  stacked_long = are.0 ∙ long

  pub stacked_clear : ((b : ℕ) → get_or stacked b 0 < 256) → padding_set w (2 * h) stacked ≡ false
  stacked_clear small = two_clear w h lw stacked from to stacked_long small are.1 are.2 D.clean U.clean

  pub stacked_held : (held : List ℕ) → held ≡ planned_bytes w h 2 (λ k. r) stacked
      → Packs w h (plane_of (spared w h r (λ p. packed w out p && packed w up p) (gone_down (packed w low) (packed w above)))) (take (size - 0) (drop 0 held))
  stacked_held held e =
      let z : 0 * (h * row_bytes w) ≡ 0 = omega arith in
      let k : h * row_bytes w ≡ size - 0 = omega arith in
      let H = held_packs w h lw low up above out A r apart stacked held stacked_long
      (subst (Packs w h (gone_down (packed w low) (packed w above))) (sym are.1) D)
      (subst (Packs w h (λ p. (packed w out p && packed w up p) || gone_down (packed w low) (packed w above) p)) (sym are.2) U) e in
      subst (λ (x : ℕ). Packs w h (plane_of (spared w h r (λ p. packed w out p && packed w up p) (gone_down (packed w low) (packed w above)))) (take x (drop 0 held))) k
      (subst (λ (x : ℕ). Packs w h (plane_of (spared w h r (λ p. packed w out p && packed w up p) (gone_down (packed w low) (packed w above)))) (take (h * row_bytes w) (drop x held))) z H)
