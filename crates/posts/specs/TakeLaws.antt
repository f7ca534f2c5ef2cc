-- Laws of a post: where it begins, and that what it has got in the end is what it takes away by the rules.
use Rattle.std.specs.Prelude.{◌≡◌, Bool, true, false, not, ◌&&◌, ◌||◌, List, ℕ, zero, suc, ◌+◌, ◌-◌, ◌*◌, ◌/◌, ◌%◌, ◌<◌, ◌≤◌, leb, ltb, eqb, length, get_or}
use Rattle.std.proofs.Math.Path.{refl, subst}
use Rattle.std.proofs.Common.{sym, ap, ap₂, ◌∙◌, ⊎_elim, div-add-mod'}
use native.Mathlib.Omega.{arith}
use Rattle.std.proofs.Math.Decide.{dec_lt, dec_le, ℕ_discrete}
use borrow.Author.Tests.{lt-ltb, le-ltb, ltb-true, le-leb, leb-true, eq-eqb, eqb-true, ne_eqb}
use Rattle.std.proofs.Math.Arith.{digits_div, digits_mod, digits_lt}
use Rattle.rules.specs.Demands.{Joined, start, onward}
use Rattle.rules.specs.Images.{Plane}
use Rattle.rules.specs.Planning.{near, touch, grown}
use Rattle.rules.specs.Posts.{plane_of, spared}
use Rattle.rules.specs.Reach.{square, apart}
use Rattle.laws.specs.Growing.{ring_joined, ring_fewest}
use Rattle.laws.specs.Neighbours.{touch_in, touch_out, near_is}
use Rattle.laws.specs.PostLayers.{spared_is}
use Rattle.laws.specs.Tests.{split, clash, bool_eq, and_l, and_r, and_in, or_l, or_r, or_out, not_in, not_out, some_in, some_out}
use Rattle.words.specs.Words.{word_bit}
use Rattle.planes.specs.Scratch.{spot, Sizes, Framed, Ready, seen}
use Rattle.planes.specs.PlaneLaws.{row_fits, pixel_row, seen_is, seen_pixel}
use Rattle.pair.specs.Found.{Empty}
use Rattle.sweeps.specs.Marks.{Cleared, Lit}
use Rattle.posts.specs.Taking.{Spreads, Beside, disc_bit, Taking, Ahead, Closed}

-- the post's own pixel ------------------------------------------------------------------------------------------------------

-- the bit of row y and column c, by its word
pub own_bit : (y c : ℕ) → ((y + 33) * 5 + c / 64) * 64 + c % 64 ≡ spot y c
own_bit y c = omega (arith, div-add-mod' c 64)

spot_row : (r c : ℕ) → c < 320 → (spot r c / 320 ≡ r + 33) × (spot r c % 320 ≡ c)
spot_row r c l = (digits_div (r + 33) {m = 320} {r = c} l, digits_mod (r + 33) {m = 320} {r = c} l)

own_disc : (q y c : ℕ) → c < 320 → disc_bit q y c (spot y c) ≡ true
unfolding disc_bit square apart
own_disc q y c l =
    let (r, x) = spot_row y c l in
    rw (r, x) (le-leb _ q (let z : y + 33 - (y + 33) ≡ 0 = omega arith in let u : c - c ≡ 0 = omega arith in rw (z, u) (omega arith)))

pub taking_start : (q y c : ℕ) (was rest got none : List ℕ) → c < 256 → length rest ≡ 1610 → length got ≡ 1610 → Empty none → word_bit was (spot y c) ≡ true
    → Cleared (spot y c) rest was → Lit (spot y c) got none → Taking q y c 1 was rest got
taking_start q y c was rest got none lc lr lg E e C L = record {
  rest_long = lr;
  got_long = lg;
  rest_is = λ j. elim (ℕ_discrete j (spot y c)) [
    | yes z ↦ rw z (C.off ∙ rw (e, L.on) refl)
    | no z ↦ C.same j z ∙ rw (off j z) (sym (Rattle.laws.specs.Tests.and_true (word_bit was j)))
  ];
  owned = λ j g. subst (λ (i : ℕ). word_bit was i ≡ true) (sym (only j g)) e;
  round = λ j g. subst (λ (i : ℕ). disc_bit q y c i ≡ true) (sym (only j g)) (own_disc q y c (omega arith));
  post = L.on;
  led = λ T t s j g. subst (λ (i : ℕ). T i ≡ true) (sym (only j g)) t;
  deep = λ j g. let z = ap (λ (i : ℕ). i / 320) (only j g) ∙ (spot_row y c (omega arith)).0 in (omega arith, omega arith);
}
  where
    off : (j : ℕ) → (j ≡ spot y c → ⊥) → word_bit got j ≡ false
    off j z = L.same j z ∙ E.none j

    only : (j : ℕ) → word_bit got j ≡ true → j ≡ spot y c
    only j g = elim (ℕ_discrete j (spot y c)) [ yes z ↦ z | no z ↦ clash g (off j z) ]

-- pixels and bits ------------------------------------------------------------------------------------------------------------

module _ (w h : ℕ) (z : Sizes w h) (was : List ℕ) (F : Framed w h was) (y c : ℕ) (ly : y < h) (lc : c < w) where
  -- nothing remains before the post, by rows and columns
  pub ahead : ((p : ℕ) → p < y * w + c → seen w was p ≡ false) → Ahead y c was
  ahead none j e =
      let P = F j e in
      let (lp, s) = seen_pixel w h z was j P in
      let l : y * w + c ≤ P.row * w + P.column = elim (dec_le (y * w + c) (P.row * w + P.column)) [ yes a ↦ a | no a ↦ clash (s ∙ e) (none _ (omega arith)) ] in
      let r : y ≤ P.row = elim (dec_le y P.row) [ yes a ↦ a | no a ↦ absurd (omega (arith, row_fits P.row y w (omega arith), P.column_in)) ] in
      let (a, b) = spot_row P.row P.column (omega (arith, P.column_in, z.w_max)) in
      let lo : spot y c ≤ spot P.row P.column = elim (ℕ_discrete y P.row) [
        | yes u ↦ let v : y * w ≡ P.row * w = ap (λ (n : ℕ). n * w) u in omega arith
        | no u ↦ omega (arith, z.w_max)
      ] in
      let x : j % 320 ≡ P.column = ap (λ (i : ℕ). i % 320) P.here ∙ b in
      (omega (arith, P.here), omega (arith, P.column_in, z.w_max))

  -- the post's number
  abbrev a : ℕ
  a = y * w + c

  wide : c < 320
  wide = omega (arith, z.w_max)

  same_pixel : (r x s d : ℕ) → x < w → d < w → r * w + x ≡ s * w + d → (r ≡ s) × (x ≡ d)
  same_pixel r x s d lx ld e =
      (sym (digits_div r lx) ∙ ap (λ (n : ℕ). n / w) e ∙ digits_div s ld, sym (digits_mod r lx) ∙ ap (λ (n : ℕ). n % w) e ∙ digits_mod s ld)

  -- within the radius of the post, as a pixel and as a bit
  near_disc : (q r x : ℕ) → x < w → near w h q (eqb a) (r * w + x) ≡ disc_bit q y c (spot r x)
  unfolding disc_bit square apart
  near_disc q r x lx =
      let (er, ex) = spot_row r x (omega (arith, z.w_max)) in
      let up : r + 33 - (y + 33) + (y + 33 - (r + 33)) ≡ r - y + (y - r) = omega arith in
      bool_eq _ _
      (λ e.
      let (s, d, ls, ld, u, v) = (near_is w h q (eqb a) r x lx).0 e in
      let (es, ed) = same_pixel y c s d lc ld (eqb-true _ _ u) in
      let v' : (r - y + (y - r)) * (r - y + (y - r)) + (x - c + (c - x)) * (x - c + (c - x)) ≤ q =
      subst (λ (i : ℕ). (r - i + (i - r)) * (r - i + (i - r)) + (x - c + (c - x)) * (x - c + (c - x)) ≤ q) (sym es)
      (subst (λ (i : ℕ). (r - s + (s - r)) * (r - s + (s - r)) + (x - i + (i - x)) * (x - i + (i - x)) ≤ q) (sym ed) v) in
      rw (er, ex, up) (le-leb _ q v'))
      (λ e. (near_is w h q (eqb a) r x lx).1 (y, c, ly, lc, eq-eqb a a refl, leb-true _ q (rw (er, ex, up) at e)))

  module _ (q rows : ℕ) (rest got : List ℕ) (S : Taking q y c rows was rest got) (C : Closed q y c rest got) where
    -- what grows from the post, by the rules
    abbrev free : Plane
    free p = seen w was p && near w h q (eqb a) p

    abbrev ring : ℕ → ℕ
    ring p = get_or (grown (h * w) (touch w) free (eqb a) (h * w)) p 0

    abbrev taken : Plane
    taken p = eqb a p || ltb 0 (ring p)

    -- the same of bits
    abbrev bit_taken : ℕ → Bool
    bit_taken j = (leb 33 (j / 320) && ltb (j / 320) (h + 33) && ltb (j % 320) w) && taken ((j / 320 - 33) * w + j % 320)

    taken_in : (r x : ℕ) → r < h → x < w → taken (r * w + x) ≡ true → bit_taken (spot r x) ≡ true
    taken_in r x lr lx t =
        let (er, ex) = spot_row r x (omega (arith, z.w_max)) in
        let e : r + 33 - 33 ≡ r = omega arith in
        rw (er, ex, e, le-leb 33 (r + 33) (omega arith), lt-ltb (r + 33) (h + 33) (omega arith), lt-ltb x w lx) t

    taken_out : (j : ℕ) → bit_taken j ≡ true → (r : ℕ) × (x : ℕ) × (r < h) × (x < w) × (j ≡ spot r x) × (taken (r * w + x) ≡ true)
    taken_out j t =
        let u = and_l (leb 33 (j / 320) && ltb (j / 320) (h + 33) && ltb (j % 320) w) _ t in
        let v = and_l (leb 33 (j / 320) && ltb (j / 320) (h + 33)) _ u in
        let lo : 33 ≤ j / 320 = leb-true 33 _ (and_l (leb 33 (j / 320)) _ v) in
        let hi : j / 320 < h + 33 = ltb-true _ _ (and_r (leb 33 (j / 320)) _ v) in (
          j / 320 - 33,
          j % 320,
          omega arith,
          ltb-true _ w (and_r (leb 33 (j / 320) && ltb (j / 320) (h + 33)) _ u),
          omega (arith, div-add-mod' j 320),
          and_r (leb 33 (j / 320) && ltb (j / 320) (h + 33) && ltb (j % 320) w) _ t,
        )

    step : (p o : ℕ) → p < h * w → o < h * w → free p ≡ true → touch w p o ≡ true → taken o ≡ true → taken p ≡ true
    step p o lp lo f t u = or_r (eqb a p) _ (lt-ltb 0 (ring p) (⊎_elim
        (λ e. (ring_fewest (h * w) (touch w) free (eqb a) lp (start f lo t e)).0)
        (λ e. onwards (ring o) refl (ltb-true 0 (ring o) e))
        (or_out (eqb a o) _ u)))
      where
        onwards : (v : ℕ) → ring o ≡ v → 0 < ring o → 0 < ring p
        onwards zero e l = absurd (omega arith)
        onwards (suc v) e l = (ring_fewest (h * w) (touch w) free (eqb a) lp (onward f lo t (ring_joined (h * w) (touch w) free (eqb a) o v lo e))).0

    spreads : Spreads (λ j. word_bit was j && disc_bit q y c j) Beside bit_taken
    spreads j o f n t =
        let e : word_bit was j ≡ true = and_l (word_bit was j) _ f in
        let P = F j e in
        let (s, d, ls, ld, eo, u) = taken_out o t in
        let (lp, sp) = seen_pixel w h z was j P in
        let (er, ex) = spot_row P.row P.column (omega (arith, P.column_in, z.w_max)) in
        let (es, ed) = spot_row s d (omega (arith, z.w_max)) in
        let jr : j / 320 ≡ P.row + 33 = ap (λ (i : ℕ). i / 320) P.here ∙ er in
        let jx : j % 320 ≡ P.column = ap (λ (i : ℕ). i % 320) P.here ∙ ex in
        let os : o / 320 ≡ s + 33 = ap (λ (i : ℕ). i / 320) eo ∙ es in
        let od : o % 320 ≡ d = ap (λ (i : ℕ). i % 320) eo ∙ ed in
        let fr : free (P.row * w + P.column) ≡ true =
        and_in _ _ (sp ∙ e) (near_disc q P.row P.column P.column_in ∙ subst (λ (i : ℕ). disc_bit q y c i ≡ true) P.here (and_r (word_bit was j) _ f)) in
        subst (λ (i : ℕ). bit_taken i ≡ true) (sym P.here) (taken_in P.row P.column P.row_in P.column_in (elim (ℕ_discrete (P.row * w + P.column) (s * w + d)) [
          | yes k ↦ rw k u
          | no k ↦ step (P.row * w + P.column) (s * w + d) lp (digits_lt ls ld) fr
              (touch_in w P.row P.column s d P.column_in ld (record {
                up = omega (arith, n.0);
                down = omega (arith, n.0);
                left = omega (arith, n.1);
                right = omega (arith, n.1);
                other = λ k₁ k₂. k (ap₂ (λ (r x : ℕ). r * w + x) k₁ k₂);
              })) u
        ]))

    got_taken : (p : ℕ) → p < h * w → word_bit got (spot (p / w) (p % w)) ≡ true → taken p ≡ true
    got_taken p lp g =
        let (lr, lx) = pixel_row w h z p lp in
        let t = S.led bit_taken (taken_in y c ly lc (or_l (eqb a a) _ (eq-eqb a a refl))) spreads (spot (p / w) (p % w)) g in
        let (r, x, l, k, e, u) = taken_out (spot (p / w) (p % w)) t in
        let er : r ≡ p / w = omega (arith, z.w_max) in
        let ex : x ≡ p % w = omega (arith, z.w_max) in
        rw (er, ex, div-add-mod' p w) at u

    -- what is beside what is got is got, at the end
    closes : (p o : ℕ) → p < h * w → o < h * w → free p ≡ true → touch w p o ≡ true → word_bit got (spot (o / w) (o % w)) ≡ true → word_bit got (spot (p / w) (p % w)) ≡ true
    closes p o lp lo f t g =
        let (lr, lx) = pixel_row w h z p lp in
        let (ls, ld) = pixel_row w h z o lo in
        let T = touch_out w (p / w) (p % w) (o / w) (o % w) lx ld (rw (div-add-mod' p w, div-add-mod' o w) t) in
        let (er, ex) = spot_row (p / w) (p % w) (omega (arith, z.w_max)) in
        let (es, ed) = spot_row (o / w) (o % w) (omega (arith, z.w_max)) in
        let on : word_bit was (spot (p / w) (p % w)) ≡ true = sym (seen_is w h z was p) ∙ and_l (seen w was p) _ f in
        let dc : disc_bit q y c (spot (p / w) (p % w)) ≡ true = sym (near_disc q (p / w) (p % w) lx) ∙ rw (div-add-mod' p w) (and_r (seen w was p) _ f) in
        split (word_bit got (spot (p / w) (p % w))) (λ k. k)
        (λ k. absurd (C (spot (p / w) (p % w)) (spot (o / w) (o % w)) (S.rest_is (spot (p / w) (p % w)) ∙ rw (on, k) refl) dc g
        ((omega (arith, T.up), omega (arith, T.down)), (omega (arith, T.left), omega (arith, T.right)))))

    own_got : word_bit got (spot (a / w) (a % w)) ≡ true
    own_got = rw (digits_div y lc, digits_mod y lc) S.post

    joined_got : {k p : ℕ} → p < h * w → Joined (h * w) (touch w) free (eqb a) k p → word_bit got (spot (p / w) (p % w)) ≡ true
    joined_got lp (start {p = p} {o = o} f lo t s) = let e : a ≡ o = eqb-true _ _ s in closes p o lp lo f t (subst (λ (i : ℕ). word_bit got (spot (i / w) (i % w)) ≡ true) e own_got)
    joined_got lp (onward {p = p} {o = o} f lo t r) = closes p o lp lo f t (joined_got lo r)

    taken_got : (p : ℕ) → p < h * w → taken p ≡ true → word_bit got (spot (p / w) (p % w)) ≡ true
    taken_got p lp t = ⊎_elim
        (λ e. let k : a ≡ p = eqb-true _ _ e in subst (λ (i : ℕ). word_bit got (spot (i / w) (i % w)) ≡ true) k own_got)
        (λ e. go (ring p) refl (ltb-true 0 (ring p) e))
        (or_out (eqb a p) _ t)
      where
        go : (v : ℕ) → ring p ≡ v → 0 < ring p → word_bit got (spot (p / w) (p % w)) ≡ true
        go zero e l = absurd (omega arith)
        go (suc v) e l = joined_got lp (ring_joined (h * w) (touch w) free (eqb a) p v lp e)

    none : (b e : Bool) (r : ℕ) → (b && not (e || ltb 0 r)) ≡ (b && not e && eqb r 0)
    none true true r = refl
    none true false r = elim (dec_lt 0 r) [
      | yes l ↦ rw (lt-ltb 0 r l, ne_eqb r 0 (λ e. omega arith))
      | no l ↦ rw (le-ltb 0 r (omega arith), eq-eqb r 0 (omega arith))
    ]
    none false e r = refl

    -- what remains is what the post spares
    pub spares : (p : ℕ) → p < h * w → seen w rest p ≡ plane_of (spared w h q (seen w was) (eqb a)) p
    spares p lp =
        seen_is w h z rest p ∙ S.rest_is (spot (p / w) (p % w))
        ∙ ap₂ (λ (s t : Bool). s && not t) (sym (seen_is w h z was p)) (bool_eq _ _ (got_taken p lp) (taken_got p lp))
        ∙ none (seen w was p) (eqb a p) (ring p)
        ∙ sym (spared_is w h q (seen w was) (eqb a) p lp)

    -- and it is still room for a plane
    pub still_ready : Ready w h rest
    still_ready = record { long = S.rest_long; framed = λ j e. F j (and_l (word_bit was j) _ (sym (S.rest_is j) ∙ e)) }
