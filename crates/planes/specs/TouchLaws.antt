-- Laws of touching: three rows joined and then widened by one column are a plane's neighbours.
use Rattle.std.specs.Prelude.{◌≡◌, true, ◌&&◌, ◌||◌, List, ℕ, ◌+◌, ◌-◌, ◌*◌, ◌/◌, ◌%◌, ◌<◌, ◌≤◌, leb, ltb}
use Rattle.std.proofs.Common.{sym, ap, ◌∙◌, div-add-mod', arith, ltb-true, le-leb, leb-true}
use Rattle.std.proofs.Math.Decide.{dec_lt, ℕ_discrete}
use Rattle.rules.specs.Images.{Plane}
use Rattle.rules.specs.Planning.{touch, touching}
use Rattle.laws.specs.Neighbours.{touch_out, touch_in}
use Rattle.laws.specs.Tests.{bool_eq, and_l, and_r, and_in, or_l, or_r, or_cases, some_in, some_out}
use Rattle.words.specs.Words.{word_bit, beside}
use Rattle.planes.specs.Scratch.{spot, Sizes, Pixel, Framed, seen, row_bit, stacked, fresh}
use Rattle.planes.specs.PlaneLaws.{pixel_row, seen_at, seen_pixel, row_bit_lem, fresh_at}

pub touching_in : (w h : ℕ) (f : Plane) (p o : ℕ) → o < h * w → touch w p o ≡ true → f o ≡ true → touching (h * w) (touch w) f p ≡ true
unfolding touching
touching_in w h f p o lo t e = some_in (h * w) (λ o. touch w p o && f o) o lo (and_in (touch w p o) _ t e)

pub touching_out : (w h : ℕ) (f : Plane) (p : ℕ) → touching (h * w) (touch w) f p ≡ true → (o : ℕ) × (o < h * w) × (touch w p o ≡ true) × (f o ≡ true)
unfolding touching
touching_out w h f p e = let (o, lo, u) = some_out (h * w) (λ o. touch w p o && f o) e in (o, lo, and_l (touch w p o) _ u, and_r (touch w p o) _ u)

pub touching_same : (w h : ℕ) (f g : Plane) → ((x : ℕ) → x < h * w → f x ≡ g x) → (p : ℕ) → touching (h * w) (touch w) f p ≡ touching (h * w) (touch w) g p
touching_same w h f g e p = bool_eq _ _
    (λ t. let (o, lo, a, b) = touching_out w h f p t in touching_in w h g p o lo a (sym (e o lo) ∙ b))
    (λ t. let (o, lo, a, b) = touching_out w h g p t in touching_in w h f p o lo a (e o lo ∙ b))

-- a bit of one of the three rows
stacked_in : (l : List ℕ) (k s c : ℕ) → c < 256 → 0 < k → s ≤ k + 1 → k ≤ s + 1 → word_bit l (s * 320 + c) ≡ true → stacked l k c ≡ true
unfolding stacked
stacked_in l k s c lc pk a b e =
    let u : row_bit l s c ≡ true = row_bit_lem l s c lc ∙ e in
    elim (ℕ_discrete s k) [
      | yes q ↦ or_l (row_bit l (k - 1) c || row_bit l k c) _ (or_r (row_bit l (k - 1) c) _ (rw (← q) u))
      | no q ↦ elim (dec_lt k s) [
        | yes v ↦ let z : k + 1 ≡ s = omega arith in or_r (row_bit l (k - 1) c || row_bit l k c) _ (rw z u)
        | no v ↦ let z : k - 1 ≡ s = omega arith in or_l (row_bit l (k - 1) c || row_bit l k c) _ (or_l (row_bit l (k - 1) c) _ (rw z u))
      ]
    ]

pub row_out : (l : List ℕ) (s c : ℕ) → row_bit l s c ≡ true → (c < 256) × (word_bit l (s * 320 + c) ≡ true)
unfolding row_bit
row_out l s c e = (ltb-true c 256 (and_l (ltb c 256) _ e), and_r (ltb c 256) _ e)

stacked_out : (l : List ℕ) (k c : ℕ) → stacked l k c ≡ true → (s : ℕ) × (s ≤ k + 1) × (k ≤ s + 1) × (c < 256) × (word_bit l (s * 320 + c) ≡ true)
unfolding stacked
stacked_out l k c e =
    or_cases (row_bit l (k - 1) c) (row_bit l k c) (row_bit l (k + 1) c) e
    (λ u. let (x, y) = row_out l (k - 1) c u in (k - 1, omega arith, omega arith, x, y))
    (λ u. let (x, y) = row_out l k c u in (k, omega arith, omega arith, x, y))
    (λ u. let (x, y) = row_out l (k + 1) c u in (k + 1, omega arith, omega arith, x, y))

pub around_in : (l : List ℕ) (k s c d : ℕ) → d < 256 → 0 < k → s ≤ k + 1 → k ≤ s + 1 → d ≤ c + 1 → c ≤ d + 1 → word_bit l (s * 320 + d) ≡ true → beside 1 (stacked l k) c ≡ true
unfolding beside
around_in l k s c d ld pk a b x y e =
    let u : stacked l k d ≡ true = stacked_in l k s d ld pk a b e in
    elim (ℕ_discrete d c) [
      | yes q ↦ or_l (stacked l k c || stacked l k (c + 1)) _ (or_l (stacked l k c) _ (rw (← q) u))
      | no q ↦ elim (dec_lt c d) [
        | yes v ↦ let z : c + 1 ≡ d = omega arith in or_l (stacked l k c || stacked l k (c + 1)) _ (or_r (stacked l k c) _ (rw z u))
        | no v ↦ let z : c - 1 ≡ d = omega arith in or_r (stacked l k c || stacked l k (c + 1)) _ (and_in (leb 1 c) _ (le-leb 1 c (omega arith)) (rw z u))
      ]
    ]

pub around_out : (l : List ℕ) (k c : ℕ) → beside 1 (stacked l k) c ≡ true
    → (s : ℕ) × (d : ℕ) × (s ≤ k + 1) × (k ≤ s + 1) × (d ≤ c + 1) × (c ≤ d + 1) × (d < 256) × (word_bit l (s * 320 + d) ≡ true)
unfolding beside
around_out l k c e =
    or_cases (stacked l k c) (stacked l k (c + 1)) (leb 1 c && stacked l k (c - 1)) e
    (λ u. let (s, a, b, x, v) = stacked_out l k c u in (s, c, a, b, omega arith, omega arith, x, v))
    (λ u. let (s, a, b, x, v) = stacked_out l k (c + 1) u in (s, c + 1, a, b, omega arith, omega arith, x, v))
    (λ u.
    let p : 1 ≤ c = leb-true 1 c (and_l (leb 1 c) _ u) in
    let (s, a, b, x, v) = stacked_out l k (c - 1) (and_r (leb 1 c) _ u) in (s, c - 1, a, b, omega arith, omega arith, x, v))

-- what is left and is at a pixel of the plane, or next to one, touches it: no pixel is in both
module _ (w h : ℕ) (z : Sizes w h) (from left : List ℕ) (ff : Framed w h from) (fl : Framed w h left) where
  pub fresh_seen : ((j : ℕ) → word_bit left j ≡ true → word_bit from j ≡ true → ⊥) → (p : ℕ) → p < h * w
      → word_bit left (spot (p / w) (p % w)) && touching (h * w) (touch w) (seen w from) p ≡ fresh from left (spot (p / w) (p % w))
  fresh_seen apart p lp =
      let (lr, lc) = pixel_row w h z p lp in
      bool_eq _ _ (forth (p / w) (p % w) lr lc (div-add-mod' p w)) (back (p / w) (p % w) lr lc (div-add-mod' p w))
    where
      forth : (r c : ℕ) → r < h → c < w → r * w + c ≡ p → (word_bit left (spot r c) && touching (h * w) (touch w) (seen w from) p) ≡ true → fresh from left (spot r c) ≡ true
      forth r c lr lc ep e =
          let on : word_bit left (spot r c) ≡ true = and_l (word_bit left (spot r c)) _ e in
          let (o, lo, t, u) = touching_out w h (seen w from) p (and_r (word_bit left (spot r c)) _ e) in
          let (ls, ld) = pixel_row w h z o lo in
          let t' : touch w (r * w + c) (o / w * w + o % w) ≡ true = rw (ep, div-add-mod' o w) t in
          let u' : word_bit from (spot (o / w) (o % w)) ≡ true = sym (seen_at w h z from (o / w) (o % w) ld) ∙ ap (seen w from) (div-add-mod' o w) ∙ u in
          let T = touch_out w r c (o / w) (o % w) lc ld t' in
          fresh_at from left (r + 33) c (omega (arith, z.w_max))
          ∙ and_in _ _ (around_in from (r + 33) (o / w + 33) c (o % w) (omega (arith, z.w_max)) (omega arith) (omega (arith, T.down)) (omega (arith, T.up)) (omega (arith, T.right))
          (omega (arith, T.left)) u') on

      back : (r c : ℕ) → r < h → c < w → r * w + c ≡ p → fresh from left (spot r c) ≡ true → (word_bit left (spot r c) && touching (h * w) (touch w) (seen w from) p) ≡ true
      back r c lr lc ep e =
          let e' = sym (fresh_at from left (r + 33) c (omega (arith, z.w_max))) ∙ e in
          let on : word_bit left (spot r c) ≡ true = and_r (beside 1 (stacked from (r + 33)) c) _ e' in
          let (s, d, a, b, x, y, l, u) = around_out from (r + 33) c (and_l (beside 1 (stacked from (r + 33)) c) _ e') in
          and_in _ _ on (there r c lr lc ep on s d a b x y u (ff (s * 320 + d) u))
        where
          there : (r c : ℕ) → r < h → c < w → r * w + c ≡ p → word_bit left (spot r c) ≡ true → (s d : ℕ) → s ≤ r + 33 + 1 → r + 33 ≤ s + 1 → d ≤ c + 1 → c ≤ d + 1
              → word_bit from (s * 320 + d) ≡ true → Pixel w h (s * 320 + d) → touching (h * w) (touch w) (seen w from) p ≡ true
          there r c lr lc ep on s d a b x y u P =
              let es : P.row + 33 ≡ s = omega (arith, P.here, P.column_in, z.w_max) in
              let ed : P.column ≡ d = omega (arith, P.here, P.column_in, z.w_max) in
              let (lo, q) = seen_pixel w h z from (s * 320 + d) P in
              touching_in w h (seen w from) p (P.row * w + P.column) lo
              (rw (← ep) (touch_in w r c P.row P.column lc P.column_in (record {
                up = omega arith;
                down = omega arith;
                left = omega arith;
                right = omega arith;
                other = λ i k. apart (spot r c) on (ap (word_bit from) (omega (arith, P.here)) ∙ u);
              })))
              (q ∙ u)
