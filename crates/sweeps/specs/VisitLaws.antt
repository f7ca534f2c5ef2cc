-- Laws of one pixel visited: which bits are its neighbours', that they are told, and what the visit leaves.
use Rattle.std.specs.Prelude.{◌≡◌, ℕ, ◌+◌, ◌-◌, ◌*◌, ◌/◌, ◌%◌, ◌^◌, ◌<◌, ◌≤◌, Bool, true, not, ◌&&◌, ◌||◌, ◌⊎◌, List, length, ◌==◌, ◌≢◌, bit_and, nat_eq, nat_le, slice_index, slice_index_or, refl}
use Rattle.std.proofs.Common.{sym, subst, ◌∙◌, inl, inr, ⊎_elim, div-add-mod', add-mul, arith, eq-eqb, ne_eqb, eqb-true, le-leb, leb-true}
use Rattle.std.proofs.Math.Path.{ap, ap₂}
use Rattle.std.proofs.Math.Decide.{ℕ_discrete, dec_lt}
use Rattle.std.proofs.lemmas.Bool.{eqb-false}
use Rattle.std.proofs.Math.Arith.{digits_div, digits_mod, digits_lt}
use Rattle.rules.specs.Images.{Plane}
use Rattle.rules.specs.Planning.{touch}
use Rattle.laws.specs.Neighbours.{touch_in, touch_out}
use Rattle.laws.specs.Tests.{clash, and_l, and_r, and_in, not_in, not_out, or_l, or_r, or_out}
use Rattle.words.specs.Words.{word_bit, bit_of_word, Digits, beside}
use Rattle.words.specs.RowLaws.{digits_but_not, Spreads}
use Rattle.planes.specs.PlaneLaws.{row_next, plane_max, pixel_row, seen_at, seen_is}
use Rattle.planes.specs.Scratch.{spot, Sizes, Pixel, seen}
use Rattle.sweeps.specs.Marks.{Cleared, SweepPlanes, MarkedPixel, Grows, Onward}
use Rattle.sweeps.specs.MarkLaws.{before_word, own_word, after_word}
use Rattle.sweeps.specs.Relaxing.{cleared}
use Rattle.sweeps.specs.Rings.{level}
use Rattle.sweeps.specs.Telling.{Meant, Inside, Aimed, Told, Lowers, Falls, Beside, Around}
use Rattle.sweeps.specs.TellLaws.{lowers_same, lowers_sum, lowers_marks, lowers_got, lowers_keep, lowers_grows}

-- which bits ----------------------------------------------------------------------------------------------------------

-- a and b are the same or next to each other
pub close : ℕ → ℕ → Bool
close a b = nat_le a (b + 1) && nat_le b (a + 1)

close_out : (a b : ℕ) → close a b ≡ true → (a ≤ b + 1) × (b ≤ a + 1)
unfolding close
close_out a b e = (leb-true a (b + 1) (and_l (nat_le a (b + 1)) _ e), leb-true b (a + 1) (and_r (nat_le a (b + 1)) _ e))

close_in : (a b : ℕ) → a ≤ b + 1 → b ≤ a + 1 → close a b ≡ true
unfolding close
close_in a b x y = and_in (nat_le a (b + 1)) _ (le-leb a (b + 1) x) (le-leb b (a + 1) y)

-- bit j is a candidate beside t, not t itself
pub tellable : ℕ → List ℕ → ℕ → Bool
tellable t cand j = word_bit cand j && (not (j == t) && (close t j || close t (j + 320) || close (t + 320) j))

tellable_in : (t : ℕ) (cand : List ℕ) (j : ℕ) → word_bit cand j ≡ true → (j ≢ t) → (close t j ≡ true) ⊎ ((close t (j + 320) ≡ true) ⊎ (close (t + 320) j ≡ true)) → tellable t cand j ≡ true
unfolding tellable
tellable_in t cand j c n o = and_in (word_bit cand j) _ c (and_in (not (j == t)) _ (not_in _ (ne_eqb j t n))
    (⊎_elim (λ a. or_l (close t j || close t (j + 320)) _ (or_l (close t j) _ a))
    (λ b. ⊎_elim (λ a. or_l (close t j || close t (j + 320)) _ (or_r (close t j) _ a)) (λ a. or_r (close t j || close t (j + 320)) _ a) b) o))

tellable_cand : (t : ℕ) (cand : List ℕ) (j : ℕ) → tellable t cand j ≡ true → word_bit cand j ≡ true
unfolding tellable
tellable_cand t cand j e = and_l (word_bit cand j) _ e

tellable_other : (t : ℕ) (cand : List ℕ) (j : ℕ) → tellable t cand j ≡ true → j ≢ t
unfolding tellable
tellable_other t cand j e = eqb-false j t (not_out _ (and_l (not (j == t)) _ (and_r (word_bit cand j) _ e)))

tellable_beside : (t : ℕ) (cand : List ℕ) (j : ℕ) → 320 ≤ t → tellable t cand j ≡ true → Beside t j
unfolding tellable
tellable_beside t cand j le e = ⊎_elim
    (λ x. ⊎_elim
    (λ a. let (u, v) = close_out t j a in record { middle = t; row = inl refl; left = u; right = v })
    (λ a. let (u, v) = close_out t (j + 320) a in record { middle = t - 320; row = inr (inr (omega arith)); left = omega arith; right = omega arith })
    (or_out (close t j) _ x))
    (λ a. let (u, v) = close_out (t + 320) j a in record { middle = t + 320; row = inr (inl refl); left = u; right = v })
    (or_out (close t j || close t (j + 320)) _ (and_r (not (j == t)) _ (and_r (word_bit cand j) _ e)))

-- masks ---------------------------------------------------------------------------------------------------------------

-- the word of the visited row that starts at bit a: mask has t and the bits beside it, middle the same without t
pub record Masks (t a mask middle : ℕ) : Type 0 where
  pub out : (k : ℕ) → k < 64 → bit_of_word mask k ≡ true → close t (a + k) ≡ true
  pub into : (k : ℕ) → k < 64 → close t (a + k) ≡ true → bit_of_word mask k ≡ true
  pub middle_out : (k : ℕ) → k < 64 → bit_of_word middle k ≡ true → (close t (a + k) ≡ true) × (a + k ≢ t)
  pub middle_into : (k : ℕ) → k < 64 → close t (a + k) ≡ true → (a + k ≢ t) → bit_of_word middle k ≡ true

beside_is : (t j : ℕ) → beside 1 (λ x. nat_eq x t) j ≡ close t j
unfolding beside
beside_is t j = Rattle.laws.specs.Tests.bool_eq _ _
    (λ u. ⊎_elim (λ x. ⊎_elim (λ a. let e = eqb-true j t a in close_in t j (omega arith) (omega arith)) (λ a. let e = eqb-true (j + 1) t a in close_in t j (omega arith) (omega arith)) (or_out (j == t) _ x))
    (λ x. let e = eqb-true (j - 1) t (and_r (nat_le 1 j) _ x) in let l = leb-true 1 j (and_l (nat_le 1 j) _ x) in close_in t j (omega arith) (omega arith)) (or_out (j == t || j + 1 == t) _ u))
    (λ u. let (lo, hi) = close_out t j u in elim (ℕ_discrete j t) [
      | yes q ↦ or_l (j == t || j + 1 == t) _ (or_l (j == t) _ (eq-eqb j t q))
      | no q ↦ elim (dec_lt j t) [
        | yes a ↦ or_l (j == t || j + 1 == t) _ (or_r (j == t) _ (eq-eqb (j + 1) t (omega arith)))
        | no a ↦ or_r (j == t || j + 1 == t) _ (and_in (nat_le 1 j) _ (le-leb 1 j (omega arith)) (eq-eqb (j - 1) t (omega arith)))
      ]
    ])

digit_is : (x a : ℕ) (f : ℕ → Bool) → Digits 64 x a f → (k : ℕ) → k < 64 → bit_of_word x k ≡ f (a + k)
unfolding bit_of_word
digit_is x a f D k lk = D.bits (63 - k) k (omega arith)

masks_side : (t a x : ℕ) → Digits 64 x a (beside 1 (λ j. nat_eq j t)) → ((k : ℕ) → k < 64 → a + k ≢ t) → Masks t a x x
masks_side t a x D n = record {
  out = λ k lk u. sym (is k lk) ∙ u;
  into = λ k lk u. is k lk ∙ u;
  middle_out = λ k lk u. (sym (is k lk) ∙ u, n k lk);
  middle_into = λ k lk u _. is k lk ∙ u;
}
  where
    is : (k : ℕ) → k < 64 → bit_of_word x k ≡ close t (a + k)
    is k lk = digit_is x a _ D k lk ∙ beside_is t (a + k)

module _ (i k b : ℕ) (lk : k < 64) (two : 2 ≤ i) (B : (a : ℕ) → Digits 64 b a (λ j. nat_eq j (a + k))) where
  masks_before : (x : ℕ) → Spreads 1 0 0 b x → Masks (i * 64 + k) ((i - 1) * 64) x x
  masks_before x S = masks_side (i * 64 + k) ((i - 1) * 64) x (before_word i k b lk two B x S) (λ j lj e. omega arith)

  masks_after : (x : ℕ) → Spreads 1 b 0 0 x → Masks (i * 64 + k) ((i + 1) * 64) x x
  masks_after x S = masks_side (i * 64 + k) ((i + 1) * 64) x (after_word i k b lk two B x S) (λ j lj e. omega arith)

  masks_own : (x : ℕ) → Spreads 1 0 b 0 x → Masks (i * 64 + k) (i * 64) x (bit_and x (2 ^ 64 - 1 - b))
  masks_own x S = record {
    out = λ j lj u. sym (is j lj) ∙ u;
    into = λ j lj u. is j lj ∙ u;
    middle_out = λ j lj u.
        let e = sym (mid j lj) ∙ u in
        (and_l (close (i * 64 + k) (i * 64 + j)) _ e, eqb-false (i * 64 + j) (i * 64 + k) (not_out _ (and_r (close (i * 64 + k) (i * 64 + j)) _ e)));
    middle_into = λ j lj u n. mid j lj ∙ and_in _ _ u (not_in _ (ne_eqb (i * 64 + j) (i * 64 + k) n));
  }
    where
      D : Digits 64 x (i * 64) (beside 1 (λ j. nat_eq j (i * 64 + k)))
      D = own_word i k b lk two B x S

      is : (j : ℕ) → j < 64 → bit_of_word x j ≡ close (i * 64 + k) (i * 64 + j)
      is j lj = digit_is x (i * 64) _ D j lj ∙ beside_is (i * 64 + k) (i * 64 + j)

      mid : (j : ℕ) → j < 64 → bit_of_word (bit_and x (2 ^ 64 - 1 - b)) j ≡ (close (i * 64 + k) (i * 64 + j) && not (i * 64 + j == i * 64 + k))
      mid j lj = digit_is _ (i * 64) _
          (digits_but_not x b (i * 64) (i * 64) (i * 64) (beside 1 (λ j. nat_eq j (i * 64 + k))) (λ j. nat_eq j (i * 64 + k)) (λ j. beside 1 (λ y. nat_eq y (i * 64 + k)) j && not (j == i * 64 + k)) D (B (i * 64))
          (λ a la. refl)) j lj ∙ ap (λ (c : Bool). c && not (i * 64 + j == i * 64 + k)) (beside_is (i * 64 + k) (i * 64 + j))

-- pixels ---------------------------------------------------------------------------------------------------------------

-- the pixel of bit j
pub pixel_of : ℕ → ℕ → ℕ
pixel_of w j = (j / 320 - 33) * w + j % 320

module _ (w h : ℕ) (z : Sizes w h) where
  pixel_is : (j : ℕ) (P : Pixel w h j) → pixel_of w j ≡ P.row * w + P.column
  unfolding pixel_of
  pixel_is j P =
      let l : P.column < 320 = omega (arith, P.column_in, z.w_max) in
      let a : j / 320 ≡ P.row + 33 = ap (λ (x : ℕ). x / 320) P.here ∙ digits_div (P.row + 33) l in
      let b : j % 320 ≡ P.column = ap (λ (x : ℕ). x % 320) P.here ∙ digits_mod (P.row + 33) l in
      ap₂ (λ (x y : ℕ). (x - 33) * w + y) a b ∙ ap (λ (x : ℕ). x * w + P.column) (omega arith)

  pixel_in : (j : ℕ) (P : Pixel w h j) → pixel_of w j < h * w
  pixel_in j P = subst (λ (x : ℕ). x < h * w) (sym (pixel_is j P)) (digits_lt P.row_in P.column_in)

  pixel_spot : (j : ℕ) (P : Pixel w h j) → j ≡ spot (pixel_of w j / w) (pixel_of w j % w)
  pixel_spot j P =
      let e = pixel_is j P in
      P.here ∙ ap₂ spot (sym (ap (λ (x : ℕ). x / w) e ∙ digits_div P.row P.column_in)) (sym (ap (λ (x : ℕ). x % w) e ∙ digits_mod P.row P.column_in))

-- a visit ---------------------------------------------------------------------------------------------------------------

module _ {w h : ℕ} {ring marks got cand : List ℕ} {r q k : ℕ} (K : MarkedPixel w h ring marks got cand r q k) where
  abbrev B : ℕ → Bool
  B = tellable (spot r (q * 64 + k)) cand

  -- the visited pixel
  here : Pixel w h (spot r (q * 64 + k))
  here = K.planes.marks_framed (spot r (q * 64 + k)) K.on

  pub column_in : q * 64 + k < w
  column_in =
      let P = here in
      let e : P.column ≡ q * 64 + k = omega (arith, P.here, P.column_in, K.planes.sizes.w_max) in
      omega (arith, P.column_in)

  pub pixel_at_lem : r * w + q * 64 + k < h * w
  pixel_at_lem = let l : r * w + (q * 64 + k) < h * w = digits_lt K.row_in column_in in omega arith

  pub pixel_small : r * w + q * 64 + k < 65536
  pixel_small = omega (arith, pixel_at_lem, plane_max w h K.planes.sizes)

  -- what bit j of word e, counted from the one before, is in the row above (d = 0), in its own (1) or below (2)
  module _ (d e : ℕ) (ld : d ≤ 2) (le : e ≤ 2) (a j : ℕ) (la : a < 64) (ej : j + 384 ≡ (r + 33) * 320 + q * 64 + e * 64 + a + d * 320) (c : word_bit cand j ≡ true) where
    P : Pixel w h j
    P = K.planes.cand_framed j c

    row_is : P.row + 1 ≡ r + d
    row_is = omega (arith, P.here, P.column_in, K.planes.sizes.w_max)

    column_is : P.column + 64 ≡ q * 64 + e * 64 + a
    column_is = omega (arith, P.here, P.column_in, K.planes.sizes.w_max)

    place_is : pixel_of w j + w + 64 ≡ (r + d) * w + (q * 64 + e * 64 + a)
    place_is =
        let x : (P.row + 1) * w ≡ P.row * w + w = row_next P.row w in
        let y : (P.row + 1) * w ≡ (r + d) * w = ap (λ (n : ℕ). n * w) row_is in
        omega (arith, pixel_is w h K.planes.sizes j P, column_is)

    in_plane : pixel_of w j < h * w
    in_plane = pixel_in w h K.planes.sizes j P

  -- three words, each with its mask: those of the row above, of its own and of the row below are i, i + 5 and i + 10
  module _ (e i x mask middle : ℕ) (le : e ≤ 2) (ei : i + 6 ≡ (r + 33) * 5 + q + e) (ex : x ≡ r * w + q * 64 + e * 64) (M : Masks (spot r (q * 64 + k)) ((i + 5) * 64) mask middle) where
    -- a bit of word n, d rows below the first, that is beside the visited one in its column
    meant_at : (d n m : ℕ) → d ≤ 2 → n ≡ i + d * 5 → (a : ℕ) → Meant n m cand a → close (spot r (q * 64 + k)) ((i + 5) * 64 + a) ≡ true → (n * 64 + a ≢ spot r (q * 64 + k))
        → (B (n * 64 + a) ≡ true) × (pixel_of w (n * 64 + a) + w + 64 ≡ x + a + d * w) × (pixel_of w (n * 64 + a) < h * w)
    meant_at d n m ld en a me c o =
        let (u, v) = close_out (spot r (q * 64 + k)) ((i + 5) * 64 + a) c in
        let ej : n * 64 + a + 384 ≡ (r + 33) * 320 + q * 64 + e * 64 + a + d * 320 = omega arith in
        let y : (r + d) * w ≡ r * w + d * w = add-mul r d w in (
          tellable_in (spot r (q * 64 + k)) cand (n * 64 + a) me.in_cand o (elim (ℕ_discrete d 1) [
            | yes z ↦ inl (close_in (spot r (q * 64 + k)) (n * 64 + a) (omega arith) (omega arith))
            | no z ↦ elim (ℕ_discrete d 0) [
              | yes z' ↦ inr (inl (close_in (spot r (q * 64 + k)) (n * 64 + a + 320) (omega arith) (omega arith)))
              | no z' ↦ inr (inr (close_in (spot r (q * 64 + k) + 320) (n * 64 + a) (omega arith) (omega arith)))
            ]
          ]),
          omega (arith, place_is d e ld le a (n * 64 + a) me.in_word ej me.in_cand),
          in_plane d e ld le a (n * 64 + a) me.in_word ej me.in_cand,
        )

    above : (a : ℕ) → Meant i mask cand a → (B (i * 64 + a) ≡ true) × (pixel_of w (i * 64 + a) + w + 64 ≡ x + a + 0 * w) × (pixel_of w (i * 64 + a) < h * w)
    above a m = let c = M.out a m.in_word m.in_mask in let (u, v) = close_out _ _ c in meant_at 0 i mask (omega arith) (omega arith) a m c (λ z. omega arith)

    own : (a : ℕ) → Meant (i + 5) middle cand a → (B ((i + 5) * 64 + a) ≡ true) × (pixel_of w ((i + 5) * 64 + a) + w + 64 ≡ x + a + 1 * w) × (pixel_of w ((i + 5) * 64 + a) < h * w)
    own a m = let (c, o) = M.middle_out a m.in_word m.in_mask in meant_at 1 (i + 5) middle (omega arith) (omega arith) a m c o

    below : (a : ℕ) → Meant (i + 10) mask cand a → (B ((i + 10) * 64 + a) ≡ true) × (pixel_of w ((i + 10) * 64 + a) + w + 64 ≡ x + a + 2 * w) × (pixel_of w ((i + 10) * 64 + a) < h * w)
    below a m = let c = M.out a m.in_word m.in_mask in let (u, v) = close_out _ _ c in meant_at 2 (i + 10) mask (omega arith) (omega arith) a m c (λ z. omega arith)

    -- what telling asks for, by the lengths of rings, marks and got
    pub asks : (nr nm ng : ℕ) → nr ≡ length ring → nm ≡ length marks → ng ≡ length got → (mask ≡ 0 → middle ≡ 0)
        → (i + 10 < nm) × (i + 10 < ng) × (i + 10 < length cand) × (x < 130000) × (w ≤ 256) × (mask ≡ 0 → middle ≡ 0) × Inside i mask x (w + 64) cand nr × Inside (i + 5) middle x 64 cand nr
        × Inside (i + 10) mask (x + w) 64 cand nr
    asks nr nm ng a b c z =
        let n : nr ≡ h * w = a ∙ K.planes.ring_long in (
          omega (arith, K.planes.marks_long, K.planes.sizes.h_max),
          omega (arith, K.planes.got_long, K.planes.sizes.h_max),
          omega (arith, K.planes.cand_long, K.planes.sizes.h_max),
          omega (arith, pixel_small),
          K.planes.sizes.w_max,
          z,
          (λ a m. let A = above a m in (omega (arith, A.1), omega (arith, A.1, A.2))),
          (λ a m. let A = own a m in (omega (arith, A.1), omega (arith, A.1, A.2))),
          (λ a m. let A = below a m in (omega (arith, A.1), omega (arith, A.1, A.2))),
        )

    pub aimed : Aimed (pixel_of w) B i mask x (w + 64) cand × Aimed (pixel_of w) B (i + 5) middle x 64 cand × Aimed (pixel_of w) B (i + 10) mask (x + w) 64 cand
    aimed = ((λ a m. let A = above a m in (A.0, omega (arith, A.1))), (λ a m. let A = own a m in (A.0, omega (arith, A.1))), (λ a m. let A = below a m in (A.0, omega (arith, A.1))))

    -- the pixel in row s and column c, which stands in one of the three words, is told
    module _ (v : ℕ) (ring' : List ℕ) (T : Told (pixel_of w) i mask v cand ring' × Told (pixel_of w) (i + 5) middle v cand ring' × Told (pixel_of w) (i + 10) mask v cand ring')
        (s c a : ℕ) (ls : s < h) (lc : c < w) (la : a < 64) (ea : c + 64 ≡ q * 64 + e * 64 + a) (up : r ≤ s + 1) (down : s ≤ r + 1) (left : c ≤ q * 64 + k + 1) (right : q * 64 + k ≤ c + 1)
        (u : word_bit cand (spot s c) ≡ true) (n : spot s c ≡ spot r (q * 64 + k) → ⊥) where
      this : (j : ℕ) → j ≡ spot s c → level (slice_index ring' (pixel_of w j)) ≤ v + 1 → level (slice_index ring' (s * w + c)) ≤ v + 1
      this j ej =
          subst (λ (y : ℕ). level (slice_index ring' y) ≤ v + 1) (pixel_is w h K.planes.sizes j (record { row = s; column = c; row_in = ls; column_in = lc; here = ej }))

      beside_t : close (spot r (q * 64 + k)) ((i + 5) * 64 + a) ≡ true
      beside_t = close_in (spot r (q * 64 + k)) ((i + 5) * 64 + a) (omega arith) (omega arith)

      told_here : level (slice_index ring' (s * w + c)) ≤ v + 1
      told_here = elim (ℕ_discrete s r) [
        | yes x ↦
            let ej : (i + 5) * 64 + a ≡ spot s c = omega arith in
            this ((i + 5) * 64 + a) ej (T.1 a (record { in_word = la; in_mask = M.middle_into a la beside_t (λ y. n (sym ej ∙ y)); in_cand = ap (word_bit cand) ej ∙ u }))
        | no x ↦ elim (dec_lt s r) [
          | yes y ↦
              let ej : i * 64 + a ≡ spot s c = omega arith in
              this (i * 64 + a) ej (T.0 a (record { in_word = la; in_mask = M.into a la beside_t; in_cand = ap (word_bit cand) ej ∙ u }))
          | no y ↦
              let ej : (i + 10) * 64 + a ≡ spot s c = omega arith in
              this ((i + 10) * 64 + a) ej (T.2 a (record { in_word = la; in_mask = M.into a la beside_t; in_cand = ap (word_bit cand) ej ∙ u }))
        ]
      ]

  -- the masks of the three words, as the code makes them
  module _ (b : ℕ) (D : (a : ℕ) → Digits 64 b a (λ j. nat_eq j (a + k))) where
    masks_at : {x y a a' : ℕ} → a ≡ a' → Masks (((r + 33) * 5 + q) * 64 + k) a x y → Masks (spot r (q * 64 + k)) a' x y
    masks_at {x = x} {y = y} {a' = a'} e M =
        let t : ((r + 33) * 5 + q) * 64 + k ≡ spot r (q * 64 + k) = omega arith in
        subst (λ (n : ℕ). Masks n a' x y) t (subst (λ (n : ℕ). Masks (((r + 33) * 5 + q) * 64 + k) n x y) e M)

    pub own_masks : (x : ℕ) → Spreads 1 0 b 0 x → Masks (spot r (q * 64 + k)) (((r + 33) * 5 + q - 5 + 5) * 64) x (bit_and x (2 ^ 64 - 1 - b))
    own_masks x S = masks_at {a = ((r + 33) * 5 + q) * 64} (omega arith) (masks_own ((r + 33) * 5 + q) k b K.bit_inside (omega arith) D x S)

    pub before_masks : (x : ℕ) → Spreads 1 0 0 b x → Masks (spot r (q * 64 + k)) (((r + 33) * 5 + q - 6 + 5) * 64) x x
    before_masks x S = masks_at {a = ((r + 33) * 5 + q - 1) * 64} (omega arith) (masks_before ((r + 33) * 5 + q) k b K.bit_inside (omega arith) D x S)

    pub after_masks : (x : ℕ) → Spreads 1 b 0 0 x → Masks (spot r (q * 64 + k)) (((r + 33) * 5 + q - 4 + 5) * 64) x x
    after_masks x S = masks_at {a = ((r + 33) * 5 + q + 1) * 64} (omega arith) (masks_after ((r + 33) * 5 + q) k b K.bit_inside (omega arith) D x S)

  -- three rows of a word, of which the first starts with word i, are told
  abbrev pub RowsTold : ℕ → ℕ → ℕ → ℕ → List ℕ → Type 0
  RowsTold i mask middle v ring' = Told (pixel_of w) i mask v cand ring' × Told (pixel_of w) (i + 5) middle v cand ring' × Told (pixel_of w) (i + 10) mask v cand ring'

  module _ (own mid before after v : ℕ) (Mo : Masks (spot r (q * 64 + k)) (((r + 33) * 5 + q - 5 + 5) * 64) own mid) (Mb : Masks (spot r (q * 64 + k)) (((r + 33) * 5 + q - 6 + 5) * 64) before before)
      (Ma : Masks (spot r (q * 64 + k)) (((r + 33) * 5 + q - 4 + 5) * 64) after after) (ring' : List ℕ) (To : RowsTold ((r + 33) * 5 + q - 5) own mid v ring')
      (Tb : RowsTold ((r + 33) * 5 + q - 6) before before v ring') (Ta : RowsTold ((r + 33) * 5 + q - 4) after after v ring') where
    -- every candidate that touches the visited pixel is told
    pub all_told : (s c : ℕ) → s < h → c < w → touch w (s * w + c) (r * w + (q * 64 + k)) ≡ true → word_bit cand (spot s c) ≡ true → level (slice_index ring' (s * w + c)) ≤ v + 1
    all_told s c ls lc t' u =
        let X = touch_out w s c r (q * 64 + k) lc column_in t' in
        let n : spot s c ≡ spot r (q * 64 + k) → ⊥ = λ y. X.other (omega (arith, K.planes.sizes.w_max)) (omega (arith, K.planes.sizes.w_max)) in
        elim (dec_lt c (q * 64)) [
          | yes a ↦ told_here 0 ((r + 33) * 5 + q - 6) (r * w + q * 64 + 0 * 64) before before (omega arith) (omega arith) refl Mb v ring' Tb s c (c + 64 - q * 64) ls lc (omega (arith, X.right))
              (omega (arith, X.right)) X.down X.up X.left X.right u n
          | no a ↦ elim (dec_lt c (q * 64 + 64)) [
            | yes b ↦ told_here 1 ((r + 33) * 5 + q - 5) (r * w + q * 64 + 1 * 64) own mid (omega arith) (omega arith) refl Mo v ring' To s c (c - q * 64) ls lc (omega arith) (omega arith) X.down
                X.up X.left X.right u n
            | no b ↦ told_here 2 ((r + 33) * 5 + q - 4) (r * w + q * 64 + 2 * 64) after after (omega arith) (omega arith) refl Ma v ring' Ta s c (c - q * 64 - 64) ls lc (omega (arith, X.left))
                (omega (arith, X.left)) X.down X.up X.left X.right u n
          ]
        ]

  -- what the visit leaves
  module _ (ring' m got' marks' : List ℕ) (L : Lowers (pixel_of w) (slice_index ring (r * w + q * 64 + k)) B ring marks got ring' m got') (cl : Cleared (spot r (q * 64 + k)) marks' m)
      (all : (s c : ℕ) → s < h → c < w → touch w (s * w + c) (r * w + (q * 64 + k)) ≡ true → word_bit cand (spot s c) ≡ true → level (slice_index ring' (s * w + c)) ≤ slice_index ring (r * w + q * 64 + k) + 1) where
    off : (j : ℕ) → word_bit marks' j ≡ true → word_bit m j ≡ true
    off j u = elim (ℕ_discrete j (spot r (q * 64 + k))) [
      | yes x ↦ clash (subst (λ (y : ℕ). word_bit marks' y ≡ true) x u) cl.off
      | no x ↦ sym (cl.same j x) ∙ u
    ]

    in_cand : (j : ℕ) → B j ≡ true → Pixel w h j
    in_cand j b = K.planes.cand_framed j (tellable_cand (spot r (q * 64 + k)) cand j b)

    pub visit_around : Around (spot r (q * 64 + k)) marks' marks
    visit_around j u = ⊎_elim (λ a. inl a) (λ a. inr (tellable_beside (spot r (q * 64 + k)) cand j (omega arith) a)) (lowers_marks L j (off j u))

    pub visit_planes : length ring' ≡ length ring → length marks' ≡ length marks → length got' ≡ length got → SweepPlanes w h ring' marks' got' cand
    visit_planes a b c = record {
      sizes = K.planes.sizes;
      ring_long = a ∙ K.planes.ring_long;
      marks_long = b ∙ K.planes.marks_long;
      got_long = c ∙ K.planes.got_long;
      cand_long = K.planes.cand_long;
      cand_framed = K.planes.cand_framed;
      marks_framed = λ j u. ⊎_elim (λ x. K.planes.marks_framed j x) (λ x. in_cand j x) (lowers_marks L j (off j u));
    }

    pub visit_falls : (i : ℕ) → (word_bit m (spot r (q * 64 + k)) ≡ true → slice_index marks' i < slice_index m i)
        → Falls ring' ring (((j : ℕ) → word_bit marks' j ≡ true → word_bit marks j ≡ true) × (slice_index marks' i < slice_index marks i))
    visit_falls i less = ⊎_elim (λ a. inl a)
        (λ a. inr (a.0, ((λ j u. subst (λ (l : List ℕ). word_bit l j ≡ true) a.1 (off j u)), subst (λ (l : List ℕ). slice_index marks' i < slice_index l i) a.1 (less (lowers_keep L (spot r (q * 64 + k)) K.on)))))
        (lowers_sum (λ j b. omega (arith, pixel_in w h K.planes.sizes j (in_cand j b), K.planes.ring_long)) L)

    lp : r * w + (q * 64 + k) < h * w
    lp = digits_lt K.row_in column_in

    -- rows and columns of a bit beside it
    sides : (j y c : ℕ) → j ≡ spot y c → c < 256 → (N : Beside (spot r (q * 64 + k)) j) → (y ≤ r + 1) × (r ≤ y + 1) × (c ≤ q * 64 + k + 1) × (q * 64 + k ≤ c + 1)
    sides j y c e lc N = go N.row
      where
        go : (N.middle ≡ spot r (q * 64 + k)) ⊎ ((N.middle ≡ spot r (q * 64 + k) + 320) ⊎ (N.middle + 320 ≡ spot r (q * 64 + k))) → (y ≤ r + 1) × (r ≤ y + 1) × (c ≤ q * 64 + k + 1) × (q * 64 + k ≤ c + 1)
        go (inl x) = (omega (arith, N.left, N.right), omega (arith, N.left, N.right), omega (arith, N.left, N.right), omega (arith, N.left, N.right))
        go (inr (inl x)) = (omega (arith, N.left, N.right), omega (arith, N.left, N.right), omega (arith, N.left, N.right), omega (arith, N.left, N.right))
        go (inr (inr x)) = (omega (arith, N.left, N.right), omega (arith, N.left, N.right), omega (arith, N.left, N.right), omega (arith, N.left, N.right))

    touches : (j : ℕ) → B j ≡ true → touch w (pixel_of w j) (r * w + (q * 64 + k)) ≡ true
    touches j b =
        let P = in_cand j b in
        let (u, d, l, a) = sides j P.row P.column P.here (omega (arith, P.column_in, K.planes.sizes.w_max)) (tellable_beside (spot r (q * 64 + k)) cand j (omega arith) b) in
        subst (λ (y : ℕ). touch w y (r * w + (q * 64 + k)) ≡ true) (sym (pixel_is w h K.planes.sizes j P))
        (touch_in w P.row P.column r (q * 64 + k) P.column_in column_in
        (record { up = u; down = d; left = l; right = a; other = λ x y. tellable_other (spot r (q * 64 + k)) cand j b (P.here ∙ ap₂ spot x y) }))

    goes_on : (free seed known : Plane) → Grows w h free seed known ring marks got cand → Grows w h free seed known ring' marks' got' cand
    goes_on free seed known G =
        let e : slice_index_or ring (r * w + q * 64 + k) 0 ≡ slice_index_or ring (r * w + (q * 64 + k)) 0 = ap (λ (y : ℕ). slice_index ring y) (omega arith) in
        let mq : seen w marks (r * w + (q * 64 + k)) ≡ true = seen_at w h K.planes.sizes marks r (q * 64 + k) column_in ∙ K.on in
        let pos = G.sweeping.marked (r * w + (q * 64 + k)) lp mq in
        let E = lowers_grows w h K.planes.sizes free seed known cand (pixel_of w) (slice_index ring (r * w + q * 64 + k)) B (r * w + (q * 64 + k)) lp (omega arith)
        (λ j b. (pixel_in w h K.planes.sizes j (in_cand j b), touches j b, tellable_cand (spot r (q * 64 + k)) cand j b, pixel_spot w h K.planes.sizes j (in_cand j b))) (sym e) G L in
        let same : slice_index_or ring' (r * w + (q * 64 + k)) 0 ≡ slice_index_or ring (r * w + q * 64 + k) 0 = lowers_same L (r * w + (q * 64 + k)) (omega (arith, ap level e, Rattle.sweeps.specs.Relaxing.level_pos (slice_index ring (r * w + (q * 64 + k))) pos)) ∙ sym e in
        record {
          frame = E.frame;
          sweeping = cleared w h free seed known E.frame ring' (seen w m) E.sweeping (r * w + (q * 64 + k)) lp
              (seen_at w h K.planes.sizes m r (q * 64 + k) column_in ∙ lowers_keep L (spot r (q * 64 + k)) K.on)
              (λ x lx la u.
              let (a, b) = pixel_row w h K.planes.sizes x lx in
              let d : level (slice_index ring' (x / w * w + x % w)) ≤ slice_index ring (r * w + q * 64 + k) + 1 =
              all (x / w) (x % w) a b (subst (λ (y : ℕ). touch w y (r * w + (q * 64 + k)) ≡ true) (sym (div-add-mod' x w)) u)
              (sym (seen_is w h K.planes.sizes cand x) ∙ E.cands x lx ∙ la) in
              let d' : level (slice_index ring' x) ≤ slice_index ring (r * w + q * 64 + k) + 1 = subst (λ (y : ℕ). level (slice_index ring' y) ≤ slice_index ring (r * w + q * 64 + k) + 1) (div-add-mod' x w) d in
              omega arith)
              (seen w marks')
              (λ x lx u. elim (ℕ_discrete (spot (x / w) (x % w)) (spot r (q * 64 + k))) [
                | yes y ↦ inl (sym (div-add-mod' x w) ∙ (let (a, b) = pixel_row w h K.planes.sizes x lx in
                    let er : x / w ≡ r = omega (arith, K.planes.sizes.w_max, column_in) in
                    let ec : x % w ≡ q * 64 + k = omega (arith, K.planes.sizes.w_max, column_in) in
                    ap₂ (λ (a b : ℕ). a * w + b) er ec))
                | no y ↦ inr (seen_is w h K.planes.sizes m x ∙ sym (cl.same (spot (x / w) (x % w)) y) ∙ sym (seen_is w h K.planes.sizes marks' x) ∙ u)
              ])
              (λ x lx u. seen_is w h K.planes.sizes m x ∙ off (spot (x / w) (x % w)) (sym (seen_is w h K.planes.sizes marks' x) ∙ u));
          cands = E.cands;
          gots = E.gots;
        }

    pub visit_onward : Onward w h ring' ring marks' marks got' got cand
    visit_onward = record { grows = goes_on; adds = λ j u. ⊎_elim (λ a. inl a) (λ a. inr (tellable_cand (spot r (q * 64 + k)) cand j a)) (lowers_got L j u) }
