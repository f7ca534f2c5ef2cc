-- Laws of the scan: a pixel set in a packed plane, and one post more.
use Rattle.std.specs.Prelude.{◌≡◌, refl, true, ◌||◌, ℕ, zero, suc, ◌+◌, ◌-◌, ◌*◌, ◌/◌, ◌%◌, ◌^◌, ◌<◌, ◌≤◌, eqb, get_or, set}
use Rattle.std.proofs.Math.Path.{sym, ap}
use Rattle.std.proofs.Common.{subst, ◌∙◌, zero-add, div-add-mod', mul_assoc, mul-le-mul, get_or-set_same, get_or-set_other}
use Rattle.std.proofs.Math.Bool.{Bool, false}
use mathlib.Core.List.{List, [], ◌∷◌}
use Rattle.std.proofs.Math.Nat.{mod-lt}
use native.Mathlib.Omega.{arith}
use Rattle.std.proofs.Math.Decide.{dec_lt, ℕ_discrete}
use borrow.Author.Tests.{eq-eqb, ne_eqb}
use Rattle.std.proofs.Math.Arith.{digits_div, digits_mod, digits_lt}
use Rattle.std.specs.Int.Bits.{bit_or}
use Rattle.std.proofs.Math.ListN.{length}
use Rattle.std.proofs.Math.Seq.{ext_get_or}
use Rattle.rules.specs.Images.{bit_at, row_bytes}
use Rattle.rules.specs.Posts.{plane_of, spared, scanned, listed}
use Rattle.rules.specs.Tools.{count, each}
use Rattle.laws.specs.PostLayers.{FirstLeft, spared_same, spared_left, spared_own, scan_end, scan_first}
use Rattle.laws.specs.Tests.{split, clash, or_false, get_d_each, length_each, count_le, count_more}
use Rattle.image.specs.Bits.{bit_or_lem, eight}
use Rattle.image.specs.Rows.{packed, Clean}
use Rattle.image.specs.Scratch.{bit_of}
use Rattle.words.specs.Words.{word_bit, bit_of_word}
use Rattle.words.specs.Digits.{place_zero}
use Rattle.words.specs.WordLaws.{flat_here}
use Rattle.planes.specs.Scratch.{spot, Sizes, Ready, seen}
use Rattle.planes.specs.PlaneLaws.{row_fits, framed_row, seen_at}
use Rattle.posts.specs.Scanning.{to_come, Scanning}

one_bit : (c : ℕ) → c < 8 → (k : ℕ) → k < 8 → bit_at (128 / 2 ^ c) k ≡ eqb c k
unfolding bit_at
one_bit =
    eight (λ c. (k : ℕ) → k < 8 → bit_at (128 / 2 ^ c) k ≡ eqb c k)
    (eight (λ k. bit_at (128 / 2 ^ 0) k ≡ eqb 0 k) refl refl refl refl refl refl refl refl)
    (eight (λ k. bit_at (128 / 2 ^ 1) k ≡ eqb 1 k) refl refl refl refl refl refl refl refl)
    (eight (λ k. bit_at (128 / 2 ^ 2) k ≡ eqb 2 k) refl refl refl refl refl refl refl refl)
    (eight (λ k. bit_at (128 / 2 ^ 3) k ≡ eqb 3 k) refl refl refl refl refl refl refl refl)
    (eight (λ k. bit_at (128 / 2 ^ 4) k ≡ eqb 4 k) refl refl refl refl refl refl refl refl)
    (eight (λ k. bit_at (128 / 2 ^ 5) k ≡ eqb 5 k) refl refl refl refl refl refl refl refl)
    (eight (λ k. bit_at (128 / 2 ^ 6) k ≡ eqb 6 k) refl refl refl refl refl refl refl refl)
    (eight (λ k. bit_at (128 / 2 ^ 7) k ≡ eqb 7 k) refl refl refl refl refl refl refl refl)

pub pixel_set : (l : List ℕ) (at c : ℕ) → at + c / 8 < length l → (j : ℕ) → bit_of (set l (at + c / 8) (bit_or (get_or l (at + c / 8) 0) (128 / 2 ^ (c % 8)))) j ≡ (bit_of l j || eqb (at * 8 + c) j)
unfolding bit_of
pixel_set l at c h j = elim (ℕ_discrete (j / 8) (at + c / 8)) [
  | yes e ↦ rw e (
      ap (λ (b : ℕ). bit_at b (j % 8)) (get_or-set_same l (at + c / 8) _ 0 h)
      ∙ bit_or_lem (get_or l (at + c / 8) 0) (128 / 2 ^ (c % 8)) (j % 8)
      ∙ ap (λ (b : Bool). bit_at (get_or l (at + c / 8) 0) (j % 8) || b) (one_bit (c % 8) (omega arith) (j % 8) (omega arith) ∙ same e))
  | no e ↦
      ap (λ (b : ℕ). bit_at b (j % 8)) (get_or-set_other l (at + c / 8) (j / 8) _ 0 e)
      ∙ sym (or_false (bit_at (get_or l (j / 8) 0) (j % 8)))
      ∙ ap (λ (b : Bool). bit_at (get_or l (j / 8) 0) (j % 8) || b) (sym (ne_eqb (at * 8 + c) j (λ z. e (omega arith))))
]
  where
    same : j / 8 ≡ at + c / 8 → eqb (c % 8) (j % 8) ≡ eqb (at * 8 + c) j
    same e = elim (ℕ_discrete (c % 8) (j % 8)) [
      | yes z ↦ eq-eqb (c % 8) (j % 8) z ∙ sym (eq-eqb (at * 8 + c) j (omega arith))
      | no z ↦ ne_eqb (c % 8) (j % 8) z ∙ sym (ne_eqb (at * 8 + c) j (λ y. z (omega arith)))
    ]

listed_more : (a : ℕ) (l : List ℕ) (p : ℕ) → listed (a ∷ l) p ≡ (eqb a p || listed l p)
unfolding listed
listed_more a l p = refl

listed_none : (p : ℕ) → listed [] p ≡ false
unfolding listed
listed_none p = refl

-- a pixel set in a packed plane ----------------------------------------------------------------------------------------------

row_wide : (w : ℕ) → w ≤ row_bytes w * 8
unfolding row_bytes
row_wide w = omega arith

-- a row's bytes, and a column's bit, are within a plane's
pub row_bits : (w h n y : ℕ) → Sizes w h → n ≡ row_bytes w → y < h → (out : List ℕ) → Clean w h out → (y * n ≤ 8192) × ((c : ℕ) → c < w → y * n * 8 + c < length out * 8)
unfolding row_bytes
row_bits w h n y z en ly out C =
    let ln : n ≤ 32 = omega (arith, z.w_max) in
    let my : y ≤ 256 = omega (arith, z.h_max) in
    (omega (arith, mul-le-mul my ln), λ c l. omega (arith, row_fits y h n ly, row_wide w, C.long, ap (λ (x : ℕ). h * x) en))

module _ (w h n y c : ℕ) (en : n ≡ row_bytes w) (lc : c < w) (out out' : List ℕ) (E : (j : ℕ) → bit_of out' j ≡ (bit_of out j || eqb (y * n * 8 + c) j)) where
  -- bits of rows are the same where rows and columns are
  at_most : (r x : ℕ) → x < row_bytes w * 8 → y * n * 8 + c ≡ r * row_bytes w * 8 + x → (y ≡ r) × (c ≡ x)
  at_most r x lx e =
      let a : y * n * 8 + c ≡ y * (row_bytes w * 8) + c = rw en (ap (λ (i : ℕ). i + c) (mul_assoc y (row_bytes w) 8)) in
      let b : r * row_bytes w * 8 + x ≡ r * (row_bytes w * 8) + x = ap (λ (i : ℕ). i + x) (mul_assoc r (row_bytes w) 8) in
      let z : y * (row_bytes w * 8) + c ≡ r * (row_bytes w * 8) + x = sym a ∙ e ∙ b in
      let l : c < row_bytes w * 8 = omega (arith, row_wide w) in
      (sym (digits_div y l) ∙ ap (λ (i : ℕ). i / (row_bytes w * 8)) z ∙ digits_div r lx, sym (digits_mod y l) ∙ ap (λ (i : ℕ). i % (row_bytes w * 8)) z ∙ digits_mod r lx)

  pub pixel_clean : length out' ≡ length out → Clean w h out → Clean w h out'
  pixel_clean el C = record {
    long = el ∙ C.long;
    clear = λ r x lr lo hi. E (r * row_bytes w * 8 + x) ∙ rw (C.clear r x lr lo hi, ne_eqb (y * n * 8 + c) (r * row_bytes w * 8 + x) (λ e. omega (arith, (at_most r x hi e).1)));
  }

  pub pixel_packed : (p : ℕ) → packed w out' p ≡ (packed w out p || eqb (y * w + c) p)
  unfolding packed
  pixel_packed p = E (p / w * row_bytes w * 8 + p % w) ∙ ap (λ (b : Bool). bit_of out (p / w * row_bytes w * 8 + p % w) || b) (elim (ℕ_discrete (y * w + c) p) [
    | yes e ↦
        let ey : p / w ≡ y = ap (λ (i : ℕ). i / w) (sym e) ∙ digits_div y lc in
        let ec : p % w ≡ c = ap (λ (i : ℕ). i % w) (sym e) ∙ digits_mod y lc in
        eq-eqb (y * n * 8 + c) (p / w * row_bytes w * 8 + p % w) (rw (ey, ec, en)) ∙ sym (eq-eqb (y * w + c) p e)
    | no e ↦ ne_eqb _ _ (λ z. let lw : 0 < w = omega arith in let (a, b) = at_most (p / w) (p % w) (omega (arith, mod-lt p lw, row_wide w)) z in e (rw (a, b) (div-add-mod' p w))) ∙ sym (ne_eqb _ _ e)
  ])

-- what remains, row by row ----------------------------------------------------------------------------------------------------

-- nothing remains in the rows before row y, and in row y before word k
abbrev pub Before : ℕ → ℕ → ℕ → List ℕ → Type 0
Before w y k rest = ((p : ℕ) → p < y * w → seen w rest p ≡ false) × ((c : ℕ) → c < k * 64 → word_bit rest (spot y c) ≡ false)

pub before_start : (w y : ℕ) (rest : List ℕ) → ((p : ℕ) → p < y * w → seen w rest p ≡ false) → Before w y 0 rest
before_start w y rest e = (e, λ c l. absurd (omega arith))

word_bit_lem : (l : List ℕ) (y k r : ℕ) → r < 64 → word_bit l (spot y (k * 64 + r)) ≡ bit_of_word (get_or l ((y + 33) * 5 + k) 0) r
unfolding bit_of_word
word_bit_lem l y k r lr =
    let z : spot y (k * 64 + r) ≡ ((y + 33) * 5 + k) * 64 + r = omega arith in
    ap (word_bit l) z ∙ flat_here 64 l ((y + 33) * 5 + k) (63 - r) r (omega arith)

-- a word that is empty
pub before_word : (w y k : ℕ) (rest : List ℕ) → get_or rest ((y + 33) * 5 + k) 0 ≡ 0 → Before w y k rest → Before w y (k + 1) rest
unfolding bit_of_word
before_word w y k rest e (a, b) = (
  a,
  λ c l. elim (dec_lt c (k * 64)) [
    | yes u ↦ b c u
    | no u ↦
        let z : k * 64 + (c - k * 64) ≡ c = omega arith in
        subst (λ (i : ℕ). word_bit rest (spot y i) ≡ false) z (word_bit_lem rest y k (c - k * 64) (omega arith) ∙ rw e (place_zero (63 - (c - k * 64))))
  ],
)

module _ (w h : ℕ) (z : Sizes w h) (rest : List ℕ) (R : Ready w h rest) (y k : ℕ) (ly : y < h) (B : Before w y k rest) where
  -- the first bit of word k is the first pixel that remains
  pub first_pixel : (r : ℕ) → k < 4 → r < 64 → bit_of_word (get_or rest ((y + 33) * 5 + k) 0) r ≡ true → ((i : ℕ) → i < r → bit_of_word (get_or rest ((y + 33) * 5 + k) 0) i ≡ false)
      → (k * 64 + r < w) × (word_bit rest (spot y (k * 64 + r)) ≡ true) × ((p : ℕ) → p < y * w + (k * 64 + r) → seen w rest p ≡ false)
  first_pixel r lk lr on off =
      let e : word_bit rest (spot y (k * 64 + r)) ≡ true = word_bit_lem rest y k r lr ∙ on in
      let lc : k * 64 + r < w = (framed_row w h z rest (y + 33) (k * 64 + r) R.framed (omega arith) e).2 in
      (lc, e, none lc)
    where
      in_row : (x : ℕ) → x < k * 64 + r → word_bit rest (spot y x) ≡ false
      in_row x l = elim (dec_lt x (k * 64)) [
        | yes u ↦ B.1 x u
        | no u ↦
            let ex : k * 64 + (x - k * 64) ≡ x = omega arith in
            subst (λ (i : ℕ). word_bit rest (spot y i) ≡ false) ex (word_bit_lem rest y k (x - k * 64) (omega arith) ∙ off (x - k * 64) (omega arith))
      ]

      none : k * 64 + r < w → (p : ℕ) → p < y * w + (k * 64 + r) → seen w rest p ≡ false
      none lc p l = elim (dec_lt p (y * w)) [
        | yes u ↦ B.0 p u
        | no u ↦
            let ep : y * w + (p - y * w) ≡ p = omega arith in
            subst (λ (i : ℕ). seen w rest i ≡ false) ep (seen_at w h z rest y (p - y * w) (omega arith) ∙ in_row (p - y * w) (omega arith))
      ]

  -- a row whose four words are empty
  pub row_done : k ≡ 4 → (p : ℕ) → p < y * w + w → seen w rest p ≡ false
  row_done e p l = elim (dec_lt p (y * w)) [
    | yes u ↦ B.0 p u
    | no u ↦
        let ep : y * w + (p - y * w) ≡ p = omega arith in
        subst (λ (i : ℕ). seen w rest i ≡ false) ep (seen_at w h z rest y (p - y * w) (omega arith) ∙ B.1 (p - y * w) (omega (arith, z.w_max)))
  ]

  -- where fewer pixels remain, nothing remains there still
  pub before_fewer : k ≤ 4 → (rest' : List ℕ) → Ready w h rest' → ((p : ℕ) → p < h * w → seen w rest' p ≡ true → seen w rest p ≡ true) → Before w y k rest'
  before_fewer lk rest' R' less = (
    (λ p l. split (seen w rest' p) (λ t. clash (less p (omega (arith, row_fits y h w ly)) t) (B.0 p l)) (λ t. t)),
    (λ c l. split (word_bit rest' (spot y c))
        (λ t.
        let P = R'.framed (spot y c) t in
        let er : P.row ≡ y = omega (arith, P.here, P.column_in, z.w_max) in
        let ec : P.column ≡ c = omega (arith, P.here, P.column_in, z.w_max) in
        let lc : c < w = omega (arith, P.column_in) in
        clash (sym (seen_at w h z rest y c lc) ∙ less (y * w + c) (digits_lt ly lc) (seen_at w h z rest' y c lc ∙ t)) (B.1 c l))
        (λ t. t)),
  )

-- one post more ---------------------------------------------------------------------------------------------------------------

module _ (w h q : ℕ) where
  -- a plane kept as a list
  plane_each : (f : ℕ → Bool) (p : ℕ) → p < h * w → plane_of (each 0 (h * w) f) p ≡ f p
  plane_each f p l = get_d_each 0 (h * w) f p false l ∙ ap f (zero-add p)

  module _ (rest rest' : List ℕ) (a : ℕ) (la : a < h * w) (on : seen w rest a ≡ true) (none : (p : ℕ) → p < a → seen w rest p ≡ false)
      (S : (p : ℕ) → p < h * w → seen w rest' p ≡ plane_of (spared w h q (seen w rest) (eqb a)) p) where
    first_left : FirstLeft w h q (each 0 (h * w) (seen w rest)) a
    first_left = record {
      inside = la;
      remains = plane_each (seen w rest) a la ∙ on;
      none_before = λ p l. plane_each (seen w rest) p (omega arith) ∙ none p l;
    }

    spared_each : spared w h q (plane_of (each 0 (h * w) (seen w rest))) (eqb a) ≡ each 0 (h * w) (seen w rest')
    unfolding spared
    spared_each =
        let l : List Bool = spared w h q (seen w rest) (eqb a) in
        let el : length l ≡ h * w = length_each 0 (h * w) _ in
        spared_same w h q (plane_of (each 0 (h * w) (seen w rest))) (seen w rest) (eqb a) (eqb a) (plane_each (seen w rest)) (λ p lp. refl)
        ∙ ext_get_or false l (each 0 (h * w) (seen w rest')) (el ∙ sym (length_each 0 (h * w) (seen w rest')))
        (λ p lp. sym (S p (omega arith)) ∙ sym (plane_each (seen w rest') p (omega arith)))

    pub fewer : (p : ℕ) → p < h * w → seen w rest' p ≡ true → seen w rest p ≡ true
    fewer p lp e = spared_left w h q (seen w rest) (eqb a) p lp (sym (S p lp) ∙ e)

    -- one fewer remains
    pub counted_less : count (h * w) (seen w rest') < count (h * w) (seen w rest)
    counted_less = count_more (h * w) (seen w rest') (seen w rest) fewer a la (S a la ∙ spared_own w h q (seen w rest) (eqb a) a la (eq-eqb a a refl)) on

    pub scanning_more : (rest₀ out₀ out out' : List ℕ) → ((p : ℕ) → packed w out' p ≡ (packed w out p || eqb a p)) → Scanning w h q rest₀ out₀ rest out → Scanning w h q rest₀ out₀ rest' out'
    scanning_more rest₀ out₀ out out' P G k l = go (G k l).0 (G k l).1 (G k l).2
      where
        assoc : (x y z : Bool) → ((x || y) || z) ≡ (x || (y || z))
        assoc true y z = refl
        assoc false y z = refl

        next : (j p : ℕ) → to_come w h q (suc j) rest p ≡ (eqb a p || to_come w h q j rest' p)
        next j p =
            ap (λ (l : List ℕ). listed l p) (scan_first w h q j (each 0 (h * w) (seen w rest)) a first_left ∙ ap (λ (r : List Bool). a ∷ scanned w h q j r) spared_each) ∙ listed_more a (scanned w h q j (each 0 (h * w) (seen w rest'))) p

        go : (j : ℕ) → count (h * w) (seen w rest) ≤ j → ((p : ℕ) → p < h * w → (packed w out p || to_come w h q j rest p) ≡ (packed w out₀ p || to_come w h q k rest₀ p))
            → (j : ℕ) × (count (h * w) (seen w rest') ≤ j) × ((p : ℕ) → p < h * w → (packed w out' p || to_come w h q j rest' p) ≡ (packed w out₀ p || to_come w h q k rest₀ p))
        go zero lj e = absurd (omega (arith, counted_less))
        go (suc j) lj e = (
          j,
          omega (arith, counted_less),
          λ p lp.
              ap (λ (b : Bool). b || to_come w h q j rest' p) (P p)
              ∙ assoc (packed w out p) (eqb a p) (to_come w h q j rest' p)
              ∙ ap (λ (b : Bool). packed w out p || b) (sym (next j p))
              ∙ e p lp,
        )

  pub scanning_none : (rest out : List ℕ) → Scanning w h q rest out rest out
  scanning_none rest out k l = (k, l, λ p lp. refl)

  pub scanning_then : (r₀ o₀ r₁ o₁ r₂ o₂ : List ℕ) → Scanning w h q r₀ o₀ r₁ o₁ → Scanning w h q r₁ o₁ r₂ o₂ → Scanning w h q r₀ o₀ r₂ o₂
  scanning_then r₀ o₀ r₁ o₁ r₂ o₂ A B k l =
      let (j, lj, e) = A k l in
      let (i, li, f) = B j lj in
      (i, li, λ p lp. f p lp ∙ e p lp)

  -- nothing remains: all posts of the scan are set
  pub scanning_all : (rest out rest' out' : List ℕ) → Scanning w h q rest out rest' out' → ((p : ℕ) → p < h * w → seen w rest' p ≡ false)
      → (p : ℕ) → p < h * w → packed w out' p ≡ (packed w out p || listed (scanned w h q (h * w) (each 0 (h * w) (seen w rest))) p)
  scanning_all rest out rest' out' G none p lp =
      let (j, lj, e) = G (h * w) (count_le (h * w) (seen w rest)) in
      let ended : to_come w h q j rest' p ≡ false = ap (λ (l : List ℕ). listed l p) (scan_end w h q j (each 0 (h * w) (seen w rest')) (λ o lo. plane_each (seen w rest') o lo ∙ none o lo)) ∙ listed_none p in
      sym (or_false (packed w out' p)) ∙ ap (λ (b : Bool). packed w out' p || b) (sym ended) ∙ e p lp
