-- Laws of the single bits of a word, and of a number written at each of them.
use Rattle.std.specs.Prelude.{◌≡◌, refl, Bool, true, false, not, ◌&&◌, cond, List, [], ◌∷◌, ℕ, zero, suc, ◌+◌, ◌-◌, ◌*◌, ◌/◌, ◌%◌, ◌^◌, ◌<◌, ◌≤◌, eqb, length, get_or, set}
use Rattle.std.proofs.Common.{sym, ◌∙◌, pow-suc, one-mul, add-mul, mul_assoc, lt_of_lt_of_le, eq-eqb, ne_eqb, length-set, shl_exact, pow-add, pow_pos, pow_mono, get_or-set_same, get_or-set_other}
use Rattle.std.proofs.Math.Path.{ap}
use Rattle.std.proofs.Math.Nat.{pow-succ', mod_self}
use native.Mathlib.Omega.{arith}
use Rattle.std.proofs.Math.Decide.{dec_lt, ℕ_discrete}
use Rattle.std.proofs.Math.Arith.{digits_div, digits_mod}
use Rattle.std.specs.Int.Bits.{bit_and, bit_or, and_self}
use Rattle.std.proofs.lemmas.Nat.{and_le_r, and_block, and_mask, leading_top, shl-shr}
use Rattle.std.specs.Int.Count.{count_leading_zeros, count_trailing_zeros, under}
use Rattle.std.proofs.Math.Pow.{pow-lt}
use Rattle.laws.specs.Tests.{and_l, and_true}
use Rattle.words.specs.Words.{place, bit_of_word, word_bit, Digits, last_bit, Numbered}
use Rattle.words.specs.Digits.{place_shr, place_mod_below, place_small, place_zero}
use Rattle.words.specs.WordLaws.{flat_here}

one_place_low : (d e : ℕ) → place (2 ^ (suc d + e)) e ≡ false
unfolding place
one_place_low d e =
    let p : 2 ^ suc d % 2 ≡ 0 = rw (pow-suc 2 d) (omega arith) in
    rw (pow-add 2 (suc d) e, shl-shr (2 ^ suc d) e, p)

one_place_here : (x e : ℕ) → 2 ^ e ≤ x → x < 2 ^ suc e → place x e ≡ true
unfolding place
one_place_here x e lo hi =
    let p : 2 ^ suc e ≡ 2 ^ e * 2 = pow-suc 2 e in
    let z : x ≡ 1 * 2 ^ e + (x - 2 ^ e) = omega arith in
    let q : x / 2 ^ e ≡ 1 = ap (λ (n : ℕ). n / 2 ^ e) z ∙ digits_div 1 {m = 2 ^ e} {r = x - 2 ^ e} (omega arith) in
    rw q

-- the number with digit j alone
one_place : (j e : ℕ) → place (2 ^ j) e ≡ eqb e j
one_place j e = elim (ℕ_discrete e j) [
  | yes q ↦ rw (q, eq-eqb j j refl) (one_place_here (2 ^ j) j (omega arith) (pow-lt (omega arith)))
  | no q ↦ ne_eqb' e j q (elim (dec_lt e j) [
    | yes l ↦ let z : suc (j - suc e) + e ≡ j = omega arith in rw z at (one_place_low (j - suc e) e)
    | no l ↦ place_small (2 ^ j) e (pow-lt (omega arith))
  ])
]
  where
    ne_eqb' : {b : Bool} (e j : ℕ) → (e ≡ j → ⊥) → b ≡ false → b ≡ eqb e j
    ne_eqb' e j q z = z ∙ sym (ne_eqb e j q)

-- the word with bit k alone
pub one_bit : (k : ℕ) → k < 64 → (a : ℕ) → Digits 64 (1 * 2 ^ (63 - k) % 2 ^ 64) a (λ j. eqb j (a + k))
one_bit k lk a =
    let e : 1 * 2 ^ (63 - k) % 2 ^ 64 ≡ 2 ^ (63 - k) = shl_exact {a = 1} 1 (63 - k) 64 (omega arith) (omega arith) ∙ one-mul (2 ^ (63 - k)) in
    rw e record { small = pow-lt {i = 63 - k} {j = 64} (omega arith); bits = λ d i z. one_place (63 - k) d ∙ same d i z }
  where
    same : (d i : ℕ) → d + suc i ≡ 64 → eqb d (63 - k) ≡ eqb (a + i) (a + k)
    same d i z = elim (ℕ_discrete i k) [
      | yes q ↦ eq-eqb d (63 - k) (omega arith) ∙ sym (eq-eqb (a + i) (a + k) (omega arith))
      | no q ↦ ne_eqb d (63 - k) (λ y. q (omega arith)) ∙ sym (ne_eqb (a + i) (a + k) (λ y. q (omega arith)))
    ]

pub first_bit : (x : ℕ) → 0 < x → x < 2 ^ 64
    → (count_leading_zeros 64 x < 64) × (bit_of_word x (count_leading_zeros 64 x) ≡ true) × ((i : ℕ) → i < count_leading_zeros 64 x → bit_of_word x i ≡ false)
unfolding bit_of_word
first_bit x pos small =
    let t = leading_top 64 x pos small in
    let e : count_leading_zeros 64 x + suc t.0 ≡ 64 = t.1 in
    let j : 63 - count_leading_zeros 64 x ≡ t.0 = omega arith in
    (omega arith, rw j (one_place_here x t.0 t.2 t.3), (λ i l. place_small x (63 - i) (lt_of_lt_of_le t.3 (pow_mono (omega arith)))))

-- a word that is not 0 has a bit, and so a row has one whose words are not all 0
pub rows_some : (a b c d : ℕ) → a < 2 ^ 64 → b < 2 ^ 64 → c < 2 ^ 64 → d < 2 ^ 64 → (bit_or (bit_or (bit_or a b) c) d ≡ 0 → ⊥)
    → (k : ℕ) × (k < 256) × (word_bit (a ∷ b ∷ c ∷ d ∷ []) k ≡ true)
unfolding bit_of_word
rows_some a b c d la lb lc ld n = elim (dec_lt 0 a) [
  | yes p ↦ word 0 p la (omega arith)
  | no p ↦ elim (dec_lt 0 b) [
    | yes q ↦ word 1 q lb (omega arith)
    | no q ↦ elim (dec_lt 0 c) [
      | yes r ↦ word 2 r lc (omega arith)
      | no r ↦ elim (dec_lt 0 d) [
        | yes s ↦ word 3 s ld (omega arith)
        | no s ↦
            let (ea, eb, ec, ed) : (a ≡ 0) × (b ≡ 0) × (c ≡ 0) × (d ≡ 0) = (omega arith, omega arith, omega arith, omega arith) in
            absurd (n (rw (ea, eb, ec, ed) refl))
      ]
    ]
  ]
]
  where
    l : List ℕ
    l = a ∷ b ∷ c ∷ d ∷ []

    word : (q : ℕ) → 0 < get_or l q 0 → get_or l q 0 < 2 ^ 64 → q < 4 → (k : ℕ) × (k < 256) × (word_bit l k ≡ true)
    word q p s lq =
        let (x, y, z) = first_bit (get_or l q 0) p s in
        let t : ℕ = count_leading_zeros 64 (get_or l q 0) in
        (q * 64 + t, omega arith, flat_here 64 l q (63 - t) t (omega arith) ∙ y)

mirror : (i k : ℕ) → i < 64 → k < 64 → eqb (63 - i) (63 - k) ≡ eqb i k
mirror i k li lk = elim (ℕ_discrete i k) [
  | yes q ↦ eq-eqb (63 - i) (63 - k) (omega arith) ∙ sym (eq-eqb i k q)
  | no q ↦ ne_eqb (63 - i) (63 - k) (λ z. q (omega arith)) ∙ sym (ne_eqb i k q)
]

-- the last bit: x is some digits, a 1 and then t zeros
trailing_split : (k n : ℕ) → 0 < n → n < 2 ^ k → (a : ℕ) × (n ≡ a * 2 ^ suc (count_trailing_zeros k n) + 2 ^ count_trailing_zeros k n) × (count_trailing_zeros k n < k)
unfolding count_trailing_zeros
trailing_split zero n p l = absurd (omega arith)
trailing_split (suc k) n p l =
    let h : 2 ^ suc k ≡ 2 ^ k * 2 = pow-suc 2 k in
    go (n % 2) refl (omega arith) (λ z. trailing_split k (n / 2) (omega arith) (omega arith))
  where
    go : (d : ℕ) → n % 2 ≡ d → d < 2 → (n % 2 ≡ 0 → (a : ℕ) × (n / 2 ≡ a * 2 ^ suc (count_trailing_zeros k (n / 2)) + 2 ^ count_trailing_zeros k (n / 2)) × (count_trailing_zeros k (n / 2) < k))
        → (a : ℕ) × (n ≡ a * 2 ^ suc (under d (count_trailing_zeros k (n / 2))) + 2 ^ under d (count_trailing_zeros k (n / 2))) × (under d (count_trailing_zeros k (n / 2)) < suc k)
    go zero e l rest =
        let r = rest e in
        let t : ℕ = count_trailing_zeros k (n / 2) in
        let q : n / 2 ≡ r.0 * 2 ^ suc t + 2 ^ t = r.1 in
        let z : r.0 * 2 ^ suc (suc t) ≡ r.0 * 2 ^ suc t * 2 = ap (λ (x : ℕ). r.0 * x) (pow-suc 2 (suc t)) ∙ sym (mul_assoc r.0 (2 ^ suc t) 2) in
        let y : 2 ^ suc t ≡ 2 ^ t * 2 = pow-suc 2 t in
        (r.0, omega arith, omega (arith, r.2))
    go (suc zero) e l rest = (n / 2, omega arith, omega arith)
    go (suc (suc d)) e l rest = absurd (omega arith)

module _ (a t x : ℕ) (is : x ≡ a * 2 ^ suc t + 2 ^ t) where
  last_odd : x ≡ (a * 2 + 1) * 2 ^ t + 0
  last_odd =
      let z : a * 2 ^ suc t ≡ a * 2 * 2 ^ t = ap (λ (y : ℕ). a * y) (pow-succ' 2 t) ∙ sym (mul_assoc a 2 (2 ^ t)) in
      let y : (a * 2 + 1) * 2 ^ t ≡ a * 2 * 2 ^ t + 2 ^ t = rw (add-mul, one-mul) in
      omega arith

  last_there : place x t ≡ true
  unfolding place
  last_there =
      let q : x / 2 ^ t ≡ a * 2 + 1 = ap (λ (n : ℕ). n / 2 ^ t) last_odd ∙ digits_div (a * 2 + 1) (pow_pos t) in
      let o : (a * 2 + 1) % 2 ≡ 1 = omega arith in
      rw (q, o)

  last_below : (e : ℕ) → e < t → place x e ≡ false
  last_below e l =
      sym (place_mod_below x t e l) ∙ ap (λ (n : ℕ). place n e) (ap (λ (n : ℕ). n % 2 ^ t) last_odd ∙ digits_mod (a * 2 + 1) (pow_pos t)) ∙ place_zero e

  half_pow : 2 ^ t < 2 ^ suc t
  half_pow = pow-lt {i = t} {j = suc t} (omega arith)

  dropped : bit_and x (x - 1) ≡ a * 2 ^ suc t + 0
  dropped =
      let pt : 0 < 2 ^ t = pow_pos t in
      let z : x - 1 ≡ a * 2 ^ suc t + (2 ^ t - 1) = omega arith in
      let low : bit_and (2 ^ t) (2 ^ t - 1) ≡ 0 = and_mask (2 ^ t) t ∙ mod_self (2 ^ t) in
      rw (z, is) (and_block (suc t) a a (2 ^ t) (2 ^ t - 1) half_pow (omega (arith, half_pow)) ∙ rw (and_self a, low))

  dropped_place : (e : ℕ) → place (bit_and x (x - 1)) e ≡ (place x e && not (eqb e t))
  dropped_place e = elim (ℕ_discrete e t) [
    | yes q ↦ rw (q, eq-eqb t t refl, last_there) (below t half')
    | no q ↦ rw (ne_eqb e t q) (elim (dec_lt e t) [
      | yes l ↦ below e (omega arith) ∙ rw (last_below e l)
      | no l ↦
          let s : e ≡ suc t + (e - suc t) = omega arith in
          rw (s, dropped) (sym (place_shr (a * 2 ^ suc t + 0) (suc t) (e - suc t)) ∙ rw (digits_div a (pow_pos (suc t))) (up (e - suc t)))
    ])
  ]
    where
      half' : t < suc t
      half' = omega arith

      below : (e : ℕ) → e < suc t → place (bit_and x (x - 1)) e ≡ false
      below e l = rw dropped (sym (place_mod_below (a * 2 ^ suc t + 0) (suc t) e l) ∙ rw (digits_mod a (pow_pos (suc t))) (place_zero e))

      up : (f : ℕ) → place a f ≡ (place x (suc t + f) && true)
      up f =
          let q : x / 2 ^ suc t ≡ a = ap (λ (n : ℕ). n / 2 ^ suc t) is ∙ digits_div a half_pow in
          sym (and_true (place x (suc t + f)) ∙ sym (place_shr x (suc t) f) ∙ ap (λ (n : ℕ). place n f) q)

pub trailing_lt : (k x : ℕ) → 0 < x → x < 2 ^ k → count_trailing_zeros k x < k
trailing_lt k x p l = (trailing_split k x p l).2

pub last_bit_lem : (x : ℕ) → 0 < x → x < 2 ^ 64 → (63 - count_trailing_zeros 64 x ≡ last_bit x) × (63 - count_trailing_zeros 64 x < 64) × (bit_of_word x (63 - count_trailing_zeros 64 x) ≡ true)
unfolding bit_of_word last_bit
last_bit_lem x p l =
    let s = trailing_split 64 x p l in
    let lt : count_trailing_zeros 64 x < 64 = s.2 in
    let e : 63 - (63 - count_trailing_zeros 64 x) ≡ count_trailing_zeros 64 x = omega arith in
    (refl, omega arith, rw e (last_there s.0 (count_trailing_zeros 64 x) x s.1))

pub without_last_lem : (x : ℕ) → 0 < x → x < 2 ^ 64 → ((i : ℕ) → i < 64 → bit_of_word (bit_and x (x - 1)) i ≡ (bit_of_word x i && not (eqb i (last_bit x)))) × (bit_and x (x - 1) < x)
unfolding bit_of_word last_bit
without_last_lem x p l =
    let s = trailing_split 64 x p l in
    let t : ℕ = count_trailing_zeros 64 x in
    let lt : t < 64 = s.2 in (
      (λ i li.
          let m : eqb (63 - i) t ≡ eqb i (63 - t) = let z : 63 - (63 - t) ≡ t = omega arith in rw z at (mirror i (63 - t) li (omega arith)) in
          dropped_place s.0 t x s.1 (63 - i) ∙ rw m),
      omega (arith, and_le_r x (x - 1)),
    )

-- what is left of a word while its bits are numbered: numbering it makes the whole
pub record Numbering (x m v left : ℕ) (was now : List ℕ) : Type 0 where
  pub long : length now ≡ length was
  pub here : (k : ℕ) → k < 64 → cond (bit_of_word left k) v (get_or now (x + k) 0) ≡ cond (bit_of_word m k) v (get_or was (x + k) 0)
  pub among : (k : ℕ) → k < 64 → bit_of_word left k ≡ true → x + k < length was
  pub before : (p : ℕ) → p < x → get_or now p 0 ≡ get_or was p 0
  pub behind : (p : ℕ) → x + 64 ≤ p → get_or now p 0 ≡ get_or was p 0

pub numbering_none : (x m v : ℕ) (was : List ℕ) → ((k : ℕ) → k < 64 → bit_of_word m k ≡ true → x + k < length was) → Numbering x m v m was was
numbering_none x m v was h = record { long = refl; here = λ k l. refl; among = h; before = λ p l. refl; behind = λ p l. refl }

pub numbering_more : (x m v left k r : ℕ) (was now : List ℕ) → k < 64 → bit_of_word left k ≡ true → ((i : ℕ) → i < 64 → bit_of_word r i ≡ (bit_of_word left i && not (eqb i k)))
    → Numbering x m v left was now → Numbering x m v r was (set now (x + k) v)
numbering_more x m v left k r was now room there R M =
    let lk : x + k < length now = omega (arith, M.long, M.among k room there) in record {
      long = length-set now (x + k) v ∙ M.long;
      here = λ i l. elim (ℕ_discrete i k) [
        | yes e ↦ rw (e, get_or-set_same now (x + k) v 0 lk) (both_ways (bit_of_word r k) v ∙ ap (λ (b : Bool). cond b v (get_or now (x + k) 0)) (sym there) ∙ M.here k room)
        | no e ↦ rw (R i l, ne_eqb i k e, and_true (bit_of_word left i), get_or-set_other now (x + k) (x + i) v 0 (λ z. e (omega arith))) (M.here i l)
      ];
      among = λ i l on. M.among i l (and_l (bit_of_word left i) (not (eqb i k)) (sym (R i l) ∙ on));
      before = λ p l. get_or-set_other now (x + k) p v 0 (λ z. omega arith) ∙ M.before p l;
      behind = λ p l. get_or-set_other now (x + k) p v 0 (λ z. omega (arith, room)) ∙ M.behind p l;
    }
  where
    both_ways : (b : Bool) (v : ℕ) → cond b v v ≡ v
    both_ways true v = refl
    both_ways false v = refl

pub numbering_all : (x m v left : ℕ) (was now : List ℕ) → left ≡ 0 → Numbering x m v left was now → Numbered x m v was now
unfolding bit_of_word
numbering_all x m v left was now e M = record {
  here = λ k l. ap (λ (b : Bool). cond b v (get_or now (x + k) 0)) (sym (ap (λ (n : ℕ). place n (63 - k)) e ∙ place_zero (63 - k))) ∙ M.here k l;
  before = M.before;
  behind = M.behind;
}
