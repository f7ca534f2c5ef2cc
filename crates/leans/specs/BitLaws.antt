-- Laws of the bits of a word.
use Rattle.std.specs.Prelude.{◌≡◌, refl, Bool, true, false, not, ◌&&◌, ◌||◌, List, ℕ, zero, suc, ◌+◌, ◌-◌, ◌*◌, ◌/◌, ◌%◌, ◌^◌, ◌<◌, ◌≤◌, eqb, get_or}
use Rattle.std.proofs.Common.{sym, ap, ◌∙◌, mod-lt, arith, lt-ltb, eqb-true, shl_exact, pow_pos}
use Rattle.std.proofs.Math.Decide.{dec_lt, ℕ_discrete}
use Rattle.std.proofs.lemmas.Bool.{eqb-false}
use Rattle.std.specs.Int.{w64, to_be_bytes}
use Rattle.std.specs.Int.Bits.{bit_and, bit_or}
use Rattle.std.proofs.lemmas.Nat.{shl-shr}
use Rattle.std.proofs.Math.Pow.{pow-lt, low}
use Rattle.rules.specs.Images.{bit_at}
use Rattle.laws.specs.Tests.{split, clash, and_in}
use Rattle.words.specs.Words.{Digits, place, bit_of_word, flat, word_bit, row_at}
use Rattle.words.specs.OneLaws.{byte_bit}
use Rattle.words.specs.Digits.{place_shr, place_mod_below, place_small, place_zero, place_and, place_or, place_not}

-- the bit of a list of words
pub word_bit_lem : (l : List ℕ) (i k : ℕ) → k < 64 → word_bit l (i * 64 + k) ≡ bit_of_word (get_or l i 0) k
unfolding flat bit_of_word
word_bit_lem l i k h = let a : (i * 64 + k) / 64 ≡ i = omega arith in let b : (i * 64 + k) % 64 ≡ k = omega arith in rw (a, b)

pub bit_at_lem : (l : List ℕ) (c : ℕ) → word_bit l c ≡ bit_of_word (get_or l (c / 64) 0) (c % 64)
unfolding flat bit_of_word
bit_at_lem l c = refl

-- the bytes of a word, the highest first
byte_at_lem : (x b : ℕ) → b < 8 → get_or (to_be_bytes w64 x) b 0 ≡ x / 2 ^ (56 - 8 * b) % 2 ^ 8
byte_at_lem x zero l = refl
byte_at_lem x (suc zero) l = refl
byte_at_lem x (suc (suc zero)) l = refl
byte_at_lem x (suc (suc (suc zero))) l = refl
byte_at_lem x (suc (suc (suc (suc zero)))) l = refl
byte_at_lem x (suc (suc (suc (suc (suc zero))))) l = refl
byte_at_lem x (suc (suc (suc (suc (suc (suc zero)))))) l = refl
byte_at_lem x (suc (suc (suc (suc (suc (suc (suc zero))))))) l = omega arith
byte_at_lem x (suc (suc (suc (suc (suc (suc (suc (suc b)))))))) l = absurd (omega arith)

pub byte_of_word : (x b j : ℕ) → b < 8 → j < 8 → bit_at (get_or (to_be_bytes w64 x) b 0) j ≡ bit_of_word x (8 * b + j)
byte_of_word x b j lb lj = ap (λ (v : ℕ). bit_at v j) (byte_at_lem x b lb) ∙ byte_bit x b j lb lj

-- the row at the start of a list
pub row_start : (l : List ℕ) (c : ℕ) → c < 256 → row_at l 0 c ≡ word_bit l c
unfolding row_at
row_start l c h = let z : 0 * 64 + c ≡ c = omega arith in rw (lt-ltb c 256 h, z)

pub bit_or_lem : (x y k : ℕ) → bit_of_word (bit_or x y) k ≡ (bit_of_word x k || bit_of_word y k)
unfolding bit_of_word
bit_or_lem x y k = place_or x y (63 - k)

pub bit_zero : (k : ℕ) → bit_of_word 0 k ≡ false
unfolding bit_of_word
bit_zero k = place_zero (63 - k)

-- one bit alone
pub one_alone : (x k j : ℕ) → Digits 64 x 0 (λ i. eqb i (0 + k)) → j < 64 → bit_of_word x j ≡ eqb j k
unfolding bit_of_word
one_alone x k j D l = let a : 0 + j ≡ j = omega arith in let b : 0 + k ≡ k = omega arith in rw (a, b) at (D.bits (63 - j) j (omega arith))

-- the bits of byte b
mask_place : (s i : ℕ) → place (255 * 2 ^ s) (s + i) ≡ place 255 i
mask_place s i = sym (place_shr (255 * 2 ^ s) s i) ∙ ap (λ (v : ℕ). place v i) (shl-shr 255 s)

ones_behind : (i : ℕ) → 8 ≤ i → place 255 i ≡ false
ones_behind i l = elim (ℕ_discrete i 8) [
  | yes e ↦ rw e (place_small 255 8 (omega arith))
  | no e ↦ place_small 255 i (let p : 2 ^ 8 < 2 ^ i = pow-lt {i = 8} {j = i} (omega arith) in omega arith)
]

mask_in : (s k : ℕ) → s + k ≤ 63 → 56 ≤ s + k → place (255 * 2 ^ s) (63 - k) ≡ true
mask_in s k hi lo = let z : 63 - k ≡ s + (63 - k - s) = omega arith in rw z (mask_place s (63 - k - s) ∙ place_not 8 0 (63 - k - s) (omega arith) (omega arith) ∙ ap not (place_zero (63 - k - s)))

mask_before : (s k : ℕ) → s + k < 56 → place (255 * 2 ^ s) (63 - k) ≡ false
mask_before s k l = let z : 63 - k ≡ s + (63 - k - s) = omega arith in rw z (mask_place s (63 - k - s) ∙ ones_behind (63 - k - s) (omega arith))

mask_behind : (s k : ℕ) → k < 64 → 63 < s + k → place (255 * 2 ^ s) (63 - k) ≡ false
mask_behind s k lk l = sym (place_mod_below (255 * 2 ^ s) s (63 - k) (omega arith))
    ∙ ap (λ (v : ℕ). place v (63 - k)) (let z : 255 * 2 ^ s ≡ 255 * 2 ^ s + 0 = omega arith in rw z (low 255 s (pow_pos s)))
    ∙ place_zero (63 - k)

mask_bit : (b k : ℕ) → b < 8 → k < 64 → bit_of_word (255 * 2 ^ (56 - 8 * b) % 2 ^ 64) k ≡ eqb (k / 8) b
unfolding bit_of_word
mask_bit b k lb lk =
    ap (λ (v : ℕ). place v (63 - k)) (shl_exact {a = 255} 8 (56 - 8 * b) 64 (omega arith) (omega arith))
    ∙ split (eqb (k / 8) b)
    (λ t. let e : k / 8 ≡ b = eqb-true (k / 8) b t in mask_in (56 - 8 * b) k (omega arith) (omega arith) ∙ sym t)
    (λ t. let n : k / 8 ≡ b → ⊥ = eqb-false (k / 8) b t in elim (dec_lt k (8 * b)) [
      | yes l ↦ mask_before (56 - 8 * b) k (omega arith) ∙ sym t
      | no l ↦ mask_behind (56 - 8 * b) k lk (omega (arith, n)) ∙ sym t
    ])

but_not_bit : (x y k : ℕ) → y < 2 ^ 64 → k < 64 → bit_of_word (bit_and x (2 ^ 64 - 1 - y)) k ≡ (bit_of_word x k && not (bit_of_word y k))
unfolding bit_of_word
but_not_bit x y k ly lk = place_and x (2 ^ 64 - 1 - y) (63 - k) ∙ ap (λ (b : Bool). place x (63 - k) && b) (place_not 64 y (63 - k) ly (omega arith))

pub patched_bit : (x y b k : ℕ) → b < 8 → k < 64 → bit_of_word (bit_or (bit_and x (2 ^ 64 - 1 - 255 * 2 ^ (56 - 8 * b) % 2 ^ 64)) y) k ≡ ((bit_of_word x k && not (eqb (k / 8) b)) || bit_of_word y k)
patched_bit x y b k lb lk =
    bit_or_lem (bit_and x (2 ^ 64 - 1 - 255 * 2 ^ (56 - 8 * b) % 2 ^ 64)) y k
    ∙ ap (λ (a : Bool). a || bit_of_word y k) (but_not_bit x (255 * 2 ^ (56 - 8 * b) % 2 ^ 64) k (mod-lt (255 * 2 ^ (56 - 8 * b)) (omega arith)) lk
    ∙ ap (λ (m : Bool). bit_of_word x k && not m) (mask_bit b k lb lk))

-- what is in x is in y
pub covered_bit : (x y k : ℕ) → y < 2 ^ 64 → k < 64 → bit_and x (2 ^ 64 - 1 - y) ≡ 0 → bit_of_word x k ≡ true → bit_of_word y k ≡ true
covered_bit x y k ly lk e u = split (bit_of_word y k) (λ t. t) (λ t.
    clash (but_not_bit x y k ly lk ∙ and_in (bit_of_word x k) (not (bit_of_word y k)) u (ap not t)) (ap (λ (v : ℕ). bit_of_word v k) e ∙ bit_zero k))
