-- Laws of bytes and their bits: and, or, not.
use Rattle.std.specs.Prelude.{◌≡◌, refl, Bool, false, not, ◌&&◌, ◌||◌, List, ℕ, zero, suc, ◌+◌, ◌-◌, ◌/◌, ◌%◌, ◌^◌, ◌<◌, length, get_or, set}
use Rattle.std.proofs.Common.{sym, subst, ◌∙◌, arith, below_more, get_or-set_same, get_or-set_other}
use Rattle.std.proofs.Math.Path.{ap}
use Rattle.std.proofs.Math.Nat.{zero-div}
use Rattle.std.specs.Int.Bits.{bit_and, bit_or, or_add_and}
use Rattle.std.proofs.lemmas.Nat.{and_shr, and_mod, or_shr, or_mod, and_le_l, and_le_r}
use Rattle.std.proofs.Math.Dec.{eqb}
use Rattle.rules.specs.Images.{bit_at}
use Rattle.image.specs.Loops.{but_not}

bit_cases : (P : ℕ → Type 0) (x : ℕ) → x < 2 → P 0 → P 1 → P x
bit_cases P zero l a b = a
bit_cases P (suc zero) l a b = b
bit_cases P (suc (suc x)) l a b = absurd (omega arith)

-- an operation that goes digit by digit is its own truth table at each bit
module _ (op : ℕ → ℕ → ℕ) (t : Bool → Bool → Bool)
    (shr : (a b k : ℕ) → op a b / 2 ^ k ≡ op (a / 2 ^ k) (b / 2 ^ k))
    (rest : (a b k : ℕ) → op a b % 2 ^ k ≡ op (a % 2 ^ k) (b % 2 ^ k))
    (table : (x y : ℕ) → x < 2 → y < 2 → eqb (op x y) 1 ≡ t (eqb x 1) (eqb y 1)) where
  bit_op : (x y k : ℕ) → bit_at (op x y) k ≡ t (bit_at x k) (bit_at y k)
  unfolding bit_at
  bit_op x y k =
      ap (λ (n : ℕ). eqb n 1) (ap (λ (n : ℕ). n % 2) (shr x y (7 - k)) ∙ rest (x / 2 ^ (7 - k)) (y / 2 ^ (7 - k)) 1)
      ∙ table (x / 2 ^ (7 - k) % 2) (y / 2 ^ (7 - k) % 2) (omega arith) (omega arith)

pub bit_and_lem : (x y k : ℕ) → bit_at (bit_and x y) k ≡ bit_at x k && bit_at y k
bit_and_lem =
    bit_op bit_and ◌&&◌ and_shr and_mod
    (λ x y l m.
    bit_cases (λ a. eqb (bit_and a y) 1 ≡ eqb a 1 && eqb y 1) x l
    (bit_cases (λ b. eqb (bit_and 0 b) 1 ≡ eqb 0 1 && eqb b 1) y m refl refl)
    (bit_cases (λ b. eqb (bit_and 1 b) 1 ≡ eqb 1 1 && eqb b 1) y m refl refl))

pub bit_or_lem : (x y k : ℕ) → bit_at (bit_or x y) k ≡ bit_at x k || bit_at y k
bit_or_lem =
    bit_op bit_or ◌||◌ or_shr or_mod
    (λ x y l m.
    bit_cases (λ a. eqb (bit_or a y) 1 ≡ eqb a 1 || eqb y 1) x l
    (bit_cases (λ b. eqb (bit_or 0 b) 1 ≡ eqb 0 1 || eqb b 1) y m refl refl)
    (bit_cases (λ b. eqb (bit_or 1 b) 1 ≡ eqb 1 1 || eqb b 1) y m refl refl))

-- a column k of eight, taken one by one
pub eight : (P : ℕ → Type 0) → P 0 → P 1 → P 2 → P 3 → P 4 → P 5 → P 6 → P 7 → (k : ℕ) → k < 8 → P k
eight P a b c d e f g h zero l = a
eight P a b c d e f g h (suc zero) l = b
eight P a b c d e f g h (suc (suc zero)) l = c
eight P a b c d e f g h (suc (suc (suc zero))) l = d
eight P a b c d e f g h (suc (suc (suc (suc zero)))) l = e
eight P a b c d e f g h (suc (suc (suc (suc (suc zero))))) l = f
eight P a b c d e f g h (suc (suc (suc (suc (suc (suc zero)))))) l = g
eight P a b c d e f g h (suc (suc (suc (suc (suc (suc (suc zero))))))) l = h
eight P a b c d e f g h (suc (suc (suc (suc (suc (suc (suc (suc k)))))))) l = absurd (omega arith)

not_bit : (x y : ℕ) → y < 2 → x + y ≡ 1 → eqb x 1 ≡ not (eqb y 1)
not_bit x zero l e = let z : x ≡ 1 = omega arith in rw z
not_bit x (suc zero) l e = let z : x ≡ 0 = omega arith in rw z
not_bit x (suc (suc y)) l e = absurd (omega arith)

pub bit_not : (b k : ℕ) → b < 256 → k < 8 → bit_at (255 - b) k ≡ not (bit_at b k)
unfolding bit_at
bit_not b k h l =
    eight (λ k. bit_at (255 - b) k ≡ not (bit_at b k))
    (not_bit ((255 - b) / 128 % 2) (b / 128 % 2) (omega arith) (omega arith))
    (not_bit ((255 - b) / 64 % 2) (b / 64 % 2) (omega arith) (omega arith))
    (not_bit ((255 - b) / 32 % 2) (b / 32 % 2) (omega arith) (omega arith))
    (not_bit ((255 - b) / 16 % 2) (b / 16 % 2) (omega arith) (omega arith))
    (not_bit ((255 - b) / 8 % 2) (b / 8 % 2) (omega arith) (omega arith))
    (not_bit ((255 - b) / 4 % 2) (b / 4 % 2) (omega arith) (omega arith))
    (not_bit ((255 - b) / 2 % 2) (b / 2 % 2) (omega arith) (omega arith))
    (not_bit ((255 - b) / 1 % 2) (b / 1 % 2) (omega arith) (omega arith))
    k l

pub zero_bit : (k : ℕ) → bit_at 0 k ≡ false
unfolding bit_at
zero_bit k = ap (λ (n : ℕ). eqb (n % 2) 1) (zero-div (2 ^ (7 - k)))

-- what a store at i leaves
pub stored_more : (P : ℕ → ℕ → Type 0) (out : List ℕ) (j v : ℕ) → j < length out
    → ((k : ℕ) → k < j → P k (get_or out k 0)) → P j v → (k : ℕ) → k < j + 1 → P k (get_or (set out j v) k 0)
stored_more P out j v l all here =
    below_more (λ k. P k (get_or (set out j v) k 0)) j
    (λ k h. subst (P k) (sym (get_or-set_other out j k v 0 (omega arith))) (all k h))
    (subst (P j) (sym (get_or-set_same out j v 0 l)) here)

-- from bytes to bits
abbrev pub Byte2 : (Bool → Bool → Bool) → ℕ → ℕ → ℕ → Type 0
Byte2 t o x y = (k : ℕ) → k < 8 → bit_at o k ≡ t (bit_at x k) (bit_at y k)

pub byte_but_not : (x y : ℕ) → y < 256 → Byte2 but_not (bit_and x (255 - y)) x y
byte_but_not x y h k l = bit_and_lem x (255 - y) k ∙ ap (λ (b : Bool). bit_at x k && b) (bit_not y k h l)

-- an OR that is 0
pub or_none : (a b : ℕ) → bit_or a b ≡ 0 → (a ≡ 0) × (b ≡ 0)
or_none a b e = omega (arith, or_add_and a b, and_le_l a b, and_le_r a b)
