-- Laws of lists of bytes and of words: their bits, what each store of a loop adds, what the whole loop leaves; words read from bytes.
use Rattle.std.specs.Prelude.{◌≡◌, refl, Bool, true, false, not, List, ℕ, suc, ◌+◌, ◌-◌, ◌*◌, ◌/◌, ◌%◌, ◌^◌, ◌<◌, ◌≤◌, ltb, length, get_or, set}
use Rattle.std.proofs.Common.{sym, ap, ap₂, subst, ◌∙◌, div-add-mod', mod-lt, le-div_iff_mul-le, div-lt_iff_lt-mul, add-zero, zero-mul, mul-one, add-mul, mul_assoc, arith, lt-ltb, le-ltb, length-set, shl_exact, shl_lt, pow-add, get_or-set_same, get_or-set_other}
use Rattle.std.proofs.Math.Decide.{dec_lt, ℕ_discrete}
use Rattle.std.proofs.Math.Arith.{digits_div, digits_mod}
use Rattle.std.specs.Int.Bits.{bit_or}
use Rattle.std.proofs.lemmas.Nat.{or_shifted}
use Rattle.rules.specs.Images.{bit_at}
use Rattle.image.specs.Scratch.{bit_of}
use Rattle.words.specs.Words.{place, bit_of_word, flat, Digits, row_part, Within}
use Rattle.words.specs.Digits.{place_shr, place_mod_below, digits_none, digits_zero, digits_join, digits_left, digits_not}

pub flat_here : (w : ℕ) (l : List ℕ) (i e k : ℕ) → e + suc k ≡ w → flat w l (i * w + k) ≡ place (get_or l i 0) e
unfolding flat
flat_here w l i e k z =
    let lk : k < w = omega arith in
    let ee : w - 1 - k ≡ e = omega arith in
    rw (digits_div i lk, digits_mod i lk, ee)

-- for bytes this is the packed form of the rules
pub flat_bytes : (l : List ℕ) (j : ℕ) → flat 8 l j ≡ bit_of l j
unfolding flat place bit_of bit_at
flat_bytes l j = refl

-- the element itself
pub digits_here : (w : ℕ) (l : List ℕ) (i : ℕ) → get_or l i 0 < 2 ^ w → Digits w (get_or l i 0) (i * w) (flat w l)
digits_here w l i s = record { small = s; bits = λ e k z. sym (flat_here w l i e k z) }

-- the elements from a up to i are done
pub record Filling (w a i : ℕ) (g : ℕ → Bool) (out was : List ℕ) : Type 0 where
  pub long : length out ≡ length was
  pub done : (k : ℕ) → a ≤ k → k < i → Digits w (get_or out k 0) (k * w) g
  pub low : (k : ℕ) → k < a → get_or out k 0 ≡ get_or was k 0
  pub left : (k : ℕ) → i ≤ k → get_or out k 0 ≡ get_or was k 0

pub filling_none : (w a : ℕ) (g : ℕ → Bool) (was : List ℕ) → Filling w a a g was was
filling_none w a g was = record { long = refl; done = λ k x y. absurd (omega arith); low = λ k x. refl; left = λ k x. refl }

pub filling_more : (w a i v : ℕ) (g : ℕ → Bool) (out was : List ℕ) → a ≤ i → i < length out → Filling w a i g out was
    → Digits w v (i * w) g → Filling w a (i + 1) g (set out i v) was
filling_more w a i v g out was ai il F here = record {
  long = length-set out i v ∙ F.long;
  done = λ k x y. elim (ℕ_discrete k i) [
    | yes e ↦ rw (e, get_or-set_same out i v 0 il) here
    | no e ↦ rw (get_or-set_other out i k v 0 e) (F.done k x (omega arith))
  ];
  low = λ k x. get_or-set_other out i k v 0 (λ e. omega arith) ∙ F.low k x;
  left = λ k x. get_or-set_other out i k v 0 (λ e. omega arith) ∙ F.left k (omega arith);
}

-- the same where the loop counts from 0
pub filling_from : (w a : ℕ) (g : ℕ → Bool) (was : List ℕ) → Filling w a (a + 0) g was was
filling_from w a g was = let e : a + 0 ≡ a = omega arith in rw e (filling_none w a g was)

pub filling_next : (w a k v : ℕ) (g : ℕ → Bool) (out was : List ℕ) → a + k < length out → Filling w a (a + k) g out was
    → Digits w v ((a + k) * w) g → Filling w a (a + (k + 1)) g (set out (a + k) v) was
filling_next w a k v g out was l F here =
    let e : a + (k + 1) ≡ a + k + 1 = omega arith in
    rw e (filling_more w a (a + k) v g out was (omega arith) l F here)

pub filling_all : (w a b : ℕ) (g : ℕ → Bool) (out was : List ℕ) → 0 < w → Filling w a b g out was → Within (a * w) (b * w) g (flat w was) (flat w out)
unfolding flat
filling_all w a b g out was pw F = record {
  inner = λ j x y.
      let lk : j % w < w = mod-lt j pw in
      (F.done (j / w) ((le-div_iff_mul-le pw).1 x) ((div-lt_iff_lt-mul pw).1 y)).bits (w - 1 - j % w) (j % w) (omega arith) ∙ ap g (div-add-mod' j w);
  before = λ j x. ap (λ (n : ℕ). place n (w - 1 - j % w)) (F.low (j / w) ((div-lt_iff_lt-mul pw).1 x));
  behind = λ j x. ap (λ (n : ℕ). place n (w - 1 - j % w)) (F.left (j / w) ((le-div_iff_mul-le pw).1 x));
}

-- the same digits by another name
pub digits_same : (n x a b : ℕ) (f g : ℕ → Bool) → ((k : ℕ) → k < n → f (a + k) ≡ g (b + k)) → Digits n x a f → Digits n x b g
digits_same n x a b f g all X = record { small = X.small; bits = λ e k z. X.bits e k z ∙ all k (omega arith) }

pub byte_here : (s : List ℕ) (at i b : ℕ) → (b ≡ get_or s (at + i) 0) × (b < 256) → Digits 8 b (at * 8 + i * 8) (bit_of s)
byte_here s at i b (e, h) =
    let z : at * 8 + i * 8 ≡ (at + i) * 8 = omega arith in
    rw (z, e) (digits_same 8 (get_or s (at + i) 0) ((at + i) * 8) ((at + i) * 8) (flat 8 s) (bit_of s) (λ k l. flat_bytes s ((at + i) * 8 + k)) (digits_here 8 s (at + i) (rw (← e) h)))

-- the first n digits of a word, with m zeros behind them
pub record Leading (n m x a : ℕ) (f : ℕ → Bool) : Type 0 where
  pub top : ℕ
  pub is : x ≡ top * 2 ^ m
  pub digits : Digits n top a f

pub leading_none : (a : ℕ) (f : ℕ → Bool) → Leading 0 64 0 a f
leading_none a f = record { top = 0; is = refl; digits = digits_none a f }

leading_byte : (n m x b a : ℕ) (f : ℕ → Bool) → 8 + m ≤ 64 → Leading n (8 + m) x a f → Digits 8 b (a + n) f → Leading (n + 8) m (bit_or x (b * 2 ^ m % 2 ^ 64)) a f
leading_byte n m x b a f l X B =
    let y : ℕ = X.top in
    let e : y * 2 ^ (8 + m) ≡ y * 2 ^ 8 * 2 ^ m = ap (λ (z : ℕ). y * z) (pow-add 2 8 m) ∙ sym (mul_assoc y (2 ^ 8) (2 ^ m)) in
    record {
      top = y * 2 ^ 8 + b;
      is =
          ap₂ bit_or X.is (shl_exact {a = b} 8 m 64 B.small l)
          ∙ or_shifted y (8 + m) (b * 2 ^ m) (shl_lt {a = b} 8 m B.small)
          ∙ ap (λ (z : ℕ). z + b * 2 ^ m) e
          ∙ sym (add-mul (y * 2 ^ 8) b (2 ^ m));
      digits = digits_join n 8 y b a f X.digits B;
    }

pub leading_more : (s : List ℕ) (at k v b : ℕ) → k < 8 → (b ≡ get_or s (at + k) 0) × (b < 256) → Leading (k * 8) (64 - k * 8) v (at * 8) (bit_of s)
    → Leading ((k + 1) * 8) (64 - (k + 1) * 8) (bit_or v (b * 2 ^ (56 - 8 * k) % 2 ^ 64)) (at * 8) (bit_of s)
leading_more s at k v b l h X =
    let e : 64 - k * 8 ≡ 8 + (56 - 8 * k) = omega arith in
    let g : (k + 1) * 8 ≡ k * 8 + 8 = omega arith in
    let m : 64 - (k * 8 + 8) ≡ 56 - 8 * k = omega arith in
    rw (g, m) (leading_byte (k * 8) (56 - 8 * k) v b (at * 8) (bit_of s) (omega arith) (rw e at X) (byte_here s at k b h))

pub leading_all : (x a : ℕ) (f : ℕ → Bool) → Leading 64 0 x a f → Digits 64 x a f
leading_all x a f X = let e : x ≡ X.top = X.is ∙ mul-one X.top in rw e X.digits

-- a row's first n bytes at the start of a word, and none behind
pub leading_part : (s : List ℕ) (at n x : ℕ) → n ≤ 8 → Leading (n * 8) (64 - n * 8) x (at * 8) (bit_of s) → Digits 64 x 0 (row_part s at n)
unfolding row_part
leading_part s at n x l X =
    let f : ℕ → Bool = row_part s at n in
    let e : n * 8 + (64 - n * 8) ≡ 64 = omega arith in
    let z : x ≡ X.top * 2 ^ (64 - n * 8) + 0 = X.is ∙ sym (add-zero _) in
    let here : Digits (n * 8) X.top 0 f = digits_same _ _ (at * 8) 0 (bit_of s) f (λ k lk. at_first k (omega arith)) X.digits in
    let none : Digits (64 - n * 8) 0 (0 + n * 8) f = digits_zero _ _ f (λ k lk. rw (le-ltb (0 + n * 8 + k) (n * 8) (omega arith))) in
    rw z (subst (λ (m : ℕ). Digits m (X.top * 2 ^ (64 - n * 8) + 0) 0 f) e (digits_join _ _ _ _ 0 f here none))
  where
    at_first : (k : ℕ) → k < n * 8 → bit_of s (at * 8 + k) ≡ row_part s at n (0 + k)
    at_first k lk = let z : at * 8 + k ≡ at * 8 + (0 + k) = omega arith in rw (lt-ltb (0 + k) (n * 8) (omega arith), z)

-- and back
pub byte_of_lem : (x at i : ℕ) → i < 8 → Digits 8 (x / 2 ^ (56 - 8 * i) % 256) ((at + i) * 8) (λ j. bit_of_word x (j - at * 8))
unfolding bit_of_word
byte_of_lem x at i l = record {
  small = mod-lt (x / 2 ^ (56 - 8 * i)) (omega arith);
  bits = λ e k z.
      let q : 63 - ((at + i) * 8 + k - at * 8) ≡ 56 - 8 * i + e = omega arith in
      place_mod_below (x / 2 ^ (56 - 8 * i)) 8 e (omega arith) ∙ place_shr x (56 - 8 * i) e ∙ rw q;
}

pub put_more : (x at i v : ℕ) (out was : List ℕ) → i < 8 → at + i < length out → v ≡ x / 2 ^ (56 - 8 * i) % 256
    → Filling 8 at (at + i) (λ j. bit_of_word x (j - at * 8)) out was → Filling 8 at (at + (i + 1)) (λ j. bit_of_word x (j - at * 8)) (set out (at + i) v) was
put_more x at i v out was l h e F = rw e (filling_next 8 at i (x / 2 ^ (56 - 8 * i) % 256) (λ j. bit_of_word x (j - at * 8)) out was h F (byte_of_lem x at i l))

-- stores of bytes, in the packed form
pub within_bytes : (a b : ℕ) (g : ℕ → Bool) (was out : List ℕ) → Within a b g (flat 8 was) (flat 8 out) → Within a b g (bit_of was) (bit_of out)
within_bytes a b g was out W = record {
  inner = λ j x y. sym (flat_bytes out j) ∙ W.inner j x y;
  before = λ j x. sym (flat_bytes out j) ∙ W.before j x ∙ flat_bytes was j;
  behind = λ j x. sym (flat_bytes out j) ∙ W.behind j x ∙ flat_bytes was j;
}

pub whole_row : (s : List ℕ) (at n q r : ℕ) → q * 8 + 8 ≤ n → Digits 64 r ((at + q * 8) * 8) (bit_of s) → Digits 64 r (q * 64) (row_part s at n)
unfolding row_part
whole_row s at n q r l =
    digits_same 64 r ((at + q * 8) * 8) (q * 64) (bit_of s) (row_part s at n)
    (λ k lk.
    let z : (at + q * 8) * 8 + k ≡ at * 8 + (q * 64 + k) = omega arith in
    rw (lt-ltb (q * 64 + k) (n * 8) (omega arith), z))

pub part_row : (s : List ℕ) (at n q r : ℕ) → q * 8 < n → Digits 64 r 0 (row_part s (at + q * 8) (n - q * 8)) → Digits 64 r (q * 64) (row_part s at n)
unfolding row_part
part_row s at n q r l =
    digits_same 64 r 0 (q * 64) (row_part s (at + q * 8) (n - q * 8)) (row_part s at n)
    (λ k lk.
    let z : (at + q * 8) * 8 + (0 + k) ≡ at * 8 + (q * 64 + k) = omega arith in
    let t : ltb (0 + k) ((n - q * 8) * 8) ≡ ltb (q * 64 + k) (n * 8) = elim (dec_lt (q * 64 + k) (n * 8)) [
      | yes h ↦ lt-ltb (0 + k) ((n - q * 8) * 8) (omega arith) ∙ sym (lt-ltb (q * 64 + k) (n * 8) h)
      | no h ↦ le-ltb (0 + k) ((n - q * 8) * 8) (omega arith) ∙ sym (le-ltb (q * 64 + k) (n * 8) (omega arith))
    ] in
    rw (z, t))

pub none_row : (s : List ℕ) (at n q : ℕ) → n ≤ q * 8 → Digits 64 0 (q * 64) (row_part s at n)
unfolding row_part
none_row s at n q l = digits_zero 64 (q * 64) (row_part s at n) (λ k lk. rw (le-ltb (q * 64 + k) (n * 8) (omega arith)))

pub first_word : (s : List ℕ) (at n r : ℕ) → 8 ≤ n → Digits 64 r (at * 8) (bit_of s) → Digits 64 r 0 (row_part s at n)
first_word s at n r l X = let e : at ≡ at + 0 * 8 = omega arith in whole_row s at n 0 r l (rw e at X)

-- Rows with their first columns filled -----------------------------------------------------------------------------------

all_ones : (a : ℕ) → Digits 64 18446744073709551615 a (λ j. true)
all_ones a = digits_not 64 0 a (λ j. false) (digits_zero 64 a (λ j. false) (λ k l. refl))

pub full_all : (w a : ℕ) → a + 64 ≤ w → Digits 64 18446744073709551615 a (λ c. ltb c w)
full_all w a l = digits_same 64 18446744073709551615 a a (λ j. true) (λ c. ltb c w) (λ k lk. sym (lt-ltb (a + k) w (omega arith))) (all_ones a)

pub full_none : (w a : ℕ) → w ≤ a → Digits 64 0 a (λ c. ltb c w)
full_none w a l = digits_zero 64 a (λ c. ltb c w) (λ k lk. le-ltb (a + k) w (omega arith))

-- k columns from a on
pub full_part : (w a k : ℕ) → k < 64 → a + k ≡ w → Digits 64 (2 ^ 64 - 1 - 18446744073709551615 / 2 ^ k) a (λ c. ltb c w)
full_part w a k lk e =
    let y : ℕ = 18446744073709551615 / 2 ^ k in
    let f : ℕ → Bool = λ c. not (ltb c w) in
    let z : k + (64 - k) ≡ 64 = omega arith in
    let z' : 64 - k + k ≡ 64 = omega arith in
    let rest : Digits (64 - k) y (a + k) f =
    digits_same (64 - k) y 0 (a + k) (λ j. true) f (λ i l. sym (ap not (le-ltb (a + k + i) w (omega arith)))) (digits_left (64 - k) k 18446744073709551615 0 (λ j. true) (rw z' (all_ones 0))) in
    let none : Digits k 0 a f = digits_zero k a f (λ i l. ap not (lt-ltb (a + i) w (omega arith))) in
    let both : Digits 64 (0 * 2 ^ (64 - k) + y) a f = rw z at (digits_join k (64 - k) 0 y a f none rest) in
    let e₀ : 0 * 2 ^ (64 - k) + y ≡ y = omega (arith, zero-mul (2 ^ (64 - k))) in
    digits_same 64 (2 ^ 64 - 1 - y) a a (λ c. not (f c)) (λ c. ltb c w) (λ i l. not_not (ltb (a + i) w)) (digits_not 64 y a f (rw e₀ at both))
  where
    not_not : (b : Bool) → not (not b) ≡ b
    not_not true = refl
    not_not false = refl
