-- Laws of counts: of the digits of a number, and of the columns of a row.
use Rattle.std.specs.Prelude.{◌≡◌, refl, Bool, List, [], ◌∷◌, ℕ, zero, suc, ◌+◌, ◌/◌, ◌%◌, ◌^◌, ◌<◌, eqb}
use Rattle.std.proofs.Common.{sym, ap, ◌∙◌, div-one, arith}
use Rattle.std.specs.Int.Count.{ones, ones_step}
use Rattle.rules.specs.Tools.{bit, count}
use Rattle.words.specs.Words.{place, word_bit, Digits}
use Rattle.words.specs.Digits.{digits_left}
use Rattle.words.specs.WordLaws.{digits_here}

bit_of_lem : (x : ℕ) → x < 2 → bit (eqb x 1) ≡ x
unfolding bit
bit_of_lem zero l = refl
bit_of_lem (suc zero) l = refl
bit_of_lem (suc (suc x)) l = absurd (omega arith)

count_none : (f : ℕ → Bool) → count 0 f ≡ 0
unfolding count
count_none f = refl

-- the digits of a number behind what is counted already: the last of them is its lowest
pub count_digits : (n x a : ℕ) (f : ℕ → Bool) → Digits n x a f → count (a + n) f ≡ count a f + ones x
unfolding count ones place
count_digits zero x a f X =
    let e : x ≡ 0 = omega (arith, X.small) in
    let z : a + 0 ≡ a = omega arith in
    rw (e, z) (omega arith)
count_digits (suc n) x a f X =
    let e : suc n ≡ n + 1 = omega arith in
    let z : a + suc n ≡ suc (a + n) = omega arith in
    let here : bit (f (a + n)) ≡ x % 2 =
    ap bit (sym (X.bits 0 n (omega arith)) ∙ ap (λ (m : ℕ). eqb (m % 2) 1) (div-one x)) ∙ bit_of_lem (x % 2) (omega arith) in
    let rest : count (a + n) f ≡ count a f + ones (x / 2) = count_digits n (x / 2) a f (digits_left n 1 x a f (rw e at X)) in
    rw z (omega (arith, here, rest, ones_step x))

pub row_count : (a b c d : ℕ) → a < 2 ^ 64 → b < 2 ^ 64 → c < 2 ^ 64 → d < 2 ^ 64 → ones a + ones b + ones c + ones d ≡ count 256 (word_bit (a ∷ b ∷ c ∷ d ∷ []))
row_count a b c d la lb lc ld =
    let l : List ℕ = a ∷ b ∷ c ∷ d ∷ [] in
    let f : ℕ → Bool = word_bit l in
    let A : count 64 f ≡ count 0 f + ones a = count_digits 64 a 0 f (digits_here 64 l 0 la) in
    let B : count 128 f ≡ count 64 f + ones b = count_digits 64 b 64 f (digits_here 64 l 1 lb) in
    let C : count 192 f ≡ count 128 f + ones c = count_digits 64 c 128 f (digits_here 64 l 2 lc) in
    let D : count 256 f ≡ count 192 f + ones d = count_digits 64 d 192 f (digits_here 64 l 3 ld) in
    omega (arith, A, B, C, D, count_none f)
