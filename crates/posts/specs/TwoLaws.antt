-- Laws of two words of a plane, read as a row of 128 columns and put back.
use Rattle.std.specs.Prelude.{◌≡◌, Bool, true, false, ◌&&◌, List, [], ◌∷◌, ℕ, min, ◌+◌, ◌-◌, ◌*◌, ◌/◌, ◌^◌, ◌<◌, ◌≤◌, ltb, get_or, length, set}
use Rattle.std.proofs.Common.{sym, ap, ◌∙◌, arith, lt-ltb, le-ltb}
use Rattle.std.proofs.Math.Decide.{dec_lt}
use Rattle.laws.specs.Tests.{clash}
use Rattle.words.specs.Words.{word_bit, Digits, Within}
use Rattle.words.specs.Digits.{digits_zero}
use Rattle.words.specs.RowLaws.{columns}
use Rattle.words.specs.WordLaws.{digits_here, digits_same, Filling, filling_from, filling_next, filling_all}

pub two_got : (l : List ℕ) (i : ℕ) → get_or l i 0 < 2 ^ 64 → get_or l (i + 1) 0 < 2 ^ 64
    → (k : ℕ) → word_bit (get_or l i 0 ∷ get_or l (i + 1) 0 ∷ 0 ∷ 0 ∷ []) k ≡ (ltb k 128 && word_bit l (i * 64 + k))
two_got l i s0 s1 =
    columns (get_or l i 0) (get_or l (i + 1) 0) 0 0 f (part 0 i (omega arith) s0) (part 1 (i + 1) (omega arith) s1)
    (digits_zero 64 128 f (λ k h. none (128 + k) (omega arith))) (digits_zero 64 192 f (λ k h. none (192 + k) (omega arith))) (λ k h. none k (omega arith))
  where
    f : ℕ → Bool
    f k = ltb k 128 && word_bit l (i * 64 + k)

    none : (k : ℕ) → 128 ≤ k → f k ≡ false
    none k h = ap (λ (b : Bool). b && word_bit l (i * 64 + k)) (le-ltb k 128 h)

    part : (q j : ℕ) → (j ≡ i + q) × (q < 2) → get_or l j 0 < 2 ^ 64 → Digits 64 (get_or l j 0) (q * 64) f
    part q j (e, lq) s =
        digits_same 64 (get_or l j 0) (j * 64) (q * 64) (word_bit l) f
        (λ k h. let z : j * 64 + k ≡ i * 64 + (q * 64 + k) = omega arith in rw (lt-ltb (q * 64 + k) 128 (omega arith), z)) (digits_here 64 l j s)

pub two_put : (l : List ℕ) (i a b c d : ℕ) → i + 2 ≤ length l → a < 2 ^ 64 → b < 2 ^ 64
    → Within (i * 64) (i * 64 + 128) (λ j. word_bit (a ∷ b ∷ c ∷ d ∷ []) (j - i * 64)) (word_bit l) (word_bit (set (set l i a) (i + 1) b))
two_put l i a b c d room la lb =
    let g : ℕ → Bool = λ j. word_bit (a ∷ b ∷ c ∷ d ∷ []) (j - i * 64) in
    let e : i + 0 ≡ i = omega arith in
    let z : i * 64 + 128 ≡ (i + 2) * 64 = omega arith in
    let F : Filling 64 i (i + 1) g (set l i a) l = rw e at (filling_next 64 i 0 a g l l (omega arith) (filling_from 64 i g l) (at 0 a (omega arith) (digits_here 64 (a ∷ b ∷ c ∷ d ∷ []) 0 la))) in
    rw z (filling_all 64 i (i + 2) g (set (set l i a) (i + 1) b) l (omega arith)
    (filling_next 64 i 1 b g (set l i a) l (omega (arith, F.long)) F (at 1 b (omega arith) (digits_here 64 (a ∷ b ∷ c ∷ d ∷ []) 1 lb))))
  where
    at : (q x : ℕ) → q < 2 → Digits 64 x (q * 64) (word_bit (a ∷ b ∷ c ∷ d ∷ [])) → Digits 64 x ((i + q) * 64) (λ j. word_bit (a ∷ b ∷ c ∷ d ∷ []) (j - i * 64))
    at q x lq = digits_same 64 x (q * 64) ((i + q) * 64) (word_bit (a ∷ b ∷ c ∷ d ∷ [])) (λ j. word_bit (a ∷ b ∷ c ∷ d ∷ []) (j - i * 64))
        (λ k h. ap (word_bit (a ∷ b ∷ c ∷ d ∷ [])) (omega arith))

-- the two words that have all columns within 32 of column c
pub two_words : (c l b : ℕ) → c < 256 → l ≡ c - 32 → b ≡ min (l / 64) 2
    → (b ≤ 2) × ((j : ℕ) → j < 256 → c ≤ j + 32 → j ≤ c + 32 → (b * 64 ≤ j) × (j < b * 64 + 128))
two_words c l b lc el eb = (omega arith, λ j lj x y. (omega arith, omega arith))

-- a bit is set only where it was, and not in the two words from word i on in the first d rows
abbrev pub WipedTo : ℕ → ℕ → List ℕ → List ℕ → Type 0
WipedTo i d was now = (j : ℕ) → word_bit now j ≡ true → (word_bit was j ≡ true) × ((e : ℕ) → e < d → i * 64 + e * 320 ≤ j → j < i * 64 + e * 320 + 128 → ⊥)

pub wiped_none : (i : ℕ) (l : List ℕ) → WipedTo i 0 l l
wiped_none i l j u = (u, λ e x. absurd (omega arith))

pub wiped_more : (i d : ℕ) (was mid now : List ℕ) (none : ℕ → Bool) → ((c : ℕ) → none c ≡ false)
    → Within ((i + 5 * d) * 64) ((i + 5 * d) * 64 + 128) (λ j. none (j - (i + 5 * d) * 64)) (word_bit mid) (word_bit now) → WipedTo i d was mid → WipedTo i (d + 1) was now
wiped_more i d was mid now none n W D j u = elim (dec_lt j ((i + 5 * d) * 64)) [
  | yes a ↦ go (omega arith) (sym (W.before j a) ∙ u)
  | no a ↦ elim (dec_lt j ((i + 5 * d) * 64 + 128)) [
    | yes b ↦ clash u (W.inner j (omega arith) b ∙ n (j - (i + 5 * d) * 64))
    | no b ↦ go (omega arith) (sym (W.behind j (omega arith)) ∙ u)
  ]
]
  where
    go : (i * 64 + d * 320 ≤ j → j < i * 64 + d * 320 + 128 → ⊥) → word_bit mid j ≡ true → (word_bit was j ≡ true) × ((e : ℕ) → e < d + 1 → i * 64 + e * 320 ≤ j → j < i * 64 + e * 320 + 128 → ⊥)
    go out v =
        let (x, y) = D j v in (
          x,
          λ e l lo hi. elim (dec_lt e d) [
            | yes p ↦ y e p lo hi
            | no p ↦ let z : e ≡ d = omega arith in out (rw (← z) lo) (rw (← z) hi)
          ],
        )
