-- Laws of rows: a row by its four words and back, operations on all columns, widening.
use Rattle.std.specs.Prelude.{◌≡◌, refl, Bool, true, false, ◌&&◌, ◌||◌, List, [], ◌∷◌, leb, ltb, length, get_or, set}
use Rattle.std.proofs.Math.Path.{sym, ap, ap₂}
use Rattle.std.proofs.Common.{subst, ◌∙◌, lt-ltb, le-ltb, le-leb, leb-true}
use Rattle.std.proofs.Math.Bool.{not}
use Prim.Native.Nat.{ℕ, suc, min, ◌+◌, ◌-◌, ◌*◌, ◌/◌, ◌%◌, ◌^◌, ◌<◌, ◌≤◌}
use native.Mathlib.Omega.{arith}
use Rattle.std.proofs.Math.Decide.{dec_lt, dec_le}
use Rattle.std.proofs.lemmas.Bool.{lt-leb}
use Rattle.std.specs.Int.Bits.{bit_and, bit_or}
use Rattle.std.proofs.Math.ListN.{get_or-eq_default}
use Rattle.laws.specs.Tests.{clash, and_l, and_r, and_in, and_true, or_l, or_r, or_cases}
use Rattle.image.specs.Bits.{or_none}
use Rattle.image.specs.Scratch.{bit_of}
use Rattle.words.specs.Words.{place, flat, bit_of_word, word_bit, Digits, row_part, row_at, beside, Widened, Within, WordPart, BarePart, TakenPart}
use Rattle.words.specs.Digits.{place_and, place_not, place_zero, digits_zero, digits_and, digits_or, digits_not, digits_across}
use Rattle.words.specs.WordLaws.{flat_here, digits_here, digits_same, Filling, filling_from, filling_next, filling_all}

-- the words of a row are f's columns from column q * 64 on
word_at : (l : List ℕ) (q x k : ℕ) (f : ℕ → Bool) → get_or l q 0 ≡ x → Digits 64 x (q * 64) f → q * 64 ≤ k → k < q * 64 + 64 → word_bit l k ≡ f k
word_at l q x k f e X lo hi =
    let i : ℕ = k - q * 64 in
    let z : q * 64 + i ≡ k = omega arith in
    subst (λ (n : ℕ). word_bit l n ≡ f n) z
    (flat_here 64 l q (63 - i) i (omega arith) ∙ ap (λ (n : ℕ). place n (63 - i)) e ∙ X.bits (63 - i) i (omega arith))

module _ (a b c d : ℕ) where
  pub columns_below : (f : ℕ → Bool) → Digits 64 a 0 f → Digits 64 b 64 f → Digits 64 c 128 f → Digits 64 d 192 f
      → (k : ℕ) → k < 256 → word_bit (a ∷ b ∷ c ∷ d ∷ []) k ≡ f k
  columns_below f A B C D k l = elim (dec_lt k 64) [
    | yes x ↦ word_at (a ∷ b ∷ c ∷ d ∷ []) 0 a k f refl A (omega arith) (omega arith)
    | no x ↦ elim (dec_lt k 128) [
      | yes y ↦ word_at (a ∷ b ∷ c ∷ d ∷ []) 1 b k f refl B (omega arith) (omega arith)
      | no y ↦ elim (dec_lt k 192) [
        | yes z ↦ word_at (a ∷ b ∷ c ∷ d ∷ []) 2 c k f refl C (omega arith) (omega arith)
        | no z ↦ word_at (a ∷ b ∷ c ∷ d ∷ []) 3 d k f refl D (omega arith) (omega arith)
      ]
    ]
  ]

  -- behind its 256 columns a row has none
  pub column_end : (k : ℕ) → 256 ≤ k → word_bit (a ∷ b ∷ c ∷ d ∷ []) k ≡ false
  unfolding flat
  column_end k l = ap (λ (n : ℕ). place n (63 - k % 64)) (get_or-eq_default (a ∷ b ∷ c ∷ d ∷ []) 0 {n = k / 64} (omega arith)) ∙ place_zero (63 - k % 64)

  pub columns : (f : ℕ → Bool) → Digits 64 a 0 f → Digits 64 b 64 f → Digits 64 c 128 f → Digits 64 d 192 f
      → ((k : ℕ) → 256 ≤ k → f k ≡ false) → (k : ℕ) → word_bit (a ∷ b ∷ c ∷ d ∷ []) k ≡ f k
  columns f A B C D none k = elim (dec_lt k 256) [
    | yes l ↦ columns_below f A B C D k l
    | no l ↦ column_end k (omega arith) ∙ sym (none k (omega arith))
  ]

-- an operation on words is one on columns
module _ (op : ℕ → ℕ → ℕ) (t : Bool → Bool → Bool) (tf : t false false ≡ false)
    (law : (x y a : ℕ) (f g : ℕ → Bool) → Digits 64 x a f → Digits 64 y a g → Digits 64 (op x y) a (λ j. t (f j) (g j))) where
  rows_op : (a b c d u v w z : ℕ) → a < 2 ^ 64 → b < 2 ^ 64 → c < 2 ^ 64 → d < 2 ^ 64 → u < 2 ^ 64 → v < 2 ^ 64 → w < 2 ^ 64 → z < 2 ^ 64
      → (k : ℕ) → word_bit (op a u ∷ op b v ∷ op c w ∷ op d z ∷ []) k ≡ t (word_bit (a ∷ b ∷ c ∷ d ∷ []) k) (word_bit (u ∷ v ∷ w ∷ z ∷ []) k)
  rows_op a b c d u v w z la lb lc ld lu lv lw lz =
      let l : List ℕ = a ∷ b ∷ c ∷ d ∷ [] in
      let m : List ℕ = u ∷ v ∷ w ∷ z ∷ [] in
      columns (op a u) (op b v) (op c w) (op d z) (λ j. t (word_bit l j) (word_bit m j))
      (law a u 0 (word_bit l) (word_bit m) (digits_here 64 l 0 la) (digits_here 64 m 0 lu))
      (law b v 64 (word_bit l) (word_bit m) (digits_here 64 l 1 lb) (digits_here 64 m 1 lv))
      (law c w 128 (word_bit l) (word_bit m) (digits_here 64 l 2 lc) (digits_here 64 m 2 lw))
      (law d z 192 (word_bit l) (word_bit m) (digits_here 64 l 3 ld) (digits_here 64 m 3 lz))
      (λ k h. ap₂ t (column_end a b c d k h) (column_end u v w z k h) ∙ tf)

pub rows_or : (a b c d u v w z : ℕ) → a < 2 ^ 64 → b < 2 ^ 64 → c < 2 ^ 64 → d < 2 ^ 64 → u < 2 ^ 64 → v < 2 ^ 64 → w < 2 ^ 64 → z < 2 ^ 64
    → (k : ℕ) → word_bit (bit_or a u ∷ bit_or b v ∷ bit_or c w ∷ bit_or d z ∷ []) k ≡ (word_bit (a ∷ b ∷ c ∷ d ∷ []) k || word_bit (u ∷ v ∷ w ∷ z ∷ []) k)
rows_or = rows_op bit_or ◌||◌ refl (λ x y a f g X Y. digits_or 64 x y a a a f g (λ j. f j || g j) X Y (λ k l. refl))

pub rows_and : (a b c d u v w z : ℕ) → a < 2 ^ 64 → b < 2 ^ 64 → c < 2 ^ 64 → d < 2 ^ 64 → u < 2 ^ 64 → v < 2 ^ 64 → w < 2 ^ 64 → z < 2 ^ 64
    → (k : ℕ) → word_bit (bit_and a u ∷ bit_and b v ∷ bit_and c w ∷ bit_and d z ∷ []) k ≡ (word_bit (a ∷ b ∷ c ∷ d ∷ []) k && word_bit (u ∷ v ∷ w ∷ z ∷ []) k)
rows_and = rows_op bit_and ◌&&◌ refl (λ x y a f g X Y. digits_and 64 x y a a a f g (λ j. f j && g j) X Y (λ k l. refl))

pub digits_but_not : (x y a b c : ℕ) (f g h : ℕ → Bool) → Digits 64 x a f → Digits 64 y b g → ((k : ℕ) → k < 64 → (f (a + k) && not (g (b + k))) ≡ h (c + k))
    → Digits 64 (bit_and x (2 ^ 64 - 1 - y)) c h
digits_but_not x y a b c f g h X Y all = digits_and 64 x (2 ^ 64 - 1 - y) a b c f (λ j. not (g j)) h X (digits_not 64 y b g Y) all

pub rows_but_not : (a b c d u v w z : ℕ) → a < 2 ^ 64 → b < 2 ^ 64 → c < 2 ^ 64 → d < 2 ^ 64 → u < 2 ^ 64 → v < 2 ^ 64 → w < 2 ^ 64 → z < 2 ^ 64
    → (k : ℕ) → word_bit (bit_and a (2 ^ 64 - 1 - u) ∷ bit_and b (2 ^ 64 - 1 - v) ∷ bit_and c (2 ^ 64 - 1 - w) ∷ bit_and d (2 ^ 64 - 1 - z) ∷ []) k
    ≡ (word_bit (a ∷ b ∷ c ∷ d ∷ []) k && not (word_bit (u ∷ v ∷ w ∷ z ∷ []) k))
rows_but_not = rows_op (λ x y. bit_and x (2 ^ 64 - 1 - y)) (λ x y. x && not y) refl (λ x y a f g X Y. digits_but_not x y a a a f g (λ j. f j && not (g j)) X Y (λ k l. refl))

pub rows_none : (k : ℕ) → word_bit (0 ∷ 0 ∷ 0 ∷ 0 ∷ []) k ≡ false
rows_none k =
    columns 0 0 0 0 (λ j. false) (digits_zero 64 0 (λ j. false) (λ k l. refl)) (digits_zero 64 64 (λ j. false) (λ k l. refl))
    (digits_zero 64 128 (λ j. false) (λ k l. refl)) (digits_zero 64 192 (λ j. false) (λ k l. refl)) (λ j l. refl) k

pub rows_zero : (a b c d : ℕ) → bit_or (bit_or (bit_or a b) c) d ≡ 0 → (k : ℕ) → word_bit (a ∷ b ∷ c ∷ d ∷ []) k ≡ false
rows_zero a b c d e k =
    let (x, ed) = or_none (bit_or (bit_or a b) c) d e in
    let (y, ec) = or_none (bit_or a b) c x in
    let (ea, eb) = or_none a b y in
    rw (ea, eb, ec, ed) (rows_none k)

-- between packed bytes, planes and rows ------------------------------------------------------------------------------------

pub part_end_lem : (s : List ℕ) (at n k : ℕ) → n ≤ 32 → 256 ≤ k → row_part s at n k ≡ false
unfolding row_part
part_end_lem s at n k l h = ap (λ (b : Bool). b && bit_of s (at * 8 + k)) (le-ltb k (n * 8) (omega arith))

pub row_got : (l : List ℕ) (i : ℕ) → get_or l i 0 < 2 ^ 64 → get_or l (i + 1) 0 < 2 ^ 64 → get_or l (i + 2) 0 < 2 ^ 64 → get_or l (i + 3) 0 < 2 ^ 64
    → (k : ℕ) → word_bit (get_or l i 0 ∷ get_or l (i + 1) 0 ∷ get_or l (i + 2) 0 ∷ get_or l (i + 3) 0 ∷ []) k ≡ row_at l i k
unfolding row_at
row_got l i s0 s1 s2 s3 =
    columns (get_or l i 0) (get_or l (i + 1) 0) (get_or l (i + 2) 0) (get_or l (i + 3) 0) (λ k. ltb k 256 && word_bit l (i * 64 + k))
    (part 0 i (omega arith) s0) (part 1 (i + 1) (omega arith) s1) (part 2 (i + 2) (omega arith) s2) (part 3 (i + 3) (omega arith) s3)
    (λ k h. ap (λ (b : Bool). b && word_bit l (i * 64 + k)) (le-ltb k 256 h))
  where
    part : (q j : ℕ) → (j ≡ i + q) × (q < 4) → get_or l j 0 < 2 ^ 64 → Digits 64 (get_or l j 0) (q * 64) (λ k. ltb k 256 && word_bit l (i * 64 + k))
    part q j (e, lq) s =
        digits_same 64 (get_or l j 0) (j * 64) (q * 64) (word_bit l) (λ k. ltb k 256 && word_bit l (i * 64 + k))
        (λ k h. let z : j * 64 + k ≡ i * 64 + (q * 64 + k) = omega arith in rw (lt-ltb (q * 64 + k) 256 (omega arith), z)) (digits_here 64 l j s)

-- a row that is put at word i, word by word
pub row_put : (l : List ℕ) (i a b c d : ℕ) → i + 4 ≤ length l → a < 2 ^ 64 → b < 2 ^ 64 → c < 2 ^ 64 → d < 2 ^ 64
    → Within (i * 64) ((i + 4) * 64) (λ j. word_bit (a ∷ b ∷ c ∷ d ∷ []) (j - i * 64)) (word_bit l) (word_bit (set (set (set (set l i a) (i + 1) b) (i + 2) c) (i + 3) d))
row_put l i a b c d room la lb lc ld =
    let g : ℕ → Bool = λ j. word_bit (a ∷ b ∷ c ∷ d ∷ []) (j - i * 64) in
    let e : i + 0 ≡ i = omega arith in
    let F1 : Filling 64 i (i + 1) g (set l i a) l = rw e at (filling_next 64 i 0 a g l l (omega arith) (filling_from 64 i g l) (at 0 a (omega arith) (digits_here 64 (a ∷ b ∷ c ∷ d ∷ []) 0 la))) in
    let l1 : List ℕ = set l i a in
    let F2 : Filling 64 i (i + 2) g (set l1 (i + 1) b) l = filling_next 64 i 1 b g l1 l (omega (arith, F1.long)) F1 (at 1 b (omega arith) (digits_here 64 (a ∷ b ∷ c ∷ d ∷ []) 1 lb)) in
    let l2 : List ℕ = set l1 (i + 1) b in
    let F3 : Filling 64 i (i + 3) g (set l2 (i + 2) c) l = filling_next 64 i 2 c g l2 l (omega (arith, F2.long)) F2 (at 2 c (omega arith) (digits_here 64 (a ∷ b ∷ c ∷ d ∷ []) 2 lc)) in
    let l3 : List ℕ = set l2 (i + 2) c in
    filling_all 64 i (i + 4) g (set l3 (i + 3) d) l (omega arith)
    (filling_next 64 i 3 d g l3 l (omega (arith, F3.long)) F3 (at 3 d (omega arith) (digits_here 64 (a ∷ b ∷ c ∷ d ∷ []) 3 ld)))
  where
    at : (q x : ℕ) → q < 4 → Digits 64 x (q * 64) (word_bit (a ∷ b ∷ c ∷ d ∷ [])) → Digits 64 x ((i + q) * 64) (λ j. word_bit (a ∷ b ∷ c ∷ d ∷ []) (j - i * 64))
    at q x lq = digits_same 64 x (q * 64) ((i + q) * 64) (word_bit (a ∷ b ∷ c ∷ d ∷ [])) (λ j. word_bit (a ∷ b ∷ c ∷ d ∷ []) (j - i * 64))
        (λ k h. ap (word_bit (a ∷ b ∷ c ∷ d ∷ [])) (omega arith))

pub within_none : (a b : ℕ) (g was : ℕ → Bool) → a ≡ b → Within a b g was was
within_none a b g was e = record { inner = λ j u v. absurd (omega arith); before = λ j u. refl; behind = λ j u. refl }

-- a row of n bytes that is written from byte `at` on, word by word
module _ (l : List ℕ) (at n : ℕ) where
  abbrev Written : ℕ → (ℕ → Bool) → (ℕ → Bool) → Type 0
  Written m = Within (at * 8) ((at + min n m) * 8) (λ j. word_bit l (j - at * 8))

  word_written : (q x : ℕ) (was mid now : ℕ → Bool) → get_or l q 0 ≡ x → WordPart at n q x mid now → Written (q * 8) was mid → Written (q * 8 + 8) was now
  unfolding bit_of_word
  word_written q x was mid now ex W T = record {
    inner = λ j u v. elim (dec_lt j ((at + min n (q * 8)) * 8)) [
      | yes h ↦ W.before j h ∙ T.inner j u h
      | no h ↦
          let k : ℕ = j - (at + q * 8) * 8 in
          let z : j - at * 8 ≡ q * 64 + k = omega arith in
          W.inner j (omega arith) v ∙ sym (ap (word_bit l) z ∙ flat_here 64 l q (63 - k) k (omega arith) ∙ ap (λ (i : ℕ). place i (63 - k)) ex)
    ];
    before = λ j u. W.before j (omega arith) ∙ T.before j u;
    behind = λ j u. W.behind j u ∙ T.behind j (omega arith);
  }

row_written : (a b c d at n : ℕ) (was f g h now : ℕ → Bool) → n ≤ 32 → WordPart at n 0 a was f → WordPart at n 1 b f g → WordPart at n 2 c g h → WordPart at n 3 d h now
    → Within (at * 8) ((at + n) * 8) (λ j. word_bit (a ∷ b ∷ c ∷ d ∷ []) (j - at * 8)) was now
row_written a b c d at n was f g h now ln A B C D =
    let l : List ℕ = a ∷ b ∷ c ∷ d ∷ [] in
    let e : min n 32 ≡ n = omega arith in
    rw e at
    (word_written l at n 3 d was h now refl D (word_written l at n 2 c was g h refl C (word_written l at n 1 b was f g refl B
    (word_written l at n 0 a was was f refl A (within_none (at * 8) ((at + min n 0) * 8) (λ j. word_bit l (j - at * 8)) was (omega arith))))))

-- bits laid on a row without any ------------------------------------------------------------------------------------------

pub none_laid : (at n q x : ℕ) (was : ℕ → Bool) → x ≡ 0 → BarePart at n q was → WordPart at n q x was was
unfolding bit_of_word
none_laid at n q x was z bare = record {
  inner = λ j lo hi. bare j lo hi ∙ sym (ap (λ (y : ℕ). place y (63 - (j - (at + q * 8) * 8))) z ∙ place_zero (63 - (j - (at + q * 8) * 8)));
  before = λ j u. refl;
  behind = λ j u. refl;
}

pub row_laid : (a b c d at n : ℕ) (was f g h now : ℕ → Bool) → n ≤ 32 → (BarePart at n 0 was → WordPart at n 0 a was f) → (BarePart at n 1 f → WordPart at n 1 b f g)
    → (BarePart at n 2 g → WordPart at n 2 c g h) → (BarePart at n 3 h → WordPart at n 3 d h now) → ((j : ℕ) → at * 8 ≤ j → j < (at + n) * 8 → was j ≡ false)
    → Within (at * 8) ((at + n) * 8) (λ j. word_bit (a ∷ b ∷ c ∷ d ∷ []) (j - at * 8)) was now
row_laid a b c d at n was f g h now ln A B C D bare =
    let A' = A (λ j lo hi. bare j (omega arith) (omega arith)) in
    let B' = B (λ j lo hi. A'.behind j lo ∙ bare j (omega arith) (omega arith)) in
    let C' = C (λ j lo hi. B'.behind j lo ∙ A'.behind j (omega arith) ∙ bare j (omega arith) (omega arith)) in
    let D' = D (λ j lo hi. C'.behind j lo ∙ B'.behind j (omega arith) ∙ A'.behind j (omega arith) ∙ bare j (omega arith) (omega arith)) in
    row_written a b c d at n was f g h now ln A' B' C' D'

-- bits taken off a row -----------------------------------------------------------------------------------------------------

-- word q is read, and written without the bits of x
pub part_taken : (s : List ℕ) (at n q r x : ℕ) (now : ℕ → Bool) → x < 2 ^ 64 → Digits 64 r (q * 64) (row_part s at n) → WordPart at n q (bit_and r (2 ^ 64 - 1 - x)) (bit_of s) now →
    TakenPart at n q x (bit_of s) now
unfolding bit_of_word row_part
part_taken s at n q r x now lx R W = record {
  inner = λ j lo hi.
      let k : ℕ = j - (at + q * 8) * 8 in
      let z : at * 8 + (q * 64 + k) ≡ j = omega arith in
      W.inner j lo hi ∙ place_and r (2 ^ 64 - 1 - x) (63 - k)
      ∙ ap₂ ◌&&◌ (R.bits (63 - k) k (omega arith) ∙ ap₂ ◌&&◌ (lt-ltb (q * 64 + k) (n * 8) (omega arith)) (ap (bit_of s) z)) (place_not 64 x (63 - k) lx (omega arith));
  before = W.before;
  behind = W.behind;
}

-- nothing is taken off
pub none_taken : (at n q x : ℕ) (was : ℕ → Bool) → x ≡ 0 → TakenPart at n q x was was
unfolding bit_of_word
none_taken at n q x was z = record {
  inner = λ j lo hi. sym (ap (λ (b : Bool). was j && not b) (ap (λ (y : ℕ). place y (63 - (j - (at + q * 8) * 8))) z ∙ place_zero (63 - (j - (at + q * 8) * 8))) ∙ and_true (was j));
  before = λ j u. refl;
  behind = λ j u. refl;
}

module _ (l : List ℕ) (at n : ℕ) where
  abbrev TakenTo : ℕ → (ℕ → Bool) → (ℕ → Bool) → Type 0
  TakenTo e was = Within (at * 8) ((at + min n e) * 8) (λ j. was j && not (word_bit l (j - at * 8))) was

  word_taken : (q x : ℕ) (was mid now : ℕ → Bool) → get_or l q 0 ≡ x → TakenPart at n q x mid now → TakenTo (q * 8) was mid → TakenTo (q * 8 + 8) was now
  unfolding bit_of_word
  word_taken q x was mid now ex W T = record {
    inner = λ j u v. elim (dec_lt j ((at + min n (q * 8)) * 8)) [
      | yes h ↦ W.before j h ∙ T.inner j u h
      | no h ↦
          let k : ℕ = j - (at + q * 8) * 8 in
          let z : j - at * 8 ≡ q * 64 + k = omega arith in
          W.inner j (omega arith) v
          ∙ ap₂ (λ (a b : Bool). a && not b) (T.behind j (omega arith)) (sym (ap (word_bit l) z ∙ flat_here 64 l q (63 - k) k (omega arith) ∙ ap (λ (i : ℕ). place i (63 - k)) ex))
    ];
    before = λ j u. W.before j (omega arith) ∙ T.before j u;
    behind = λ j u. W.behind j u ∙ T.behind j (omega arith);
  }

pub row_taken : (a b c d at n : ℕ) (was f g h now : ℕ → Bool) → n ≤ 32 → TakenPart at n 0 a was f → TakenPart at n 1 b f g → TakenPart at n 2 c g h → TakenPart at n 3 d h now
    → Within (at * 8) ((at + n) * 8) (λ j. was j && not (word_bit (a ∷ b ∷ c ∷ d ∷ []) (j - at * 8))) was now
row_taken a b c d at n was f g h now ln A B C D =
    let l : List ℕ = a ∷ b ∷ c ∷ d ∷ [] in
    let e : min n 32 ≡ n = omega arith in
    rw e at
    (word_taken l at n 3 d was h now refl D (word_taken l at n 2 c was g h refl C (word_taken l at n 1 b was f g refl B
    (word_taken l at n 0 a was was f refl A (within_none (at * 8) ((at + min n 0) * 8) (λ j. was j && not (word_bit l (j - at * 8))) was (omega arith))))))

-- widening ---------------------------------------------------------------------------------------------------------------

-- the word m between l and n: the bits s to the right, those s to the left, and both with its own
pub spread_word : (l m n s a : ℕ) (f : ℕ → Bool) → 0 < s → s < 64 → Digits 64 l a f → Digits 64 m (a + 64) f → Digits 64 n (a + 128) f
    → Digits 64 (bit_or (bit_or m (bit_or (m * 2 ^ s % 2 ^ 64) (n / 2 ^ (64 - s)))) (bit_or (l * 2 ^ (64 - s) % 2 ^ 64) (m / 2 ^ s))) (a + 64) (beside s f)
unfolding beside
spread_word l m n s a f p h L M N =
    let t : ℕ = 64 - s in
    let st : 64 ≡ s + t = omega arith in
    let ts : 64 ≡ t + s = omega arith in
    let right : Digits 64 (bit_or (m * 2 ^ s % 2 ^ 64) (n / 2 ^ t)) (a + 64 + s) f =
    subst (λ (z : ℕ). Digits z (bit_or (m * 2 ^ s % 2 ^ z) (n / 2 ^ t)) (a + 64 + s) f) (sym ts)
    (digits_across s t m n (a + 64) f (moved st refl M) (moved ts (omega arith) N)) in
    let left : Digits 64 (bit_or (l * 2 ^ t % 2 ^ 64) (m / 2 ^ s)) (a + t) f =
    subst (λ (z : ℕ). Digits z (bit_or (l * 2 ^ t % 2 ^ z) (m / 2 ^ s)) (a + t) f) (sym st)
    (digits_across t s l m a f (moved ts refl L) (moved st (omega arith) M)) in
    digits_or 64 _ _ (a + 64) (a + t) (a + 64) (λ j. f j || f (j + s)) f (λ j. f j || f (j + s) || (leb s j && f (j - s)))
    (digits_or 64 _ _ (a + 64) (a + 64 + s) (a + 64) f f (λ j. f j || f (j + s)) M right
    (λ k x. let q : a + 64 + s + k ≡ a + 64 + k + s = omega arith in rw q))
    left
    (λ k x. let q : a + t + k ≡ a + 64 + k - s = omega arith in rw (q, le-leb s (a + 64 + k) (omega arith)))
  where
    moved : {i j b d x : ℕ} → i ≡ j → b ≡ d → Digits i x b f → Digits j x d f
    moved e q X = rw (← e, ← q) X

-- one word further on
flat_next : (x : ℕ) (l : List ℕ) (j : ℕ) → word_bit (x ∷ l) (64 + j) ≡ word_bit l j
unfolding flat
flat_next x l j =
    let q : (64 + j) / 64 ≡ suc (j / 64) = omega arith in
    let r : (64 + j) % 64 ≡ j % 64 = omega arith in
    rw (q, r)

-- behind a word that is 0
rows_beside : (l : List ℕ) (s k : ℕ) → s < 64 → beside s (word_bit (0 ∷ l)) (64 + k) ≡ beside s (word_bit l) k
unfolding beside
rows_beside l s k ls =
    let e : 64 + k + s ≡ 64 + (k + s) = omega arith in
    ap₂ ◌||◌ (ap₂ ◌||◌ (flat_next 0 l k) (ap (word_bit (0 ∷ l)) e ∙ flat_next 0 l (k + s)))
    (ap (λ (b : Bool). b && word_bit (0 ∷ l) (64 + k - s)) (le-leb s (64 + k) (omega arith)) ∙ elim (dec_le s k) [
      | yes h ↦
          let z : 64 + k - s ≡ 64 + (k - s) = omega arith in
          ap (word_bit (0 ∷ l)) z ∙ flat_next 0 l (k - s) ∙ sym (ap (λ (b : Bool). b && word_bit l (k - s)) (le-leb s k h))
      | no h ↦
          word_at (0 ∷ l) 0 0 (64 + k - s) (λ j. false) refl (digits_zero 64 0 (λ j. false) (λ k l. refl)) (omega arith) (omega arith)
          ∙ sym (ap (λ (b : Bool). b && word_bit l (k - s)) (lt-leb s k (omega arith)))
    ])

-- what `spread` promises of the word m between l and n
abbrev pub Spreads : ℕ → ℕ → ℕ → ℕ → ℕ → Type 0
Spreads s l m n r = (a : ℕ) → (f : ℕ → Bool) → Digits 64 l a f → Digits 64 m (a + 64) f → Digits 64 n (a + 128) f → Digits 64 r (a + 64) (beside s f)

pub rows_wide : (a b c d s x y z u : ℕ) → s < 64 → a < 2 ^ 64 → b < 2 ^ 64 → c < 2 ^ 64 → d < 2 ^ 64
    → Spreads s 0 a b x → Spreads s a b c y → Spreads s b c d z → Spreads s c d 0 u
    → (k : ℕ) → k < 256 → word_bit (x ∷ y ∷ z ∷ u ∷ []) k ≡ beside s (word_bit (a ∷ b ∷ c ∷ d ∷ [])) k
rows_wide a b c d s x y z u ls la lb lc ld X Y Z U k lk =
    columns_below x y z u (λ j. beside s F (64 + j))
    (turn x 0 (X 0 F O A B)) (turn y 64 (Y 64 F A B C)) (turn z 128 (Z 128 F B C D)) (turn u 192 (U 192 F C D E)) k lk ∙ same
  where
    l : List ℕ
    l = a ∷ b ∷ c ∷ d ∷ []

    F : ℕ → Bool
    F = word_bit (0 ∷ a ∷ b ∷ c ∷ d ∷ [])

    O : Digits 64 0 0 F
    O = digits_here 64 (0 ∷ l) 0 (omega arith)

    A : Digits 64 a 64 F
    A = digits_here 64 (0 ∷ l) 1 la

    B : Digits 64 b 128 F
    B = digits_here 64 (0 ∷ l) 2 lb

    C : Digits 64 c 192 F
    C = digits_here 64 (0 ∷ l) 3 lc

    D : Digits 64 d 256 F
    D = digits_here 64 (0 ∷ l) 4 ld

    E : Digits 64 0 320 F
    E = digits_here 64 (0 ∷ l) 5 (omega arith)

    turn : (v j : ℕ) → Digits 64 v (j + 64) (beside s F) → Digits 64 v j (λ i. beside s F (64 + i))
    turn v j = digits_same 64 v (j + 64) j (beside s F) (λ i. beside s F (64 + i)) (λ i h. ap (beside s F) (omega arith))

    same : beside s F (64 + k) ≡ beside s (word_bit l) k
    same = rows_beside l s k ls

-- A step of s columns after k is no wider than k + 1: so a column that it reaches first is reached from within the image.
pub widened_none : (x : ℕ → Bool) → Widened 0 x x
widened_none x = record {
  there = λ c d l e a b. let z : c ≡ d = omega arith in ap x z ∙ e;
  back = λ c e. (c, e, omega arith, omega arith);
}

pub widened_more : (k s : ℕ) (x r t : ℕ → Bool) → s ≤ k + 1 → ((c : ℕ) → 256 ≤ c → x c ≡ false) → ((c : ℕ) → 256 ≤ c → t c ≡ false)
    → ((c : ℕ) → c < 256 → t c ≡ beside s r c) → Widened k x r → Widened (k + s) x t
unfolding beside
widened_more k s x r t ls xe te is W = record { there = there; back = back }
  where
    there : (c d : ℕ) → c < 256 → x d ≡ true → c ≤ d + (k + s) → d ≤ c + (k + s) → t c ≡ true
    there c d lc e a b =
        let ld : d < 256 = elim (dec_lt d 256) [ yes l ↦ l | no l ↦ clash e (xe d (omega arith)) ] in
        is c lc ∙ elim (dec_lt (c + k) d) [
          | yes u ↦ or_l (r c || r (c + s)) _ (or_r (r c) _ (W.there (c + s) d (omega arith) e (omega arith) (omega arith)))
          | no u ↦ elim (dec_lt (d + k) c) [
            | yes v ↦ or_r (r c || r (c + s)) _ (and_in (leb s c) _ (le-leb s c (omega arith)) (W.there (c - s) d (omega arith) e (omega arith) (omega arith)))
            | no v ↦ or_l (r c || r (c + s)) _ (or_l (r c) _ (W.there c d lc e (omega arith) (omega arith)))
          ]
        ]

    back : (c : ℕ) → t c ≡ true → (d : ℕ) × (x d ≡ true) × (c ≤ d + (k + s)) × (d ≤ c + (k + s))
    back c e =
        let lc : c < 256 = elim (dec_lt c 256) [ yes l ↦ l | no l ↦ clash e (te c (omega arith)) ] in
        or_cases (r c) (r (c + s)) (leb s c && r (c - s)) (sym (is c lc) ∙ e)
        (λ u. let (d, v, a, b) = W.back c u in (d, v, omega arith, omega arith))
        (λ u. let (d, v, a, b) = W.back (c + s) u in (d, v, omega arith, omega arith))
        (λ u.
        let h : s ≤ c = leb-true s c (and_l (leb s c) _ u) in
        let (d, v, a, b) = W.back (c - s) (and_r (leb s c) _ u) in (d, v, omega arith, omega arith))
