-- Laws of single bits set and cleared, and of the words that a bit and those beside it stand in.
use Rattle.std.specs.Prelude.{◌≡◌, ℕ, suc, ◌+◌, ◌-◌, ◌*◌, ◌^◌, ◌<◌, ◌≤◌, Bool, true, not, ◌&&◌, ◌||◌, eqb, ◌⊎◌, List, length, ◌==◌, bit_and, bit_or, slice_index, slice_index_or, slice_set, refl}
use Rattle.std.proofs.Common.{sym, ap, ◌∙◌, inl, inr, ⊎_elim, arith, ne_eqb, eq-eqb, get_or-set_same}
use Rattle.std.proofs.Math.Decide.{ℕ_discrete, dec_lt}
use Rattle.std.proofs.lemmas.Nat.{and_le_l}
use Rattle.laws.specs.Tests.{clash, and_true, and_false, or_r, or_false}
use Rattle.words.specs.Words.{word_bit, Digits, beside, Within}
use Rattle.words.specs.Digits.{digits_zero, digits_or}
use Rattle.words.specs.RowLaws.{digits_but_not, Spreads}
use Rattle.words.specs.WordLaws.{digits_here, filling_none, filling_more, filling_all}
use Rattle.sweeps.specs.Marks.{Cleared, Lit}

-- one word changed ------------------------------------------------------------------------------------------------------

set_word : (l : List ℕ) (i v : ℕ) (g : ℕ → Bool) → i < length l → Digits 64 v (i * 64) g → Within (i * 64) ((i + 1) * 64) g (word_bit l) (word_bit (slice_set l i v))
set_word l i v g h X = filling_all 64 i (i + 1) g (slice_set l i v) l (omega arith) (filling_more 64 i i v g l l (omega arith) h (filling_none 64 i g l) X)

module _ (l : List ℕ) (i k b : ℕ) (h : i < length l) (s : slice_index_or l i 0 < 2 ^ 64) (lk : k < 64) (B : (a : ℕ) → Digits 64 b a (λ j. eqb j (a + k))) where
  pub cleared : Cleared (i * 64 + k) (slice_set l i (bit_and (slice_index l i) (2 ^ 64 - 1 - b))) l
  cleared = record {
    off = W.inner (i * 64 + k) (omega arith) (omega arith) ∙ ap (λ (x : Bool). word_bit l (i * 64 + k) && not x) (eq-eqb (i * 64 + k) (i * 64 + k) refl) ∙ and_false (word_bit l (i * 64 + k));
    same = λ j n. elim (dec_lt j (i * 64)) [
      | yes a ↦ W.before j a
      | no a ↦ elim (dec_lt j ((i + 1) * 64)) [
        | yes d ↦ W.inner j (omega arith) d ∙ ap (λ (x : Bool). word_bit l j && not x) (ne_eqb j (i * 64 + k) n) ∙ and_true (word_bit l j)
        | no d ↦ W.behind j (omega arith)
      ]
    ];
  }
    where
      W : Within (i * 64) ((i + 1) * 64) (λ j. word_bit l j && not (j == i * 64 + k)) (word_bit l) (word_bit (slice_set l i (bit_and (slice_index l i) (2 ^ 64 - 1 - b))))
      W = set_word l i _ (λ j. word_bit l j && not (j == i * 64 + k)) h
          (digits_but_not (slice_index l i) b (i * 64) (i * 64) (i * 64) (word_bit l) (λ j. eqb j (i * 64 + k)) (λ j. word_bit l j && not (j == i * 64 + k)) (digits_here 64 l i s) (B (i * 64))
          (λ x y. refl))

  -- a set bit is lost, so the word falls
  pub cleared_less : word_bit l (i * 64 + k) ≡ true → slice_index (slice_set l i (bit_and (slice_index l i) (2 ^ 64 - 1 - b))) i < slice_index l i
  cleared_less e =
      let v = bit_and (slice_index l i) (2 ^ 64 - 1 - b) in
      let g : slice_index_or (slice_set l i v) i 0 ≡ v = get_or-set_same l i v 0 h in
      elim (ℕ_discrete v (slice_index l i)) [
        | yes q ↦ clash (here (slice_set l i v) (omega arith) ∙ e) cleared.off
        | no q ↦ omega (arith, and_le_l (slice_index l i) (2 ^ 64 - 1 - b))
      ]
    where
      here : (m : List ℕ) → slice_index m i ≡ slice_index l i → word_bit m (i * 64 + k) ≡ word_bit l (i * 64 + k)
      here m q =
          let z : 63 - k + suc k ≡ 64 = omega arith in
          Rattle.words.specs.WordLaws.flat_here 64 m i (63 - k) k z ∙ ap (λ (x : ℕ). Rattle.words.specs.Words.place x (63 - k)) q ∙ sym (Rattle.words.specs.WordLaws.flat_here 64 l i (63 - k) k z)

  pub lit : Lit (i * 64 + k) (slice_set l i (bit_or (slice_index l i) b)) l
  lit = record {
    on = W.inner (i * 64 + k) (omega arith) (omega arith) ∙ or_r (word_bit l (i * 64 + k)) _ (eq-eqb (i * 64 + k) (i * 64 + k) refl);
    same = λ j n. elim (dec_lt j (i * 64)) [
      | yes a ↦ W.before j a
      | no a ↦ elim (dec_lt j ((i + 1) * 64)) [
        | yes d ↦ W.inner j (omega arith) d ∙ ap (λ (x : Bool). word_bit l j || x) (ne_eqb j (i * 64 + k) n) ∙ or_false (word_bit l j)
        | no d ↦ W.behind j (omega arith)
      ]
    ];
  }
    where
      W : Within (i * 64) ((i + 1) * 64) (λ j. word_bit l j || j == i * 64 + k) (word_bit l) (word_bit (slice_set l i (bit_or (slice_index l i) b)))
      W = set_word l i _ (λ j. word_bit l j || j == i * 64 + k) h
          (digits_or 64 (slice_index l i) b (i * 64) (i * 64) (i * 64) (word_bit l) (λ j. eqb j (i * 64 + k)) (λ j. word_bit l j || j == i * 64 + k) (digits_here 64 l i s) (B (i * 64)) (λ x y. refl))

-- the words of the bit t alone, which is bit k of word i, and those beside it
lone : (t i : ℕ) → (t < i * 64) ⊎ ((i + 1) * 64 ≤ t) → Digits 64 0 (i * 64) (λ j. eqb j t)
lone t i o = digits_zero 64 (i * 64) (λ j. eqb j t) (λ k l. ne_eqb (i * 64 + k) t (λ z. ⊎_elim (λ (x : t < i * 64). omega arith) (λ (x : (i + 1) * 64 ≤ t). omega arith) o))

module _ (i k b : ℕ) (lk : k < 64) (two : 2 ≤ i) (B : (a : ℕ) → Digits 64 b a (λ j. eqb j (a + k))) where
  moved : {x d e : ℕ} {f : ℕ → Bool} → d ≡ e → Digits 64 x d f → Digits 64 x e f
  moved q X = rw (← q) X

  pub before_word : (x : ℕ) → Spreads 1 0 0 b x → Digits 64 x ((i - 1) * 64) (beside 1 (λ j. eqb j (i * 64 + k)))
  before_word x S =
      moved (omega arith) (S ((i - 2) * 64) (λ j. eqb j (i * 64 + k)) (lone (i * 64 + k) (i - 2) (inr (omega arith)))
      (moved {d = (i - 1) * 64} (omega arith) (lone (i * 64 + k) (i - 1) (inr (omega arith)))) (moved (omega arith) (B (i * 64))))

  pub own_word : (x : ℕ) → Spreads 1 0 b 0 x → Digits 64 x (i * 64) (beside 1 (λ j. eqb j (i * 64 + k)))
  own_word x S =
      moved (omega arith) (S ((i - 1) * 64) (λ j. eqb j (i * 64 + k)) (lone (i * 64 + k) (i - 1) (inr (omega arith))) (moved (omega arith) (B (i * 64)))
      (moved {d = (i + 1) * 64} (omega arith) (lone (i * 64 + k) (i + 1) (inl (omega arith)))))

  pub after_word : (x : ℕ) → Spreads 1 b 0 0 x → Digits 64 x ((i + 1) * 64) (beside 1 (λ j. eqb j (i * 64 + k)))
  after_word x S =
      moved (omega arith) (S (i * 64) (λ j. eqb j (i * 64 + k)) (B (i * 64)) (moved {d = (i + 1) * 64} (omega arith) (lone (i * 64 + k) (i + 1) (inl (omega arith))))
      (moved {d = (i + 2) * 64} (omega arith) (lone (i * 64 + k) (i + 2) (inl (omega arith)))))
