-- Laws of the bits of bytes as numbers, and of a number written by them at the places of a word.
use Rattle.std.specs.Prelude.{◌≡◌, refl, Bool, true, false, cond, List, ℕ, ◌+◌, ◌-◌, ◌*◌, ◌/◌, ◌%◌, ◌^◌, ◌<◌, eqb, length, get_or, set}
use Rattle.std.proofs.Common.{ap, ◌∙◌, arith, get_or-set_same, get_or-set_other}
use Rattle.std.proofs.Math.Decide.{dec_lt, ℕ_discrete}
use Rattle.rules.specs.Tools.{bit}
use Rattle.rules.specs.Images.{bit_at}
use Rattle.words.specs.Words.{place, bit_of_word, Numbered, Ones, Placed}
use Rattle.words.specs.Digits.{place_shr, place_mod_below}

pub digit_one : (b d : Bool) → b ≡ d → b ≡ true → 1 ≡ bit d
unfolding bit
digit_one b d e t = rw (← e, t)

pub digit_none : (b d : Bool) → b ≡ d → b ≡ false → 0 ≡ bit d
unfolding bit
digit_none b d e t = rw (← e, t)

pub ones_at : (l : List ℕ) → Ones l → (m at k : ℕ) → m < 256 → at ≡ m * 8 → k < 8 → get_or l (at + k) 0 ≡ bit (bit_at m k)
ones_at l o m at k lm e lk =
    let d : (at + k) / 8 ≡ m = omega arith in
    let r : (at + k) % 8 ≡ k = omega arith in
    o.is (at + k) (omega arith) ∙ rw (d, r)

-- a bit as a number, and back
bit_back : (b : Bool) → eqb (bit b) 1 ≡ b
unfolding bit
bit_back true = refl
bit_back false = refl

-- the byte of a word
pub byte_bit : (x b j : ℕ) → b < 8 → j < 8 → bit_at (x / 2 ^ (56 - 8 * b) % 2 ^ 8) j ≡ bit_of_word x (8 * b + j)
unfolding bit_at bit_of_word place
byte_bit x b j lb lj =
    let z : 56 - 8 * b + (7 - j) ≡ 63 - (8 * b + j) = omega arith in
    place_mod_below (x / 2 ^ (56 - 8 * b)) 8 (7 - j) (omega arith) ∙ place_shr x (56 - 8 * b) (7 - j) ∙ rw z

pub placed_none : (x : ℕ) (f : ℕ → ℕ) (was : List ℕ) → Placed x 0 f was was
placed_none x f was = record { here = λ k l. absurd (omega arith); before = λ p l. refl; behind = λ p l. refl }

pub placed_more : (x n v : ℕ) (f : ℕ → ℕ) (was now : List ℕ) → x + n < length now → v ≡ f n → Placed x n f was now → Placed x (n + 1) f was (set now (x + n) v)
placed_more x n v f was now room is P = record {
  here = λ k l. elim (ℕ_discrete k n) [
    | yes e ↦ rw (e, get_or-set_same now (x + n) v 0 room) is
    | no e ↦ get_or-set_other now (x + n) (x + k) v 0 (λ z. e (omega arith)) ∙ P.here k (omega arith)
  ];
  before = λ p l. get_or-set_other now (x + n) p v 0 (λ z. omega arith) ∙ P.before p l;
  behind = λ p l. get_or-set_other now (x + n) p v 0 (λ z. omega arith) ∙ P.behind p (omega arith);
}

pub placed_same : (x n : ℕ) (f g : ℕ → ℕ) (was now : List ℕ) → ((k : ℕ) → k < n → f k ≡ g k) → Placed x n f was now → Placed x n g was now
placed_same x n f g was now same P = record { here = λ k l. P.here k l ∙ same k l; before = P.before; behind = P.behind }

-- one stretch behind another
placed_join : (x n m : ℕ) (f g : ℕ → ℕ) (was mid now : List ℕ) → ((k : ℕ) → k < m → g k ≡ f (n + k))
    → Placed x n f was mid → Placed (x + n) m g mid now → Placed x (n + m) f was now
placed_join x n m f g was mid now same P Q = record {
  here = λ k l. elim (dec_lt k n) [
    | yes s ↦ Q.before (x + k) (omega arith) ∙ P.here k s
    | no s ↦
        let i : ℕ = k - n in
        let y : x + n + i ≡ x + k = omega arith in
        let z : n + i ≡ k = omega arith in
        let q : get_or now (x + n + i) 0 ≡ f (n + i) = Q.here i (omega arith) ∙ same i (omega arith) in
        rw (y, z) at q
  ];
  before = λ p l. Q.before p (omega arith) ∙ P.before p l;
  behind = λ p l. Q.behind p (omega arith) ∙ P.behind p (omega arith);
}

module _ (x m v : ℕ) (was : List ℕ) where
  -- what the places of a word are to be
  abbrev pub Wanted : ℕ → ℕ
  Wanted k = cond (bit_of_word m k) v (get_or was (x + k) 0)

  -- byte b, by the table
  pub eights_more : (ones mid now : List ℕ) (b y : ℕ) → Ones ones → (y < 256) × ((k : ℕ) → k < 8 → bit_at y k ≡ bit_of_word m (8 * b + k)) → Placed x (8 * b) Wanted was mid
      → Placed (x + 8 * b) 8 (λ k. cond (eqb (get_or ones (y * 8 + k) 0) 1) v (get_or mid (x + 8 * b + k) 0)) mid now → Placed x (8 * (b + 1)) Wanted was now
  eights_more ones mid now b y O (ly, bits) P Q =
      let n : 8 * (b + 1) ≡ 8 * b + 8 = omega arith in
      rw n (placed_join x (8 * b) 8 Wanted _ was mid now same P Q)
    where
      same : (k : ℕ) → k < 8 → cond (eqb (get_or ones (y * 8 + k) 0) 1) v (get_or mid (x + 8 * b + k) 0) ≡ Wanted (8 * b + k)
      same k l =
          let e : x + 8 * b + k ≡ x + (8 * b + k) = omega arith in
          let t : eqb (get_or ones (y * 8 + k) 0) 1 ≡ bit_of_word m (8 * b + k) = ap (λ (n : ℕ). eqb n 1) (ones_at ones O y (y * 8) k ly refl l) ∙ bit_back (bit_at y k) ∙ bits k l in
          rw (t, e, P.behind (x + (8 * b + k)) (omega arith))

  pub eights_all : (now : List ℕ) → Placed x 64 Wanted was now → Numbered x m v was now
  eights_all now P = record { here = P.here; before = P.before; behind = P.behind }
