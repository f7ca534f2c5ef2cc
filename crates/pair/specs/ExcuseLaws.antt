-- Laws of the excused pixels taken off the packed support, row by row.
use Rattle.std.specs.Prelude.{◌≡◌, refl, Bool, false, not, ◌&&◌, List, ℕ, ◌+◌, ◌-◌, ◌*◌, ◌/◌, ◌%◌, ◌<◌, ◌≤◌, length, get_or}
use Rattle.std.proofs.Common.{sym, ap, ap₂, ◌∙◌}
use native.Mathlib.Nat.{mul-le-mul, mod-lt, div-lt_iff_lt-mul, mul_assoc}
use native.Mathlib.Omega.{arith}
use Rattle.std.proofs.Math.Decide.{dec_lt}
use Rattle.std.proofs.Math.Arith.{digits_div, digits_mod}
use Rattle.laws.specs.Tests.{and_true}
use Rattle.image.specs.Scratch.{bit_of}
use Rattle.words.specs.Words.{word_bit, Within}
use Rattle.planes.specs.PlaneLaws.{row_bit_lem, row_next}
use Rattle.planes.specs.Scratch.{Sizes, row_bit}
use Rattle.waves.specs.RowLaws.{gap_none, none_before}
use Rattle.waves.specs.Rows.{Room}
use Rattle.pair.specs.Found.{packed_bit}

-- the n bytes from `at` on are left without the columns of x, and all others as they were
abbrev pub Taken : ℕ → ℕ → (ℕ → Bool) → List ℕ → List ℕ → Type 0
Taken at n x was now = Within (at * 8) ((at + n) * 8) (λ j. bit_of was j && not (x (j - at * 8))) (bit_of was) (bit_of now)

-- the rows before y are done
pub record ExcusedTo (n y : ℕ) (got was now : List ℕ) : Type 0 where
  pub long : length now ≡ length was
  pub inner : (j : ℕ) → j < y * n * 8 → bit_of now j ≡ (bit_of was j && not (packed_bit n got j))
  pub outer : (j : ℕ) → y * n * 8 ≤ j → bit_of now j ≡ bit_of was j

packed_row : (n y j : ℕ) (got : List ℕ) → n ≤ 32 → y * n * 8 ≤ j → j < (y + 1) * n * 8 → packed_bit n got j ≡ row_bit got (y + 33) (j - y * n * 8)
unfolding packed_bit
packed_row n y j got n32 lo hi =
    let c : ℕ = j - y * n * 8 in
    let lc : c < n * 8 = omega (arith, row_next y n) in
    let e : j ≡ y * (n * 8) + c = omega (arith, mul_assoc y n 8) in
    ap (λ (i : ℕ). word_bit got ((i / (n * 8) + 33) * 320 + i % (n * 8))) e ∙ ap₂ (λ (a b : ℕ). word_bit got ((a + 33) * 320 + b)) (digits_div y lc) (digits_mod y lc)
    ∙ sym (row_bit_lem got (y + 33) c (omega arith))

pub excused_none : (n : ℕ) (got was : List ℕ) → ExcusedTo n 0 got was was
excused_none n got was = record { long = refl; inner = λ j l. absurd (omega (arith, native.Mathlib.Nat.zero-mul n)); outer = λ j l. refl }

-- where no bit of got is, nothing changes
pub excused_skip : (n y y' : ℕ) (got was now : List ℕ) → y ≤ y' → ((j : ℕ) → y * n * 8 ≤ j → j < y' * n * 8 → packed_bit n got j ≡ false)
    → ExcusedTo n y got was now → ExcusedTo n y' got was now
excused_skip n y y' got was now le e E =
    let m : y * n ≤ y' * n = native.Mathlib.Nat.mul-le-mul_right n le in
    record {
      long = E.long;
      inner = λ j l. elim (dec_lt j (y * n * 8)) [
        | yes a ↦ E.inner j a
        | no a ↦ E.outer j (omega arith) ∙ sym (ap (λ (b : Bool). bit_of was j && not b) (e j (omega arith) l) ∙ and_true (bit_of was j))
      ];
      outer = λ j l. E.outer j (omega arith);
    }

-- one row more
pub excused_row : (n y : ℕ) (x : ℕ → Bool) (got was mid now : List ℕ) → n ≤ 32 → length now ≡ length mid → ((c : ℕ) → x c ≡ row_bit got (y + 33) c) → Taken (y * n) n x mid now
    → ExcusedTo n y got was mid → ExcusedTo n (y + 1) got was now
excused_row n y x got was mid now n32 el X T E =
    let r = row_next y n in
    record {
      long = el ∙ E.long;
      inner = λ j l. elim (dec_lt j (y * n * 8)) [
        | yes a ↦ T.before j a ∙ E.inner j a
        | no a ↦
            T.inner j (omega arith) (omega arith)
            ∙ ap₂ (λ (s t : Bool). s && not t) (E.outer j (omega arith)) (X (j - y * n * 8) ∙ sym (packed_row n y j got n32 (omega arith) l))
      ];
      outer = λ j l. T.behind j (omega arith) ∙ E.outer j (omega arith);
    }

-- rows that are passed over, or that have nothing
module _ (w h n : ℕ) (ahead got : List ℕ) (z : Sizes w h) (R : Room w h ahead got) (pn : 0 < n) (n32 : n ≤ 32) where
  row_none : (y y' j : ℕ) → ((i : ℕ) → (y + 33) * 320 ≤ i → i < (y' + 33) * 320 → word_bit got i ≡ false) → y * n * 8 ≤ j → j < y' * n * 8 → packed_bit n got j ≡ false
  unfolding packed_bit
  row_none y y' j e lo hi =
      let pos : 0 < n * 8 = omega arith in
      let lr : j / (n * 8) < y' = (div-lt_iff_lt-mul pos).1 (rw (← mul_assoc y' n 8) hi) in
      let lc : j % (n * 8) < n * 8 = mod-lt j pos in
      let hr : y ≤ j / (n * 8) = (native.Mathlib.Nat.le-div_iff_mul-le pos).1 (rw (← mul_assoc y n 8) lo) in
      e ((j / (n * 8) + 33) * 320 + j % (n * 8)) (omega arith) (omega arith)

  pub excused_start : (was : List ℕ) → ExcusedTo n (get_or ahead 0 0) got was was
  excused_start was = excused_skip n 0 (get_or ahead 0 0) got was was (omega arith) (λ j a b. row_none 0 (get_or ahead 0 0) j (λ i x y. none_before w h i ahead got z R y) a b) (excused_none n got was)

  pub excused_next : (y y' : ℕ) (was now : List ℕ) → y < h → y < y' → y' ≡ get_or ahead (y + 1) 0 → ExcusedTo n (y + 1) got was now → ExcusedTo n y' got was now
  excused_next y y' was now ly lt e E =
      excused_skip n (y + 1) y' got was now (omega arith) (λ j a b. row_none (y + 1) y' j (λ i x t. gap_none w h y y' i ahead got z R ly e (omega arith) t) a b) E

  pub excused_empty : (y : ℕ) (x : ℕ → Bool) (was now : List ℕ) → y < h → ((c : ℕ) → x c ≡ row_bit got (y + 33) c) → ((c : ℕ) → x c ≡ false)
      → ExcusedTo n y got was now → ExcusedTo n (y + 1) got was now
  excused_empty y x was now ly X e E =
      excused_skip n y (y + 1) got was now (omega arith) (λ j a b. packed_row n y j got n32 a b ∙ sym (X (j - y * n * 8)) ∙ e (j - y * n * 8)) E

pub row_byte : (h n y : ℕ) → h ≤ 256 → y < h → n ≤ 32 → y * n ≤ 8192
row_byte h n y a b c = let l : y ≤ 256 = omega arith in let m : y * n ≤ 256 * 32 = mul-le-mul l c in omega arith
