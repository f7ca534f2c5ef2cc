-- Laws of the loop over rows: the far pixels dropped.
use Rattle.std.specs.Prelude.{◌≡◌, refl, Bool, true, false, ◌&&◌, List, ℕ, ◌+◌, ◌-◌, ◌*◌, ◌/◌, ◌%◌, ◌<◌, ◌≤◌, get_or}
use Rattle.std.proofs.Common.{sym, ap, ap₂, ◌∙◌, arith}
use Rattle.std.proofs.Math.Decide.{dec_lt}
use Rattle.std.proofs.Math.Arith.{digits_div, digits_mod}
use Rattle.rules.specs.Planning.{near}
use Rattle.laws.specs.Tests.{split, and_l}
use Rattle.words.specs.Words.{word_bit}
use Rattle.planes.specs.PlaneLaws.{seen_is, pixel_row, row_bit_lem, framed_row}
use Rattle.planes.specs.Scratch.{spot, Sizes, Framed, seen, row_bit, RowPut}
use Rattle.waves.specs.RowLaws.{put_bits, kept_bits, upto_row, gap_none, none_before, none_behind}
use Rattle.waves.specs.Rows.{Room, RowBits, Upto}
use Rattle.rings.specs.NearRings.{near_bits}

-- one row, of which the far pixels are dropped
near_at : (w h q : ℕ) (low left : List ℕ) (k c : ℕ) → c < 320 → near_bits w h q low left (k * 320 + c) ≡ (word_bit left (k * 320 + c) && near w h q (seen w low) ((k - 33) * w + c))
unfolding near_bits
near_at w h q low left k c l = ap₂ (λ (a b : ℕ). word_bit left (k * 320 + c) && near w h q (seen w low) ((a - 33) * w + b)) (digits_div k l) (digits_mod k l)

pub near_none : (w h q : ℕ) (low left : List ℕ) (j : ℕ) → word_bit left j ≡ false → near_bits w h q low left j ≡ false
unfolding near_bits
near_none w h q low left j e = ap (λ (b : Bool). b && near w h q (seen w low) ((j / 320 - 33) * w + j % 320)) e

pub near_same : (w h q : ℕ) (low left left' : List ℕ) (j : ℕ) → word_bit left j ≡ word_bit left' j → near_bits w h q low left j ≡ near_bits w h q low left' j
unfolding near_bits
near_same w h q low left left' j e = ap (λ (b : Bool). b && near w h q (seen w low) ((j / 320 - 33) * w + j % 320)) e

pub drop_row_lem : (w h q y : ℕ) (low left left' : List ℕ) (own close both : ℕ → Bool) → Sizes w h → Framed w h left → y < h → ((c : ℕ) → own c ≡ row_bit left (y + 33) c)
    → ((c : ℕ) → c < w → close c ≡ near w h q (seen w low) (y * w + c)) → ((c : ℕ) → both c ≡ (own c && close c)) → RowPut (y + 33) both left left' →
    RowBits (y + 33) (near_bits w h q low left) left left'
drop_row_lem w h q y low left left' own close both z fr ly O N B P = put_bits (y + 33) both (near_bits w h q low left) left left' at P
  where
    e33 : y + 33 - 33 ≡ y
    e33 = omega arith

    at : (c : ℕ) → c < 256 → both c ≡ near_bits w h q low left ((y + 33) * 320 + c)
    at c l = B c ∙ ap (λ (b : Bool). b && close c) (O c ∙ row_bit_lem left (y + 33) c l) ∙ elim (dec_lt c w) [
      | yes a ↦ ap (λ (b : Bool). word_bit left ((y + 33) * 320 + c) && b) (N c a ∙ ap (λ (r : ℕ). near w h q (seen w low) (r * w + c)) (sym e33))
          ∙ sym (near_at w h q low left (y + 33) c (omega arith))
      | no a ↦ split (word_bit left ((y + 33) * 320 + c))
          (λ u. absurd (omega (arith, framed_row w h z left (y + 33) c fr (omega arith) u)))
          (λ u. ap (λ (b : Bool). b && close c) u ∙ sym (near_none w h q low left ((y + 33) * 320 + c) u))
    ]

pub keep_row : (w h q y : ℕ) (low left : List ℕ) (own : ℕ → Bool) → ((c : ℕ) → own c ≡ row_bit left (y + 33) c) → ((c : ℕ) → own c ≡ false) → RowBits (y + 33) (near_bits w h q low left) left left
keep_row w h q y low left own O e =
    kept_bits (y + 33) (near_bits w h q low left) left (λ c l. let u : word_bit left ((y + 33) * 320 + c) ≡ false = sym (row_bit_lem left (y + 33) c l) ∙ sym (O c)
    ∙ e c in near_none w h q low left ((y + 33) * 320 + c) u ∙ sym u)

-- all rows that are gone to
module _ (w h q : ℕ) (ahead low left : List ℕ) (z : Sizes w h) (R : Room w h ahead left) where
  pub drop_start : Upto (get_or ahead 0 0) (near_bits w h q low left) left left
  drop_start = record { inner = λ j x. let u = none_before w h j ahead left z R x in u ∙ sym (near_none w h q low left j u); outer = λ j x. refl }

  pub drop_more : (y y' : ℕ) (mid now : List ℕ) → y < h → y < y' → y' ≡ get_or ahead (y + 1) 0 → RowBits (y + 33) (near_bits w h q low mid) mid now → Upto y (near_bits w h q low left) left mid →
      Upto y' (near_bits w h q low left) left now
  drop_more y y' mid now ly lt e W U =
      upto_row y y' (near_bits w h q low left) (near_bits w h q low mid) left mid now W (λ j a b. near_same w h q low mid left j (U.outer j a)) U
      (λ j a b. let u = gap_none w h y y' j ahead left z R ly e a b in near_none w h q low left j u ∙ sym u) lt

  pub drop_all : (y : ℕ) (now : List ℕ) → h ≤ y → Upto y (near_bits w h q low left) left now → (j : ℕ) → word_bit now j ≡ near_bits w h q low left j
  drop_all y now l U j = elim (dec_lt j ((y + 33) * 320)) [
    | yes a ↦ U.inner j a
    | no a ↦ let u = none_behind w h j left z R.ready (omega arith) in U.outer j (omega arith) ∙ u ∙ sym (near_none w h q low left j u)
  ]

-- what is left afterwards, by its pixels
pub near_seen : (w h q : ℕ) → Sizes w h → (low left left' : List ℕ) → ((j : ℕ) → word_bit left' j ≡ near_bits w h q low left j) → (p : ℕ) → p < h * w →
    seen w left' p ≡ (seen w left p && near w h q (seen w low) p)
near_seen w h q z low left left' e p lp =
    let (lr, lc) = pixel_row w h z p lp in
    seen_is w h z left' p ∙ e (spot (p / w) (p % w)) ∙ near_at w h q low left (p / w + 33) (p % w) (omega (arith, z.w_max))
    ∙ ap₂ ◌&&◌ (sym (seen_is w h z left p)) (ap (near w h q (seen w low)) (let t : p / w + 33 - 33 ≡ p / w = omega arith in ap (λ (r : ℕ). r * w + p % w) t ∙ native.Mathlib.Nat.div-add-mod' p w))

pub near_sub : (w h q : ℕ) (low left left' : List ℕ) → ((j : ℕ) → word_bit left' j ≡ near_bits w h q low left j) → (j : ℕ) → word_bit left' j ≡ true → word_bit left j ≡ true
unfolding near_bits
near_sub w h q low left left' e j u = and_l (word_bit left j) _ (sym (e j) ∙ u)

-- what is done so far has only pixels of what was left
pub near_mid : (w h q y : ℕ) (low left mid : List ℕ) → Framed w h left → Upto y (near_bits w h q low left) left mid → Framed w h mid
unfolding near_bits
near_mid w h q y low left mid fr U j u = elim (dec_lt j ((y + 33) * 320)) [
  | yes a ↦ fr j (and_l (word_bit left j) _ (sym (U.inner j a) ∙ u))
  | no a ↦ fr j (sym (U.outer j (omega arith)) ∙ u)
]
