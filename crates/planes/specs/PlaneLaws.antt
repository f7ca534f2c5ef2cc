-- Laws of planes in scratch: where a pixel's bit stands, and rows of a plane read and put.
use Rattle.std.specs.Prelude.{◌≡◌, Bool, true, false, ◌&&◌, ◌||◌, List, ℕ, suc, ◌+◌, ◌-◌, ◌*◌, ◌/◌, ◌%◌, ◌<◌, ◌≤◌, get_or, replicate}
use Rattle.std.proofs.Math.Path.{refl}
use Rattle.std.proofs.Common.{sym, ap, ap₂, ◌∙◌, div-lt_iff_lt-mul, mod-lt, suc-mul, mul-le-mul_right, mul-le-mul, add-mul, one-mul, arith, lt-ltb}
use Rattle.std.proofs.Math.Decide.{dec_lt}
use Rattle.std.proofs.Math.Arith.{digits_div, digits_mod, digits_lt}
use lib.Dec.{ltb}
use Rattle.std.proofs.lemmas.List.{length-replicate, get_or-replicate}
use Rattle.std.proofs.Math.ListN.{get_or-eq_default}
use Rattle.laws.specs.Tests.{clash}
use Rattle.words.specs.Words.{word_bit, column, flat, place, row_at, beside, Within}
use Rattle.words.specs.declared.Row.{Row}
use Rattle.words.specs.Digits.{place_zero}
use Rattle.words.specs.RowLaws.{column_end}
use Rattle.planes.specs.Scratch.{spot, Sizes, Pixel, Framed, seen, Ready, row_bit, stacked, fresh, RowPut}

pub row_next : (r w : ℕ) → (r + 1) * w ≡ r * w + w
row_next r w = add-mul r 1 w ∙ ap (λ (x : ℕ). r * w + x) (one-mul w)

pub row_fits : (k h w : ℕ) → k < h → k * w + w ≤ h * w
row_fits k h w z = let t : suc k * w ≤ h * w = mul-le-mul_right w z in omega (arith, suc-mul k w)

pub plane_max : (w h : ℕ) → Sizes w h → h * w ≤ 65536
plane_max w h z = let m : h * w ≤ 256 * 256 = mul-le-mul z.h_max z.w_max in omega arith

module _ (w h : ℕ) (z : Sizes w h) where
  pub pixel_row : (p : ℕ) → p < h * w → (p / w < h) × (p % w < w)
  pixel_row p lp = ((div-lt_iff_lt-mul z.w_min).1 lp, mod-lt p z.w_min)

  pub seen_at : (l : List ℕ) (r c : ℕ) → c < w → seen w l (r * w + c) ≡ word_bit l (spot r c)
  unfolding seen
  seen_at l r c lc = rw (digits_div r lc, digits_mod r lc)

  pub seen_is : (l : List ℕ) (p : ℕ) → seen w l p ≡ word_bit l (spot (p / w) (p % w))
  unfolding seen
  seen_is l p = refl

  -- the pixel that a set bit is
  pub seen_pixel : (l : List ℕ) (j : ℕ) (P : Pixel w h j) → (P.row * w + P.column < h * w) × (seen w l (P.row * w + P.column) ≡ word_bit l j)
  seen_pixel l j P = (digits_lt P.row_in P.column_in, seen_at l P.row P.column P.column_in ∙ ap (word_bit l) (sym P.here))

  -- a bit beyond the columns of the rows is no pixel's
  pub framed_row : (l : List ℕ) (k c : ℕ) → Framed w h l → c < 320 → word_bit l (k * 320 + c) ≡ true → (33 ≤ k) × (k < h + 33) × (c < w)
  framed_row l k c fr lc e =
      let P = fr (k * 320 + c) e in
      let x : P.row + 33 ≡ k = omega (arith, P.here, P.column_in, z.w_max) in
      let y : P.column ≡ c = omega (arith, P.here, P.column_in, z.w_max) in
      (omega arith, omega (arith, P.row_in), omega (arith, P.column_in))

-- a row has 256 columns
pub column_in : (x : Row) (c : ℕ) → column x c ≡ true → c < 256
unfolding column
column_in x c e = elim (dec_lt c 256) [ yes l ↦ l | no l ↦ clash e (column_end x.a x.b x.c x.d c (omega arith)) ]

-- the words of row k
pub row_words : (l : List ℕ) (k c : ℕ) → row_at l (k * 5) c ≡ row_bit l k c
unfolding row_at row_bit
row_words l k c = ap (λ (j : ℕ). ltb c 256 && word_bit l j) (omega arith)

pub put_words_lem : (k : ℕ) (g : ℕ → Bool) (was now : List ℕ) → Within (k * 5 * 64) ((k * 5 + 4) * 64) (λ j. g (j - k * 5 * 64)) (word_bit was) (word_bit now) → RowPut k g was now
put_words_lem k g was now W = record {
  inner = λ j x y. W.inner j (omega arith) (omega arith) ∙ ap g (omega arith);
  before = λ j x. W.before j (omega arith);
  behind = λ j x. W.behind j (omega arith);
}

pub row_bit_lem : (l : List ℕ) (k c : ℕ) → c < 256 → row_bit l k c ≡ word_bit l (k * 320 + c)
unfolding row_bit
row_bit_lem l k c h = ap (λ (b : Bool). b && word_bit l (k * 320 + c)) (lt-ltb c 256 h)

pub fresh_at : (from left : List ℕ) (k c : ℕ) → c < 320 → fresh from left (k * 320 + c) ≡ (beside 1 (stacked from k) c && word_bit left (k * 320 + c))
unfolding fresh
fresh_at from left k c h = rw (digits_div k h, digits_mod k h)

pub fresh_in : (from left : List ℕ) (j : ℕ) → fresh from left j ≡ true → word_bit left j ≡ true
unfolding fresh
fresh_in from left j e = Rattle.laws.specs.Tests.and_r (beside 1 (stacked from (j / 320)) (j % 320)) _ e

pub fresh_none : (from left : List ℕ) (j : ℕ) → word_bit left j ≡ false → fresh from left j ≡ false
unfolding fresh
fresh_none from left j e = ap (λ (b : Bool). beside 1 (stacked from (j / 320)) (j % 320) && b) e ∙ Rattle.laws.specs.Tests.and_false (beside 1 (stacked from (j / 320)) (j % 320))

-- `fresh_row`, from its rows
pub fresh_columns : (from left : List ℕ) (k : ℕ) (u o d t v l r : ℕ → Bool) → ((c : ℕ) → u c ≡ row_bit from (k - 1) c) → ((c : ℕ) → o c ≡ row_bit from k c) → ((c : ℕ) → d c ≡ row_bit from (k + 1) c)
    → ((c : ℕ) → t c ≡ ((u c || o c) || d c)) → ((c : ℕ) → c < 256 → v c ≡ beside 1 t c) → ((c : ℕ) → l c ≡ row_bit left k c) → ((c : ℕ) → r c ≡ (v c && l c))
    → (c : ℕ) → c < 256 → r c ≡ fresh from left (k * 320 + c)
unfolding beside stacked
fresh_columns from left k u o d t v l r Uu Oo Dd Tt Vv Ll Rr c lc =
    Rr c ∙ ap₂ ◌&&◌ (Vv c lc ∙ ap₂ ◌||◌ (ap₂ ◌||◌ (all c) (all (c + 1))) (ap (λ (b : Bool). lib.Dec.leb 1 c && b) (all (c - 1)))) (Ll c ∙ row_bit_lem left k c lc)
    ∙ sym (fresh_at from left k c (omega arith))
  where
    all : (x : ℕ) → t x ≡ (row_bit from (k - 1) x || row_bit from k x || row_bit from (k + 1) x)
    all x = Tt x ∙ ap₂ ◌||◌ (ap₂ ◌||◌ (Uu x) (Oo x)) (Dd x)

-- zeros are room for a plane
pub zero_bits : (j : ℕ) → word_bit (replicate {A = ℕ} 1610 0) j ≡ false
unfolding flat
zero_bits j = ap (λ (x : ℕ). place x (63 - j % 64)) (none (j / 64)) ∙ place_zero (63 - j % 64)
  where
    none : (i : ℕ) → get_or (replicate {A = ℕ} 1610 0) i 0 ≡ 0
    none i = elim (dec_lt i 1610) [
      | yes l ↦ get_or-replicate 1610 i 0 0 l
      | no l ↦ get_or-eq_default (replicate {A = ℕ} 1610 0) 0 {n = i} (omega (arith, length-replicate {A = ℕ} 1610 0))
    ]

pub zero_ready : (w h : ℕ) → Ready w h (replicate 1610 0)
zero_ready w h = record { long = length-replicate {A = ℕ} 1610 0; framed = λ j u. clash u (zero_bits j) }
