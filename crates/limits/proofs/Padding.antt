-- Padding: the mask of the unused bits, and the last byte of each row.
use mathlib.Core.Path.{◌≡◌, sym, ◌∙◌}
use mathlib.Core.Bool.{true, false, not}
use mathlib.Core.List.{List}
use Prim.Native.Nat.{ℕ, zero, suc, ◌+◌, ◌-◌, ◌*◌, ◌/◌, ◌%◌, ◌^◌, ◌≤◌, ◌<◌}
use native.Mathlib.Omega.{arith}
use native.Mathlib.Nat.{mul-le-mul}
use lib.Dec.{eqb}
use lib.ListN.{get_or}
use borrow.Author.Tests.{eq-eqb, ne_eqb}
use Rattle.rules.specs.Tools.{some}
use Rattle.rules.specs.Images.{row_bytes, rows_of, padded, padding_set, first_padded}
use Rattle.rules.specs.Calls.{tell_row}
use Rattle.rules.specs.declared.Settings.{Settings}
use Rattle.rules.specs.declared.Refusal.TheVariants.{InRow}
use Rattle.laws.specs.Tests.{some_none}
use Rattle.limits.specs.Padding.{PaddingRow, row_first}
use lib.Bits.{bit_and, and_mask}

pub power_small : (k : ℕ) → k < 8 → (1 ≤ 2 ^ k) × (2 ^ k < 256)
power_small zero l = (omega arith, omega arith)
power_small (suc zero) l = (omega arith, omega arith)
power_small (suc (suc zero)) l = (omega arith, omega arith)
power_small (suc (suc (suc zero))) l = (omega arith, omega arith)
power_small (suc (suc (suc (suc zero)))) l = (omega arith, omega arith)
power_small (suc (suc (suc (suc (suc zero))))) l = (omega arith, omega arith)
power_small (suc (suc (suc (suc (suc (suc zero)))))) l = (omega arith, omega arith)
power_small (suc (suc (suc (suc (suc (suc (suc zero))))))) l = (omega arith, omega arith)
power_small (suc (suc (suc (suc (suc (suc (suc (suc k)))))))) l = absurd (omega arith)

-- the padding of row k, as a number
abbrev pub pad_of : ℕ → List ℕ → ℕ → ℕ
pad_of w s k = get_or s (k * row_bytes w + (row_bytes w - 1)) 0 % 2 ^ (8 * row_bytes w - w)

-- the last byte of a row is one of the k rows' bytes
pub last_in : (w k row rb at len : ℕ) → 1 ≤ w → rb ≡ row_bytes w → at ≡ row * rb + (rb - 1) → row < k → k * row_bytes w ≤ len → at < len
unfolding row_bytes
last_in w k row rb at len lw er ea l h =
    let z : at ≡ row * row_bytes w + (row_bytes w - 1) = ea ∙ rw er in
    let p : (row + 1) * row_bytes w ≤ k * row_bytes w = mul-le-mul (omega arith) (omega arith) in
    let q : (row + 1) * row_bytes w ≡ row * row_bytes w + row_bytes w = omega arith in
    let o : 1 ≤ row_bytes w = omega arith in
    omega arith

module _ (w : ℕ) (s : List ℕ) (row at rb mask : ℕ) (er : rb ≡ row_bytes w) (ea : at ≡ row * rb + (rb - 1)) (em : mask ≡ 2 ^ (rb * 8 - w) - 1) where
  last_byte : bit_and (get_or s at 0) mask ≡ pad_of w s row
  last_byte =
      let z : at ≡ row * row_bytes w + (row_bytes w - 1) = ea ∙ rw er in
      let p : rb * 8 - w ≡ 8 * row_bytes w - w = omega arith in
      rw (em, p, z) (and_mask (get_or s (row * row_bytes w + (row_bytes w - 1)) 0) (8 * row_bytes w - w))

  -- this row has padding set, and none before it
  pub pad_hit : (k : ℕ) → row < k → padding_set w row s ≡ false → (bit_and (get_or s at 0) mask ≡ 0 → ⊥) → PaddingRow w k s row
  unfolding padded padding_set some
  pad_hit k l b ne = record { most = omega arith; before = b; there = λ x. rw (ne_eqb (pad_of w s row) 0 (λ z. ne (last_byte ∙ z))) }

  -- nor has this one
  pub pad_more : padding_set w row s ≡ false → bit_and (get_or s at 0) mask ≡ 0 → padding_set w (row + 1) s ≡ false
  unfolding padded padding_set some
  pad_more b e = let z : row + 1 ≡ suc row = omega arith in rw (z, eq-eqb (pad_of w s row) 0 (sym last_byte ∙ e)) b

pub pad_none : (w k : ℕ) (s : List ℕ) (row : ℕ) → k ≤ row → row ≤ k → padding_set w row s ≡ false → PaddingRow w k s k
pad_none w k s row l m b = let e : row ≡ k = omega arith in record { most = omega arith; before = rw (← e) b; there = λ x. absurd (omega arith) }

-- rows of whole bytes have no padding
pub pad_whole : (w k : ℕ) (s : List ℕ) (rb pad : ℕ) → rb ≡ row_bytes w → pad ≡ rb * 8 - w → pad ≡ 0 → PaddingRow w k s k
unfolding padded padding_set
pad_whole w k s rb pad er ep z =
    let p : 8 * row_bytes w - w ≡ 0 = omega arith in
    let b : some k (λ x. not (eqb (pad_of w s x) 0)) ≡ false =
    some_none k (λ x. not (eqb (pad_of w s x) 0)) (λ x b. rw (p, eq-eqb (get_or s (x * row_bytes w + (row_bytes w - 1)) 0 % 1) 0 (omega arith))) in
    record { most = omega arith; before = b; there = λ x. absurd (omega arith) }

-- the place of the row that was found
pub row_is : (s : Settings) (l : List ℕ) (k rows r : ℕ) → rows ≡ rows_of s → PaddingRow s.w rows l r → padding_set s.w (rows_of s) l ≡ true →
    InRow k (record { layer = r / s.h; row = r % s.h }) ≡ tell_row s.h k (first_padded s l)
unfolding tell_row first_padded
row_is s l k rows r e v p = rw (row_first s.w (rows_of s) l r (rw e at v) p)
