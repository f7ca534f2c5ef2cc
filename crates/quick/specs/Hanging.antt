-- Laws of the bytes of a pair: without shadow, and without support that hangs.
use Rattle.std.specs.Prelude.{◌≡◌, refl, Bool, true, false, not, ◌&&◌, ◌||◌, List, ℕ, ◌+◌, ◌*◌, ◌/◌, ◌%◌, ◌<◌, eqb, get_or}
use Rattle.std.proofs.Common.{arith}
use Rattle.std.proofs.Math.Arith.{digits_div, digits_mod}
use borrow.Author.Tests.{ne_eqb}
use Rattle.rules.specs.Images.{row_bytes, bit_at}
use Rattle.rules.specs.Planning.{shadow}
use Rattle.laws.specs.Tests.{clash}
use Rattle.image.specs.Packed.{row_bit_lem}
use Rattle.image.specs.Rows.{packed}
use Rattle.places.specs.Search.{unheld_here}
use Rattle.places.specs.Rows.{byte_of_lem}
use Rattle.quick.specs.Sureness.{NoShadow, NoneHangs, Shadeless}

and_none : (a b : Bool) → (a && false && b) ≡ false
and_none true b = refl
and_none false b = refl

-- the four planes at a pixel, and whether it is bare of a ring
held_cases : (low up below above bare : Bool) → (above && not (low || below)) ≡ false → ((up && not low) ≡ true → below ≡ false → bare ≡ false) →
    ((up || above) && not (low || below) && bare) ≡ false
held_cases true up below above bare e f = and_none (up || above) bare
held_cases false up true above bare e f = and_none (up || above) bare
held_cases false true false above bare e f = f refl refl
held_cases false false false true bare e f = clash refl e
held_cases false false false false bare e f = refl

lacks_cases : (low up below : Bool) → (up && not (low || below)) ≡ false → (up && not low) ≡ true → below ≡ false → ⊥
lacks_cases true true below e s b = clash s refl
lacks_cases false true true e s b = clash refl b
lacks_cases false true false e s b = clash refl e
lacks_cases low false below e s b = clash s refl

-- no pixel of a row is in the shadow where none of its bytes is
pub dark_row : (w rb r : ℕ) → rb ≡ row_bytes w → (low up : List ℕ) → ((j : ℕ) → j < rb → NoShadow low up (r * rb + j)) → Shadeless w low up r
unfolding shadow packed row_bytes
dark_row w rb r e low up none c l =
    let b : c / 8 < rb = omega arith in
    rw (digits_div r l, digits_mod r l, ← e, row_bit_lem low (r * rb) c, row_bit_lem up (r * rb) c) (none (c / 8) b (c % 8) (omega arith))

module _ (w h n : ℕ) (e : n ≡ h * row_bytes w) where
  at_byte : (s : List ℕ) (p : ℕ) → packed w s p ≡ bit_at (get_or s (p / w * row_bytes w + p % w / 8) 0) (p % w % 8)
  unfolding packed
  at_byte s p = row_bit_lem s (p / w * row_bytes w) (p % w)

  pub no_shadow : (low up : List ℕ) → ((j : ℕ) → j < n → NoShadow low up j) → (p : ℕ) → p < h * w → shadow (packed w low) (packed w up) p ≡ false
  unfolding shadow
  no_shadow low up none p l = rw (at_byte low p, at_byte up p) (none (p / w * row_bytes w + p % w / 8) (byte_of_lem w h n p e l) (p % w % 8) (omega arith))

  none_hung : (low below above : List ℕ) → ((j : ℕ) → j < n → NoneHangs low below above j) → (p : ℕ) → p < h * w → (packed w above p && not (packed w low p || packed w below p)) ≡ false
  none_hung low below above none p l =
      rw (at_byte low p, at_byte below p, at_byte above p) (none (p / w * row_bytes w + p % w / 8) (byte_of_lem w h n p e l) (p % w % 8) (omega arith))

  -- nothing is unheld where each shadow pixel without support below has a ring, and no support hangs
  pub all_held : (low up below above : List ℕ) (ring : ℕ → ℕ) → ((j : ℕ) → j < n → NoneHangs low below above j)
      → ((p : ℕ) → p < h * w → shadow (packed w low) (packed w up) p ≡ true → packed w below p ≡ false → 0 < ring p)
      → (p : ℕ) → p < h * w → unheld_here (packed w low) (packed w up) (packed w below) (packed w above) ring p ≡ false
  unfolding unheld_here shadow
  all_held low up below above ring none held p l =
      held_cases (packed w low p) (packed w up p) (packed w below p) (packed w above p) (eqb (ring p) 0) (none_hung low below above none p l)
      (λ s b. ne_eqb (ring p) 0 (λ z. omega (arith, held p l s b)))

  -- no shadow pixel lacks support below where the upper layer hangs nowhere
  pub none_lacks : (low up below : List ℕ) → ((j : ℕ) → j < n → NoneHangs low below up j) → (p : ℕ) → p < h * w → shadow (packed w low) (packed w up) p ≡ true → packed w below p ≡ false → ⊥
  unfolding shadow
  none_lacks low up below none p l s b = lacks_cases (packed w low p) (packed w up p) (packed w below p) (none_hung low below up none p l) s b
