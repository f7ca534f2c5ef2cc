-- Laws of a plane in scratch that is packed, row by row; and closing as what is far from what is far.
use Rattle.std.specs.Prelude.{◌≡◌, Bool, false, not, List, ℕ, ◌+◌, ◌-◌, ◌*◌, ◌/◌, ◌%◌, ◌<◌, ◌≤◌, length, get_or}
use Rattle.std.proofs.Common.{sym, ap, subst, ◌∙◌, mul-le-mul, arith}
use Rattle.std.proofs.Math.Decide.{ℕ_discrete}
use Rattle.rules.specs.Images.{Plane, bit_at, row_bytes}
use Rattle.rules.specs.Planning.{near}
use Rattle.rules.specs.Cleaning.{eroded, closed}
use Rattle.laws.specs.Closing.{near_same}
use Rattle.laws.specs.Tests.{split}
use Rattle.image.specs.Bits.{zero_bit}
use Rattle.image.specs.Planes.{row_next}
use Rattle.image.specs.Rows.{packed, Packs}
use Rattle.image.specs.Scratch.{bit_of}
use Rattle.words.specs.Words.{Within}
use Rattle.planes.specs.PlaneLaws.{pixel_row, row_fits, row_bit_lem, seen_is, framed_row}
use Rattle.planes.specs.Scratch.{Sizes, Ready, Drawn, seen, row_bit}
use Rattle.pair.specs.PairLaws.{packs_same}
use Rattle.rings.specs.ByteLaws.{row_bytes_lem}

-- the bytes of row y
pub row_small : (w h n y : ℕ) → Sizes w h → n ≡ row_bytes w → y < h → y * n ≤ 8192
row_small w h n y z en ly =
    let a : y ≤ 256 = omega (arith, z.h_max) in
    let b : n ≤ 32 = omega (arith, row_bytes_lem w h z) in
    mul-le-mul a b

pub row_in : (w h n y len : ℕ) → Sizes w h → n ≡ row_bytes w → y < h → len ≡ h * row_bytes w → (n ≤ 32) × (y * n + n ≤ len)
row_in w h n y len z en ly e = (omega (arith, row_bytes_lem w h z), rw en (omega (arith, row_fits y h (row_bytes w) ly)))

-- the rows before y are packed, and those behind have no bit
pub record Packing (n y : ℕ) (from out : List ℕ) : Type 0 where
  pub done : (r c : ℕ) → r < y → c < n * 8 → bit_of out (r * n * 8 + c) ≡ row_bit from (r + 33) c
  pub bare : (j : ℕ) → y * n * 8 ≤ j → bit_of out j ≡ false

pub pack_none : (n : ℕ) (from out : List ℕ) → ((k : ℕ) → get_or out k 0 ≡ 0) → Packing n 0 from out
unfolding bit_of
pack_none n from out z = record { done = λ r c lr. absurd (omega arith); bare = λ j l. ap (λ (x : ℕ). bit_at x (j % 8)) (z (j / 8)) ∙ zero_bit (j % 8) }

-- one row more
pub pack_more : (n y : ℕ) (from was out : List ℕ) (x : ℕ → Bool) → ((c : ℕ) → x c ≡ row_bit from (y + 33) c)
    → (((j : ℕ) → y * n * 8 ≤ j → j < (y * n + n) * 8 → bit_of was j ≡ false) → Within (y * n * 8) ((y * n + n) * 8) (λ j. x (j - y * n * 8)) (bit_of was) (bit_of out)) →
    Packing n y from was → Packing n (y + 1) from out
pack_more n y from was out x is laid old = record { done = done; bare = λ j l. W.behind j (omega (arith, row_next y n)) ∙ old.bare j (omega (arith, row_next y n)) }
  where
    W : Within (y * n * 8) ((y * n + n) * 8) (λ j. x (j - y * n * 8)) (bit_of was) (bit_of out)
    W = laid (λ j lo hi. old.bare j lo)

    done : (r c : ℕ) → r < y + 1 → c < n * 8 → bit_of out (r * n * 8 + c) ≡ row_bit from (r + 33) c
    done r c lr lc = elim (ℕ_discrete r y) [
      | yes e ↦
          let z : y * n * 8 + c - y * n * 8 ≡ c = omega arith in
          subst (λ (k : ℕ). bit_of out (k * n * 8 + c) ≡ row_bit from (k + 33) c) (sym e) (W.inner (y * n * 8 + c) (omega arith) (omega arith) ∙ ap x z ∙ is c)
      | no e ↦ W.before (r * n * 8 + c) (omega (arith, row_fits r y n (omega arith))) ∙ old.done r c (omega arith) lc
    ]

-- all rows
pub pack_all : (w h n y : ℕ) (from out : List ℕ) → Sizes w h → n ≡ row_bytes w → Ready w h from → h ≤ y → length out ≡ h * row_bytes w → Packing n y from out → Packs w h (seen w from) out
unfolding packed
pack_all w h n y from out z en R ly long all = record {
  clean = record {
    long = long;
    clear = λ r c lr wc lc.
        at r c lr lc ∙ split (row_bit from (r + 33) c)
        (λ t. absurd (omega (arith, framed_row w h z from (r + 33) c R.framed (omega (arith, row_bytes_lem w h z)) (sym (row_bit_lem from (r + 33) c (omega (arith, row_bytes_lem w h z))) ∙ t))))
        (λ t. t);
  };
  pixels = λ p lp.
      let (lr, lc) = pixel_row w h z p lp in
      at (p / w) (p % w) lr (omega (arith, row_bytes_lem w h z)) ∙ row_bit_lem from (p / w + 33) (p % w) (omega (arith, z.w_max)) ∙ sym (seen_is w h z from p);
}
  where
    at : (r c : ℕ) → r < h → c < row_bytes w * 8 → bit_of out (r * row_bytes w * 8 + c) ≡ row_bit from (r + 33) c
    at r c lr lc = subst (λ (k : ℕ). bit_of out (r * k * 8 + c) ≡ row_bit from (r + 33) c) en (all.done r c (omega arith) (rw en lc))

-- what is far from what is far
far_far : (w h q : ℕ) (f : Plane) (a b a' : List ℕ) → Drawn w h f a → Drawn w h (λ p. not (near w h q (seen w a) p)) b → Drawn w h (λ p. not (near w h q (seen w b) p)) a' →
    (p : ℕ) → p < h * w → seen w a' p ≡ closed w h q f p
unfolding closed eroded
far_far w h q f a b a' A B A' p lp =
    A'.is p lp
    ∙ ap not (near_same w h q (seen w b) (λ o. not (near w h q f o)) (λ o lo. B.is o lo ∙ ap not (near_same w h q (seen w a) f A.is o)) p)

pub packs_far : (w h q : ℕ) (f : Plane) (a b a' out : List ℕ) → Sizes w h → Drawn w h f a → Drawn w h (λ p. not (near w h q (seen w a) p)) b → Drawn w h (λ p. not (near w h q (seen w b) p)) a' →
    Packs w h (seen w a') out → Packs w h (closed w h q f) out
packs_far w h q f a b a' out z A B A' = packs_same w h z.w_min (seen w a') (closed w h q f) out (far_far w h q f a b a' A B A')
