-- Laws of what is far from a plane: rows that are full or without a pixel within the disc, and the rows between.
use Rattle.std.specs.Prelude.{◌≡◌, refl, Bool, true, false, not, ◌&&◌, List, ℕ, ◌+◌, ◌-◌, ◌*◌, ◌<◌, ◌≤◌, ltb}
use Rattle.std.proofs.Common.{sym, ap, ap₂, ◌∙◌, mul-le-mul, arith, lt-ltb, le-ltb}
use Rattle.std.proofs.Math.Decide.{dec_lt, dec_le, ℕ_discrete}
use Rattle.rules.specs.Planning.{near}
use Rattle.rules.specs.Cleaning.{most_gap}
use Rattle.laws.specs.Neighbours.{near_is}
use Rattle.laws.specs.Tests.{split, clash, and_true, and_false}
use Rattle.words.specs.Words.{word_bit}
use Rattle.planes.specs.Scratch.{Sizes, Framed, seen, row_bit}
use Rattle.planes.specs.PlaneLaws.{seen_at, row_bit_lem, framed_row}
use Rattle.clean.specs.declared.Till.{Till}
use Rattle.clean.specs.Far.{Ahead, FarRow}

-- the bound of a disc is one that near takes
pub disc_small : (c : ℕ) → c ≤ most_gap → c * c ≤ 1024
disc_small c l = mul-le-mul l l

pub ahead_start : (w c : ℕ) (from : List ℕ) → Ahead w c 0 from (record { some = 0; full = 0 })
ahead_start w c from = record { none = λ r j l. absurd (omega arith); full = λ z. absurd (omega arith) }

-- row k is looked at: x are its columns
module _ (w c k : ℕ) (from : List ℕ) (was : Till) (x : ℕ → Bool) (is : (j : ℕ) → x j ≡ row_bit from (k + 33) j) (A : Ahead w c k from was) where
  -- no pixel
  pub look_none : ((j : ℕ) → x j ≡ false) → Ahead w c (k + 1) from was
  look_none e = record {
    none = λ r j l h. elim (ℕ_discrete r k) [ yes z ↦ rw z (sym (is j) ∙ e j) | no z ↦ A.none r j (omega arith) h ];
    full = λ z. let (r, l, e, f) = A.full z in (r, omega arith, e, f);
  }

  -- some, and not all
  pub look_some : Ahead w c (k + 1) from (record { some = k + c + 1; full = was.full })
  look_some = record {
    none = λ r j l h. absurd (omega arith);
    full = λ z. let (r, l, e, f) = A.full z in (r, omega arith, e, f);
  }

  -- all: `rest` are the columns of the image that it does not have
  pub look_full : (all rest : ℕ → Bool) → ((j : ℕ) → all j ≡ ltb j w) → ((j : ℕ) → rest j ≡ (all j && not (x j))) → ((j : ℕ) → rest j ≡ false)
      → Ahead w c (k + 1) from (record { some = k + c + 1; full = k + c + 1 })
  look_full all rest a b e = record {
    none = λ r j l h. absurd (omega arith);
    full = λ z. (k, omega arith, refl, λ j lj. split (row_bit from (k + 33) j) (λ t. t) (λ t. clash (b j ∙ ap₂ (λ (p q : Bool). p && not q) (a j ∙ lt-ltb j w lj) (is j ∙ t)) (e j)));
  }

-- the far pixels of row y, where the rows up to y + c are looked at
module _ (w h c y : ℕ) (z : Sizes w h) (from : List ℕ) (fr : Framed w h from) (ly : y < h) (t : Till) (A : Ahead w c (y + c + 1) from t) where
  -- a full row within the disc: no pixel is far
  pub far_none : y < t.full → (f : ℕ → Bool) → ((j : ℕ) → f j ≡ false) → FarRow w h (c * c) y from f
  far_none l f e j = e j ∙ sym (elim (dec_lt j w) [
    | yes lj ↦ ap (λ (b : Bool). ltb j w && not b) (close j lj) ∙ and_false (ltb j w)
    | no lj ↦ ap (λ (b : Bool). b && not (near w h (c * c) (seen w from) (y * w + j))) (le-ltb j w (omega arith))
  ])
    where
      close : (j : ℕ) → j < w → near w h (c * c) (seen w from) (y * w + j) ≡ true
      close j lj =
          let (r, lr, e, full) = A.full (omega arith) in
          let bit : word_bit from ((r + 33) * 320 + j) ≡ true = sym (row_bit_lem from (r + 33) j (omega (arith, z.w_max))) ∙ full j lj in
          let inside = framed_row w h z from (r + 33) j fr (omega (arith, z.w_max)) bit in
          let d : y - r + (r - y) ≤ c = omega arith in
          let own : j - j ≡ 0 = omega arith in
          (near_is w h (c * c) (seen w from) y j lj).1 (r, j, omega (arith, inside.1), lj, seen_at w h z from r j lj ∙ bit, rw own (omega (arith, mul-le-mul d d)))

  -- no pixel within the disc: all of the image is far
  pub far_all : t.some ≤ y → (f : ℕ → Bool) → ((j : ℕ) → f j ≡ ltb j w) → FarRow w h (c * c) y from f
  far_all l f e j = e j ∙ elim (dec_lt j w) [
    | yes lj ↦ sym (ap (λ (b : Bool). ltb j w && not b) (far j lj) ∙ and_true (ltb j w))
    | no lj ↦ le-ltb j w (omega arith) ∙ sym (ap (λ (b : Bool). b && not (near w h (c * c) (seen w from) (y * w + j))) (le-ltb j w (omega arith)))
  ]
    where
      far : (j : ℕ) → j < w → near w h (c * c) (seen w from) (y * w + j) ≡ false
      far j lj = split (near w h (c * c) (seen w from) (y * w + j))
          (λ u.
          let (s, d, ls, ld, e, b) = (near_is w h (c * c) (seen w from) y j lj).0 u in
          let lr : y - s + (s - y) ≤ c = root (y - s + (s - y)) (omega arith) in
          clash (row_bit_lem from (s + 33) d (omega (arith, z.w_max)) ∙ sym (seen_at w h z from s d ld) ∙ e) (A.none s d (omega arith) (omega arith)))
          (λ u. u)
        where
          root : (a : ℕ) → a * a ≤ c * c → a ≤ c
          root a m = elim (dec_le a c) [ yes p ↦ p | no p ↦ absurd (let q : c + 1 ≤ a = omega arith in omega (arith, mul-le-mul q q)) ]

  -- the rows between: what is not near
  pub far_some : (f all close : ℕ → Bool) → ((j : ℕ) → all j ≡ ltb j w) → ((j : ℕ) → j < w → close j ≡ near w h (c * c) (seen w from) (y * w + j)) → ((j : ℕ) → f j ≡ (all j && not (close j)))
      → FarRow w h (c * c) y from f
  far_some f all close a n e j = e j ∙ elim (dec_lt j w) [
    | yes lj ↦ ap₂ (λ (p q : Bool). p && not q) (a j) (n j lj)
    | no lj ↦ ap (λ (b : Bool). b && not (close j)) (a j ∙ le-ltb j w (omega arith)) ∙ sym (ap (λ (b : Bool). b && not (near w h (c * c) (seen w from) (y * w + j))) (le-ltb j w (omega arith)))
  ]
