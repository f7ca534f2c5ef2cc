-- Laws of planes read from packed bytes, row by row.
use Rattle.std.specs.Prelude.{◌≡◌, refl, Bool, true, false, List, ℕ, ◌+◌, ◌-◌, ◌*◌, ◌/◌, ◌%◌, ◌<◌, ◌≤◌, length}
use Rattle.std.proofs.Math.Path.{sym, ap, ap₂}
use Rattle.std.proofs.Common.{◌∙◌, mul-le-mul}
use Rattle.std.proofs.Math.Bool.{◌&&◌}
use Rattle.std.proofs.Math.Nat.{div-add-mod'}
use native.Mathlib.Omega.{arith}
use Rattle.std.proofs.Math.Decide.{dec_lt}
use borrow.Author.Tests.{lt-ltb, le-ltb, ltb-true, le-leb, leb-true}
use Rattle.std.proofs.Math.Arith.{digits_div, digits_mod}
use Rattle.std.proofs.Math.Dec.{ltb, leb}
use Rattle.rules.specs.Images.{Plane, row_bytes}
use Rattle.laws.specs.Tests.{split, and_l, and_r, and_false}
use Rattle.image.specs.Rows.{packed, Clean}
use Rattle.image.specs.Scratch.{bit_of}
use Rattle.words.specs.Words.{word_bit, row_part}
use Rattle.planes.specs.PlaneLaws.{seen_is, pixel_row, row_fits}
use Rattle.planes.specs.Scratch.{spot, Sizes, Pixel, Ready, Drawn, RowPut}
use Rattle.waves.specs.RowLaws.{put_bits, upto_row}
use Rattle.waves.specs.Rows.{Upto}
use Rattle.rings.specs.NearRings.{pixel_bits}

-- the bytes of a row fit four words
pub row_bytes_lem : (w h : ℕ) → Sizes w h → (row_bytes w ≤ 32) × (w ≤ row_bytes w * 8)
unfolding row_bytes
row_bytes_lem w h z = (omega (arith, z.w_max), omega arith)

-- row y of a packed plane
module _ (w h n y : ℕ) (s : List ℕ) (z : Sizes w h) (en : n ≡ row_bytes w) (cl : Clean w h s) (ly : y < h) where
  pub row_at_lem : (y * n + n ≤ length s) × (n ≤ 32)
  row_at_lem = (rw en (omega (arith, cl.long, row_fits y h (row_bytes w) ly)), omega (arith, row_bytes_lem w h z))

  -- its first byte has a place within 8,192
  pub row_place : y * n ≤ 8192
  row_place =
      let a : y ≤ 256 = omega (arith, z.h_max) in
      let b : n ≤ 32 = omega (arith, row_bytes_lem w h z) in
      let m : y * n ≤ 256 * 32 = mul-le-mul a b in
      omega arith

  packed_at : (c : ℕ) → c < w → packed w s (y * w + c) ≡ bit_of s (y * n * 8 + c)
  unfolding packed
  packed_at c lc = rw (digits_div y lc, digits_mod y lc, en)

  pub row_column : (f : ℕ → Bool) → ((c : ℕ) → f c ≡ row_part s (y * n) n c) → (c : ℕ) → f c ≡ (ltb c w && packed w s (y * w + c))
  unfolding row_part
  row_column f F c = F c ∙ elim (dec_lt c w) [
    | yes a ↦ ap₂ ◌&&◌ (lt-ltb c (n * 8) (omega (arith, row_bytes_lem w h z)) ∙ sym (lt-ltb c w a)) (sym (packed_at c a))
    | no a ↦ elim (dec_lt c (n * 8)) [
      | yes b ↦
          ap (λ (t : Bool). ltb c (n * 8) && t) (ap (bit_of s) (rw en) ∙ cl.clear y c ly (omega arith) (rw en at b)) ∙ and_false (ltb c (n * 8))
          ∙ sym (ap (λ (t : Bool). t && packed w s (y * w + c)) (le-ltb c w (omega arith)))
      | no b ↦ ap (λ (t : Bool). t && bit_of s (y * n * 8 + c)) (le-ltb c (n * 8) (omega arith)) ∙ sym (ap (λ (t : Bool). t && packed w s (y * w + c)) (le-ltb c w (omega arith)))
    ]
  ]

-- planes by their bits ------------------------------------------------------------------------------------------------------

module _ (w h : ℕ) (f : Plane) where
  pub bits_at : (y c : ℕ) → y < h → c < 320 → pixel_bits w h f ((y + 33) * 320 + c) ≡ (ltb c w && f (y * w + c))
  unfolding pixel_bits
  bits_at y c ly lc =
      let e : y + 33 - 33 ≡ y = omega arith in
      ap₂ (λ (k d : ℕ). leb 33 k && ltb (k - 33) h && ltb d w && f ((k - 33) * w + d)) (digits_div (y + 33) lc) (digits_mod (y + 33) lc)
      ∙ ap (λ (r : ℕ). leb 33 (y + 33) && ltb r h && ltb c w && f (r * w + c)) e
      ∙ ap₂ (λ (a b : Bool). a && b && ltb c w && f (y * w + c)) (le-leb 33 (y + 33) (omega arith)) (lt-ltb y h ly)

  -- a set bit is a pixel
  pub bits_pixel : (j : ℕ) → pixel_bits w h f j ≡ true → Pixel w h j × (f ((j / 320 - 33) * w + j % 320) ≡ true)
  unfolding pixel_bits
  bits_pixel j u =
      let a = and_l (leb 33 (j / 320) && ltb (j / 320 - 33) h && ltb (j % 320) w) _ u in
      let b = and_l (leb 33 (j / 320) && ltb (j / 320 - 33) h) _ a in
      let k : 33 ≤ j / 320 = leb-true 33 (j / 320) (and_l (leb 33 (j / 320)) _ b) in
      let z = div-add-mod' j 320 in (
        record {
          row = j / 320 - 33;
          column = j % 320;
          row_in = ltb-true (j / 320 - 33) h (and_r (leb 33 (j / 320)) _ b);
          column_in = ltb-true (j % 320) w (and_r (leb 33 (j / 320) && ltb (j / 320 - 33) h) _ a);
          here = omega arith;
        },
        and_r (leb 33 (j / 320) && ltb (j / 320 - 33) h && ltb (j % 320) w) _ u,
      )

  pub bits_off : (j : ℕ) → (Pixel w h j → ⊥) → pixel_bits w h f j ≡ false
  bits_off j n = split (pixel_bits w h f j) (λ u. absurd (n (bits_pixel j u).0)) (λ u. u)

  pub drawn_bits : Sizes w h → (l : List ℕ) → length l ≡ 1610 → ((j : ℕ) → word_bit l j ≡ pixel_bits w h f j) → Drawn w h f l
  drawn_bits z l e b = record {
    ready = record { long = e; framed = λ j u. (bits_pixel j (sym (b j) ∙ u)).0 };
    is = λ p lp.
        let (lr, lc) = pixel_row w h z p lp in
        seen_is w h z l p ∙ b (spot (p / w) (p % w)) ∙ bits_at (p / w) (p % w) lr (omega (arith, z.w_max))
        ∙ ap₂ ◌&&◌ (lt-ltb (p % w) w lc) (ap f (div-add-mod' p w));
  }

  -- a plane read from row to row
  module _ (z : Sizes w h) (out : List ℕ) (R : Ready w h out) where
    off : (j : ℕ) → (Pixel w h j → ⊥) → word_bit out j ≡ false
    off j n = split (word_bit out j) (λ u. absurd (n (R.framed j u))) (λ u. u)

    pub read_start : Upto 0 (pixel_bits w h f) out out
    read_start = record { inner = λ j x. off j (λ P. omega (arith, P.here)) ∙ sym (bits_off j (λ P. omega (arith, P.here))); outer = λ j x. refl }

    pub read_more : (y : ℕ) (x : ℕ → Bool) (mid now : List ℕ) → y < h → ((c : ℕ) → x c ≡ (ltb c w && f (y * w + c))) → RowPut (y + 33) x mid now → Upto y (pixel_bits w h f) out mid →
        Upto (y + 1) (pixel_bits w h f) out now
    read_more y x mid now ly X P U =
        upto_row y (y + 1) (pixel_bits w h f) (pixel_bits w h f) out mid now (put_bits (y + 33) x (pixel_bits w h f) mid now (λ c l. X c ∙ sym (bits_at y c ly (omega arith))) P) (λ j a b. refl) U
        (λ j a b. bits_off j (λ P. omega (arith, P.here, P.column_in, z.w_max)) ∙ sym (off j (λ P. omega (arith, P.here, P.column_in, z.w_max)))) (omega arith)

    pub read_all : (y : ℕ) (now : List ℕ) → h ≤ y → length now ≡ length out → Upto y (pixel_bits w h f) out now → Drawn w h f now
    read_all y now l e U = drawn_bits z now (e ∙ R.long) (λ j. elim (dec_lt j ((y + 33) * 320)) [
      | yes a ↦ U.inner j a
      | no a ↦ U.outer j (omega arith) ∙ off j (λ P. omega (arith, P.here, P.row_in, P.column_in, z.w_max)) ∙ sym (bits_off j (λ P. omega (arith, P.here, P.row_in, P.column_in, z.w_max)))
    ])
