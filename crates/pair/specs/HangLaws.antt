-- Laws of a pair with shadow, in scratch: its rings, what of its support is excused, and scratch afterwards.
use Rattle.std.specs.Prelude.{◌≡◌, Bool, ◌&&◌, ◌||◌, ℕ, ◌+◌, ◌*◌, ◌/◌, ◌%◌, ◌<◌, length, get_or}
use Rattle.std.proofs.Math.Path.{refl, ap₂}
use Rattle.std.proofs.Common.{sym, ap, ◌∙◌, mul_assoc, arith, ltb-true}
use Rattle.std.proofs.Math.Bool.{true, false, not}
use mathlib.Core.List.{List}
use Rattle.std.proofs.Math.Arith.{digits_div, digits_mod}
use Rattle.std.proofs.Math.Dec.{ltb}
use Rattle.rules.specs.Images.{row_bytes}
use Rattle.rules.specs.Planning.{shadow, seeds, reached}
use Rattle.laws.specs.Tests.{split, clash, and_l, and_r, not_out}
use Rattle.image.specs.Rows.{packed, Packs}
use Rattle.image.specs.Scratch.{bit_of}
use Rattle.words.specs.Words.{word_bit}
use Rattle.planes.specs.PlaneLaws.{pixel_row, row_fits, seen_is, seen_pixel}
use Rattle.planes.specs.Scratch.{Sizes, Drawn, seen}
use Rattle.waves.specs.Fronts.{WavePlanes, Waved}
use Rattle.waves.specs.Rows.{Aheads, Room}
use Rattle.rings.specs.ByteLaws.{row_bytes_lem}
use Rattle.rings.specs.EndLaws.{waved_none, ring_over}
use Rattle.rings.specs.NearRings.{Apart, Rooms, Whole, near_in}
use Rattle.pair.specs.ExcuseLaws.{ExcusedTo}
use Rattle.pair.specs.Found.{Empty, Spare, packed_bit}
use Rattle.pair.specs.FoundLaws.{empty_room}
use Rattle.pair.specs.Pairs.{pair_rings, unexcused, pair_support}

-- what was excused: no bit is new, and the pixels with a ring are gone
pub record Excused (w h : ℕ) (ring was now : List ℕ) : Type 0 where
  pub fewer : (j : ℕ) → j < h * row_bytes w * 8 → bit_of now j ≡ true → bit_of was j ≡ true
  pub pixels : (p : ℕ) → p < h * w → packed w now p ≡ (packed w was p && not (ltb 0 (get_or ring p 0)))

module _ (w h n q : ℕ) (z : Sizes w h) (low up : List ℕ) where
  pub pair_apart : Apart w h (shadow (packed w low) (packed w up)) (seeds (packed w low) (packed w up))
  unfolding shadow seeds
  pair_apart p lp a b = clash (and_l (packed w low p) _ b) (not_out (packed w low p) (and_r (packed w up p) _ a))

  pub seeds_below : (p : ℕ) → p < h * w → seeds (packed w low) (packed w up) p ≡ true → packed w low p ≡ true
  unfolding seeds
  seeds_below p lp e = and_l (packed w low p) _ e

  module _ (ahead left seed got ring : List ℕ) (A : Aheads h ahead) (Rl : Room w h ahead left) (Dl : Drawn w h (shadow (packed w low) (packed w up)) left)
      (Ds : Drawn w h (seeds (packed w low) (packed w up)) seed) (E : Empty got) (long : length ring ≡ h * w) where
    pub hang_afloat : WavePlanes w h ahead seed left got ring
    hang_afloat = record {
      sizes = z;
      aheads = A;
      front_ready = Ds.ready;
      left_room = Rl;
      got_room = empty_room w h ahead got E;
      ring_long = long;
      apart = λ j a b.
          let P = Rl.ready.framed j a in
          let (lp, ea) = seen_pixel w h z left j P in
          let (lq, eb) = seen_pixel w h z seed j P in
          pair_apart (P.row * w + P.column) lp (sym (Dl.is _ lp) ∙ ea ∙ a) (sym (Ds.is _ lp) ∙ eb ∙ b);
    }

    pub hang_waved : ((p : ℕ) → p < h * w → get_or ring p 0 ≡ 0) → Waved w h 0 (shadow (packed w low) (packed w up)) (seeds (packed w low) (packed w up)) seed left got ring
    hang_waved zeros = waved_none w h z _ _ seed left got ring long zeros E.none Ds.is Dl.is

  pub hang_rings : (got ring : List ℕ) → Whole w h (near_in w h q (packed w low) (shadow (packed w low) (packed w up))) (seeds (packed w low) (packed w up)) got ring →
      ring ≡ pair_rings w h q (packed w low) (packed w up)
  unfolding pair_rings reached near_in
  hang_rings got ring W = W.rings

  -- a pixel with a ring hangs
  pub ring_hangs : (p : ℕ) → p < h * w → ltb 0 (get_or (pair_rings w h q (packed w low) (packed w up)) p 0) ≡ true → packed w up p ≡ true
  unfolding pair_rings reached shadow
  ring_hangs p lp e =
      and_l (packed w up p) _ (and_l (shadow (packed w low) (packed w up) p) _
      (ring_over w h (h * w) (reached w h q (packed w low) (packed w up)) (seeds (packed w low) (packed w up)) p lp (ltb-true 0 _ e)))

-- the bit of a pixel
packed_seen : (w h n p : ℕ) → Sizes w h → (l : List ℕ) → n ≡ row_bytes w → p < h * w → packed_bit n l (p / w * row_bytes w * 8 + p % w) ≡ seen w l p
unfolding packed_bit
packed_seen w h n p z l en lp =
    let (lr, lc) = pixel_row w h z p lp in
    let b = row_bytes_lem w h z in
    let lc8 : p % w < n * 8 = omega arith in
    let e : p / w * row_bytes w * 8 + p % w ≡ p / w * (n * 8) + p % w = rw en (omega (arith, mul_assoc (p / w) (row_bytes w) 8)) in
    ap (λ (i : ℕ). word_bit l ((i / (n * 8) + 33) * 320 + i % (n * 8))) e ∙ ap₂ (λ (x y : ℕ). word_bit l ((x + 33) * 320 + y)) (digits_div (p / w) lc8) (digits_mod (p / w) lc8)
    ∙ sym (seen_is w h z l p)

pub excused_by : (w h n : ℕ) → Sizes w h → n ≡ row_bytes w → (got ring was now : List ℕ) → ((p : ℕ) → p < h * w → seen w got p ≡ ltb 0 (get_or ring p 0)) → ExcusedTo n h got was now →
    Excused w h ring was now
unfolding packed
excused_by w h n z en got ring was now gots E = record {
  fewer = λ j l u. and_l (bit_of was j) _ (sym (E.inner j (rw en l)) ∙ u);
  pixels = λ p lp.
      let (lr, lc) = pixel_row w h z p lp in
      let b = row_bytes_lem w h z in
      let room : p / w * row_bytes w * 8 + p % w < h * row_bytes w * 8 = omega (arith, row_fits (p / w) h (row_bytes w) lr) in
      E.inner (p / w * row_bytes w * 8 + p % w) (rw en room) ∙ ap (λ (b : Bool). bit_of was (p / w * row_bytes w * 8 + p % w) && not b) (packed_seen w h n p z got en lp ∙ gots p lp);
}

-- by rings that are the same
pub excused_rings : (w h : ℕ) (ring ring' was now : List ℕ) → ring ≡ ring' → Excused w h ring was now → Excused w h ring' was now
excused_rings w h ring ring' was now e X = rw e at X

-- the support of the lower layer
module _ (w h q : ℕ) (z : Sizes w h) (low up above out out' ring : List ℕ) (e : ring ≡ pair_rings w h q (packed w low) (packed w up))
    (ap' : (p : ℕ) → p < h * w → packed w above p ≡ true → packed w up p ≡ true → ⊥)
    (P : Packs w h (λ p. (packed w up p || packed w above p) && not (packed w low p)) out) (X : Excused w h ring out out') (long : length out' ≡ length out) where
  pub hang_packs : Packs w h (pair_support w h q (packed w low) (packed w up) (packed w above)) out'
  unfolding pair_support unexcused shadow
  hang_packs = record {
    clean = record {
      long = long ∙ P.clean.long;
      clear = λ r c lr wc lc. split (bit_of out' (r * row_bytes w * 8 + c))
          (λ u. clash (X.fewer (r * row_bytes w * 8 + c) (omega (arith, row_fits r h (row_bytes w) lr)) u) (P.clean.clear r c lr wc lc)) (λ u. u);
    };
    pixels = λ p lp. X.pixels p lp ∙ ap₂ (λ (a b : Bool). a && not b) (P.pixels p lp) (ap (λ (l : List ℕ). ltb 0 (get_or l p 0)) e)
        ∙ turn (packed w up p) (packed w above p) (packed w low p) (ltb 0 (get_or (pair_rings w h q (packed w low) (packed w up)) p 0)) (ring_hangs w h 0 q z low up p lp) (ap' p lp);
  }
    where
      turn : (u a l r : Bool) → (r ≡ true → u ≡ true) → (a ≡ true → u ≡ true → ⊥) → (((u || a) && not l) && not r) ≡ ((((u && not l) && not r) || a) && not l)
      turn true true l r x y = absurd (y refl refl)
      turn true false true r x y = refl
      turn true false false true x y = refl
      turn true false false false x y = refl
      turn false a l true x y = clash (x refl) refl
      turn false true true false x y = refl
      turn false true false false x y = refl
      turn false false true false x y = refl
      turn false false false false x y = refl

-- a pair without shadow: nothing is excused
pub calm_packs : (w h q : ℕ) (low up above out : List ℕ) → ((p : ℕ) → p < h * w → shadow (packed w low) (packed w up) p ≡ false) →
    Packs w h (λ p. (packed w up p || packed w above p) && not (packed w low p)) out
    → Packs w h (pair_support w h q (packed w low) (packed w up) (packed w above)) out
unfolding pair_support unexcused shadow
calm_packs w h q low up above out none P = record {
  clean = P.clean;
  pixels = λ p lp. P.pixels p lp ∙ turn (packed w up p) (packed w above p) (packed w low p) (ltb 0 (get_or (pair_rings w h q (packed w low) (packed w up)) p 0)) (none p lp);
}
  where
    turn : (u a l r : Bool) → (u && not l) ≡ false → ((u || a) && not l) ≡ ((((u && not l) && not r) || a) && not l)
    turn true a true r e = Rattle.laws.specs.Tests.and_false (true || a) ∙ sym (Rattle.laws.specs.Tests.and_false (false || a))
    turn true a false r e = clash refl e
    turn false a l r e = refl

pub spare_rooms : (w h : ℕ) (ahead ahead' left left' got front next seed seed' lower : List ℕ) → Spare w h left got front next seed lower ahead → Room w h ahead' left' →
    Rooms w h ahead' left' got front next lower
spare_rooms w h ahead ahead' left left' got front next seed seed' lower S R = record {
  left_room = R;
  got_room = empty_room w h ahead' got S.got_empty;
  front_room = empty_room w h ahead' front S.front_empty;
  next_room = empty_room w h ahead' next S.next_empty;
  lower_ready = S.lower_ready;
}
