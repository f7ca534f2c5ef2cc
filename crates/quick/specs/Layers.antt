-- Laws of a layer that is read into scratch, row by row.
use Rattle.std.specs.Prelude.{◌≡◌, Bool, true, false, not, ◌&&◌, List, ℕ, ◌+◌, ◌-◌, ◌*◌, ◌/◌, ◌%◌, ◌<◌, ◌≤◌, ltb, length}
use Rattle.std.proofs.Common.{sym, ap, ◌∙◌, div-add-mod', arith, ltb-true, ltb-false}
use Rattle.rules.specs.Images.{row_bytes}
use Rattle.rules.specs.Planning.{near}
use Rattle.laws.specs.Tests.{split, clash}
use Rattle.laws.specs.Places.{digits_in}
use Rattle.laws.specs.Closing.{near_same}
use Rattle.image.specs.Rows.{packed, Clean}
use Rattle.words.specs.Words.{word_bit, row_part}
use Rattle.planes.specs.Scratch.{spot, Sizes, Framed, seen, Drawn, RowPut}
use Rattle.planes.specs.PlaneLaws.{seen_at}
use Rattle.places.specs.Search.{Sized}
use Rattle.quick.specs.RowsOfPair.{packed_part, part_in_lem}

pub sizes_of : (w h : ℕ) → Sized w h → Sizes w h
sizes_of w h s = record { w_min = s.w_low; w_max = s.w_high; h_min = s.h_low; h_max = s.h_high }

-- the rows before r are read
abbrev pub Reading : ℕ → ℕ → List ℕ → List ℕ → Type 0
Reading w r s out = (y c : ℕ) → y < r → c < w → word_bit out (spot y c) ≡ packed w s (y * w + c)

module _ (w h rb r : ℕ) (s was out : List ℕ) (g : ℕ → Bool) (z : Sized w h) (cl : Clean w h s) (lr : r < h) (er : rb ≡ row_bytes w)
    (is : (c : ℕ) → g c ≡ row_part s (r * rb) rb c) (put : RowPut (r + 33) g was out) where
  pub framed_more : Framed w h was → Framed w h out
  framed_more fr j e = split (ltb j ((r + 33) * 320)) (λ t. fr j (sym (put.before j (ltb-true j _ t)) ∙ e)) (λ t.
      let lo : (r + 33) * 320 ≤ j = ltb-false j ((r + 33) * 320) t in
      split (ltb j ((r + 33) * 320 + 256))
      (λ u.
      let c : ℕ = j - (r + 33) * 320 in
      let p : row_part s (r * rb) rb c ≡ true = sym (is c) ∙ sym (put.inner j lo (ltb-true j ((r + 33) * 320 + 256) u)) ∙ e in
      record { row = r; column = c; row_in = lr; column_in = part_in_lem w h rb er s cl r c lr p; here = omega arith })
      (λ u. fr j (sym (put.behind j (ltb-false j _ u)) ∙ e)))

  pub reading_more : Reading w r s was → Reading w (r + 1) s out
  reading_more old y c ly lc = split (ltb y r)
      (λ t. let l : y < r = ltb-true y r t in put.before (spot y c) (omega (arith, z.w_high)) ∙ old y c l lc)
      (λ t.
      let q : r ≡ y = omega (arith, ltb-false y r t) in
      let i : spot y c - (r + 33) * 320 ≡ c = omega arith in
      put.inner (spot y c) (omega arith) (omega (arith, z.w_high)) ∙ ap g i ∙ is c ∙ sym (packed_part w h rb r er s r c lc) ∙ ap (λ (n : ℕ). packed w s (n * w + c)) q)

pub read_all : (w h r : ℕ) (s out : List ℕ) → Sized w h → h ≤ r → length out ≡ 1610 → Framed w h out → Reading w r s out → Drawn w h (packed w s) out
read_all w h r s out z lr long fr all = record {
  ready = record { long = long; framed = fr };
  is = λ p lp.
      let (ly, lc) = digits_in p h w lp in
      let e : p / w * w + p % w ≡ p = div-add-mod' p w in
      rw e at (seen_at w h (sizes_of w h z) out (p / w) (p % w) lc ∙ all (p / w) (p % w) (omega arith) lc);
}

-- near in scratch is near the layer
pub near_drawn : (w h q : ℕ) (s out : List ℕ) → Drawn w h (packed w s) out → (p : ℕ) → near w h q (seen w out) p ≡ near w h q (packed w s) p
near_drawn w h q s out d p = near_same w h q (seen w out) (packed w s) d.is p

-- no pixel of `far` is left outside the near row
pub far_near : (w h q r : ℕ) (s out : List ℕ) (far close rest : ℕ → Bool) → Sized w h → Drawn w h (packed w s) out → r < h →
    ((w h : ℕ) → Sizes w h → Framed w h out → r < h → (c : ℕ) → c < w → close c ≡ near w h q (seen w out) (r * w + c)) →
    ((c : ℕ) → rest c ≡ (far c && not (close c))) → ((c : ℕ) → rest c ≡ false) → (c : ℕ) → c < w → far c ≡ true → near w h q (packed w s) (r * w + c) ≡ true
far_near w h q r s out far close rest z d lr is but none c lc f = split (close c)
    (λ t. sym (near_drawn w h q s out d (r * w + c)) ∙ sym (is w h (sizes_of w h z) d.ready.framed lr c lc) ∙ t)
    (λ t. clash (but c ∙ rw (f, t)) (none c))
