-- Neighbours and nearness by rows and columns; and that a bound of 0 leaves no shadow pixel near.
use Rattle.std.specs.Prelude.{◌≡◌, ◌≢◌, ◌↔◌, true, false, not, ◌&&◌, ℕ, ◌+◌, ◌-◌, ◌*◌, ◌/◌, ◌%◌, ◌≤◌, ◌<◌, leb, eqb}
use Rattle.std.proofs.Common.{sym, ap, subst, ◌∙◌, div-add-mod', arith, ne_eqb, le-leb, leb-true}
use Rattle.std.proofs.Math.Arith.{digits_lt, digits_div, digits_mod}
use Rattle.std.proofs.lemmas.Bool.{eqb-false}
use Rattle.rules.specs.Images.{Plane}
use Rattle.rules.specs.Planning.{touch, shadow, near, reached}
use Rattle.rules.specs.Reach.{square, apart, distance²}
use Rattle.laws.specs.Tests.{split, clash, and_l, and_r, and_in, not_out, some_in, some_out}
use Rattle.laws.specs.Places.{digits_in}
use Rattle.laws.specs.Discs.{square_grows}

-- the pixel in row r and column c touches the one in row s and column d
pub record Touching (r c s d : ℕ) : Type 0 where
  pub up : r ≤ s + 1
  pub down : s ≤ r + 1
  pub left : c ≤ d + 1
  pub right : d ≤ c + 1
  pub other : r ≡ s → c ≢ d

apart_out : (a b : ℕ) → leb (apart a b) 1 ≡ true → (a ≤ b + 1) × (b ≤ a + 1)
unfolding apart
apart_out a b e = omega (arith, leb-true (apart a b) 1 e)

apart_in : (a b : ℕ) → a ≤ b + 1 → b ≤ a + 1 → leb (apart a b) 1 ≡ true
unfolding apart
apart_in a b l m = le-leb (apart a b) 1 (omega arith)

-- a row's pixels have other numbers than another row's
same_pixel : (w r c s d : ℕ) → c < w → d < w → r * w + c ≡ s * w + d → (r ≡ s) × (c ≡ d)
same_pixel w r c s d lc ld e =
    (sym (digits_div r lc) ∙ ap (λ (x : ℕ). x / w) e ∙ digits_div s ld, sym (digits_mod r lc) ∙ ap (λ (x : ℕ). x % w) e ∙ digits_mod s ld)

touch_is : (w r c s d : ℕ) → c < w → d < w → touch w (r * w + c) (s * w + d) ≡ leb (apart r s) 1 && leb (apart c d) 1 && not (eqb (r * w + c) (s * w + d))
unfolding touch
touch_is w r c s d lc ld = rw (digits_div r lc, digits_div s ld, digits_mod r lc, digits_mod s ld)

pub touch_out : (w r c s d : ℕ) → c < w → d < w → touch w (r * w + c) (s * w + d) ≡ true → Touching r c s d
touch_out w r c s d lc ld e =
    let t : leb (apart r s) 1 && leb (apart c d) 1 && not (eqb (r * w + c) (s * w + d)) ≡ true = sym (touch_is w r c s d lc ld) ∙ e in
    let (u, v) = apart_out r s (search (and_l, and_r)) in
    let (x, y) = apart_out c d (search (and_l, and_r)) in
    record { up = u; down = v; left = x; right = y; other = λ z₁ z₂. eqb-false (r * w + c) (s * w + d) (search (and_r, not_out)) (cc) }

pub touch_in : (w r c s d : ℕ) → c < w → d < w → Touching r c s d → touch w (r * w + c) (s * w + d) ≡ true
touch_in w r c s d lc ld t =
    let z : eqb (r * w + c) (s * w + d) ≡ false = ne_eqb (r * w + c) (s * w + d) (λ e. let (x, y) = same_pixel w r c s d lc ld e in t.other x y) in
    touch_is w r c s d lc ld ∙ rw (apart_in r s t.up t.down, apart_in c d t.left t.right, z)

same_number : (w p o : ℕ) → p / w ≡ o / w → p % w ≡ o % w → p ≡ o
same_number w p o r c = sym (div-add-mod' p w) ∙ rw (r, c) (div-add-mod' o w)

no_gap : (a b : ℕ) → apart a b ≤ 0 → a ≡ b
unfolding apart
no_gap a b h = omega arith

-- pixels without distance are one
pub distance_none : (w p o : ℕ) → distance² w p o ≤ 0 → p ≡ o
unfolding distance²
distance_none w p o z =
    same_number w p o
    (no_gap (p / w) (o / w) (omega (arith, square_grows (apart (p / w) (o / w)))))
    (no_gap (p % w) (o % w) (omega (arith, square_grows (apart (p % w) (o % w)))))

-- a reach of 0 "excuses nothing": no shadow pixel is near
pub reach_none : (w h : ℕ) (low up : Plane) (p : ℕ) → reached w h 0 low up p ≡ false
unfolding reached near shadow
reach_none w h low up p = split (reached w h 0 low up p)
    (λ t.
    let (o, lo, e) = some_out (h * w) (λ o. low o && leb (distance² w p o) 0) (and_r (shadow low up p) _ t) in
    let same : p ≡ o = distance_none w p o (leb-true _ _ (and_r (low o) _ e)) in
    clash (rw (← same) at (and_l (low o) _ e)) (not_out (low p) (and_r (up p) _ (and_l (shadow low up p) _ t))))
    (λ t. t)

distance_is : (w r c o : ℕ) → c < w → distance² w (r * w + c) o ≡ (r - o / w + (o / w - r)) * (r - o / w + (o / w - r)) + (c - o % w + (o % w - c)) * (c - o % w + (o % w - c))
unfolding distance² square apart
distance_is w r c o lc = rw (digits_div r lc, digits_mod r lc)

-- near, by rows and columns: some pixel of the plane whose row and column differences, squared and added, are at most the bound
pub near_is : (w h q : ℕ) (low : Plane) (r c : ℕ) → c < w → (near w h q low (r * w + c) ≡ true) ↔
    ((s : ℕ) × (d : ℕ) × (s < h) × (d < w) × (low (s * w + d) ≡ true) × ((r - s + (s - r)) * (r - s + (s - r)) + (c - d + (d - c)) * (c - d + (d - c)) ≤ q))
unfolding near
near_is w h q low r c lc = (
  (λ e.
      let (o, lo, t) = some_out (h * w) (λ o. low o && leb (distance² w (r * w + c) o) q) e in
      let (ls, ld) = digits_in o h w lo in
      let z : o / w * w + o % w ≡ o = div-add-mod' o w in
      (o / w, o % w, ls, ld, rw z (and_l (low o) _ t), subst (λ (x : ℕ). x ≤ q) (distance_is w r c o lc) (leb-true _ q (and_r (low o) _ t)))),
  (λ (s, d, ls, ld, e, h₁).
      some_in (h * w) (λ o. low o && leb (distance² w (r * w + c) o) q) (s * w + d) (digits_lt ls ld)
      (and_in _ _ e (le-leb _ q (subst (λ (x : ℕ). x ≤ q) (sym (distance_is w r c (s * w + d) lc ∙ rw (digits_div s ld, digits_mod s ld))) h₁)))),
)
