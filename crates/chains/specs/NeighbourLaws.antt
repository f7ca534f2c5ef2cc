-- Laws of the eight neighbours, and of what lends a ring.
use Rattle.std.specs.Prelude.{◌≡◌, Bool, true, ◌&&◌, List, ℕ, ◌+◌, ◌-◌, ◌*◌, ◌/◌, ◌%◌, ◌<◌, ◌≤◌, min, ltb, get_or}
use Rattle.std.proofs.Common.{sym, ◌∙◌, arith}
use Rattle.std.proofs.Math.Bool.{false}
use Rattle.std.proofs.Math.Nat.{div-add-mod'}
use borrow.Author.Tests.{ltb-true, ltb-false, ne_eqb}
use Rattle.rules.specs.Tools.{some}
use Rattle.rules.specs.Images.{Plane, row_bytes}
use Rattle.rules.specs.Planning.{source, touch, touching}
use Rattle.laws.specs.Tests.{split, clash, and_in, some_in, some_out}
use Rattle.laws.specs.Places.{digits_in}
use Rattle.laws.specs.Neighbours.{Touching, touch_out, touch_in}
use Rattle.places.specs.Search.{bit_in}
use Rattle.places.specs.Planes.{row_in, plane_at, in_plane}
use Rattle.image.specs.Rows.{packed}
use Rattle.chains.specs.Amiss.{lender}

some_none : (n : ℕ) (f : ℕ → Bool) → ((x : ℕ) → x < n → f x ≡ false) → some n f ≡ false
some_none n f h = split (some n f) (λ t. let (x, l, e) = some_out n f t in clash e (h x l)) (λ e. e)

-- the byte of a pixel lies in its plane
pub byte_in_plane : (w h y x rb len : ℕ) → y < h → x < w → rb ≡ row_bytes w → len ≡ h * row_bytes w → y * rb + x / 8 < len
unfolding row_bytes
byte_in_plane w h y x rb len ly lx er el =
    let z : y * rb ≡ y * row_bytes w = rw er in
    omega (arith, row_in y h (row_bytes w) ly)

module _ (w : ℕ) (low up rings : List ℕ) where
  -- a pixel lends itself no ring
  pub own_lends : (p k : ℕ) → 0 < k → k ≡ get_or rings p 0 → lender w low up rings k p ≡ false
  unfolding lender source
  own_lends p k l e = rw (ne_eqb (get_or rings p 0) (k - 1) (λ z. omega arith))

-- some neighbour serves: (y, x) touches (r, c) and is not it
module _ (w h : ℕ) (f : Plane) (r c : ℕ) (lc : c < w) (own : f (r * w + c) ≡ false) where
  pub touch_hit : (y x : ℕ) → y < h → x < w → r ≤ y + 1 → y ≤ r + 1 → c ≤ x + 1 → x ≤ c + 1 → f (y * w + x) ≡ true → touching (h * w) (touch w) f (r * w + c) ≡ true
  unfolding touching
  touch_hit y x ly lx a b d e t =
      some_in (h * w) (λ o. touch w (r * w + c) o && f o) (y * w + x) (in_plane w h y x ly lx)
      (and_in _ _ (touch_in w r c y x lc lx (record { up = a; down = b; left = d; right = e; other = λ p q. clash t (rw (← p, ← q) own) })) t)

  pub touch_none : (y₁ : ℕ) → ((y : ℕ) → y < y₁ → y < h → r - 1 ≤ y → (x : ℕ) → x < w → c - 1 ≤ x → x < c + 2 → f (y * w + x) ≡ false) → min (r + 2) h ≤ y₁
      → touching (h * w) (touch w) f (r * w + c) ≡ false
  unfolding touching
  touch_none y₁ all past =
      some_none (h * w) (λ o. touch w (r * w + c) o && f o) (λ o lo.
      let (ly, lx) = digits_in o h w lo in
      let z : o / w * w + o % w ≡ o = div-add-mod' o w in
      split (touch w (r * w + c) o)
      (λ t.
      let g : Touching r c (o / w) (o % w) = touch_out w r c (o / w) (o % w) lc lx (rw z t) in
      let up = g.up in let down = g.down in let left = g.left in let right = g.right in
      let e : f (o / w * w + o % w) ≡ false = all (o / w) (omega arith) ly (omega arith) (o % w) lx (omega arith) (omega arith) in
      rw (t, rw z at e))
      (λ t. rw t))

-- the next row
pub row_more : (w h r c : ℕ) (f : Plane) (y x : ℕ)
    → ((n : ℕ) → n < y → n < h → r - 1 ≤ n → (m : ℕ) → m < w → c - 1 ≤ m → m < c + 2 → f (n * w + m) ≡ false)
    → ((m : ℕ) → m < x → c - 1 ≤ m → f (y * w + m) ≡ false) → min (c + 2) w ≤ x
    → (n : ℕ) → n < y + 1 → n < h → r - 1 ≤ n → (m : ℕ) → m < w → c - 1 ≤ m → m < c + 2 → f (n * w + m) ≡ false
row_more w h r c f y x all here past n l b d m lm a e =
    split (ltb n y) (λ t. all n (ltb-true n y t) b d m lm a e)
    (λ t. let z : y ≡ n = omega (arith, ltb-false n y t) in let g : f (y * w + m) ≡ false = here m (omega arith) a in rw z at g)

-- a pixel of a plane, as the code reads it
pub pixel_is : (w : ℕ) (s : List ℕ) (r c rb : ℕ) (b : Bool) → c < w → rb ≡ row_bytes w → b ≡ bit_in s (r * rb) c → packed w s (r * w + c) ≡ b
pixel_is w s r c rb b lc er e = plane_at w s r c lc ∙ rw (← er) (sym e)
