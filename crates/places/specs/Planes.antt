-- The rows and planes of a stack, as stretches of its bytes and of its pixels counted through.
use Rattle.std.specs.Prelude.{◌≡◌, refl, Bool, ◌||◌, List, ℕ, zero, suc, ◌+◌, ◌-◌, ◌*◌, ◌/◌, ◌%◌, ◌<◌, ◌≤◌, length, take, drop}
use Rattle.std.proofs.Math.Path.{sym}
use Rattle.std.proofs.Common.{ap, ap₂, ◌∙◌, mul_assoc, mul-le-mul_right, arith, length-take, length-drop, get_or-take, get_or-drop}
use Rattle.std.proofs.Math.Arith.{digits_lt, digits_div, digits_mod}
use Rattle.std.proofs.Math.ListN.{get_or}
use Rattle.rules.specs.Tools.{some}
use Rattle.rules.specs.Images.{Plane, Stack, row_bytes, bit_at, pixel, ring_at}
use Rattle.rules.specs.Planning.{shadow, seeds, reached, touch, source, touching, fits}
use Rattle.rules.specs.Judging.{overlap, bad_ring, unheld}
use Rattle.laws.specs.Places.{digits_in}
use Rattle.laws.specs.Closing.{near_same}
use Rattle.image.specs.Rows.{packed}
use Rattle.image.specs.Packed.{row_bit_lem}
use Rattle.places.specs.Search.{flat, bit_in, overlap_here, bad_here, unheld_here, overlap_in}

-- Rows of a plane -----------------------------------------------------------------------------------------------------

pub row_in : (row rows u : ℕ) → row < rows → row * u + u ≤ rows * u
row_in row rows u l = omega (arith, mul-le-mul_right u l)

pub in_plane : (w h r c : ℕ) → r < h → c < w → r * w + c < h * w
in_plane w h r c lr lc = digits_lt lr lc

-- the pixel in row r and column c
pub plane_at : (w : ℕ) (s : List ℕ) (r c : ℕ) → c < w → packed w s (r * w + c) ≡ bit_in s (r * row_bytes w) c
unfolding packed bit_in
plane_at w s r c l = rw (digits_div r l, digits_mod r l) (row_bit_lem s (r * row_bytes w) c)

pub overlap_row_lem : (w : ℕ) (part sup : List ℕ) (r at rb x : ℕ) → at ≡ r * rb → rb ≡ row_bytes w → x ≡ r * w → (c : ℕ) → c < w →
    overlap_here (packed w part) (packed w sup) (x + c) ≡ overlap_in part sup at c
unfolding overlap_here overlap_in
overlap_row_lem w part sup r at rb x ea er ex c l = rw (ex, ea, er, plane_at w part r c l, plane_at w sup r c l)

-- Planes of a stack ---------------------------------------------------------------------------------------------------

-- the stretch of a list from a up to e
abbrev pub cut : ℕ → ℕ → List ℕ → List ℕ
cut a e s = take (e - a) (drop a s)

pub cut_at : (a e k : ℕ) (s : List ℕ) (j : ℕ) → e ≡ a + k → j < k → get_or (cut a e s) j 0 ≡ get_or s (a + j) 0
cut_at a e k s j z l = get_or-take (e - a) (drop a s) j 0 (omega arith) ∙ get_or-drop a s j 0

pub cut_length : (a e k : ℕ) (s : List ℕ) → e ≡ a + k → e ≤ length s → length (cut a e s) ≡ k
cut_length a e k s z l = simp (length-take, length-drop) (omega arith)

-- plane i of a stack is its stretch of the bytes
pub plane_cut : (w h : ℕ) (s : List ℕ) (i a e k p : ℕ) → a ≡ i * k → e ≡ a + k → k ≡ h * row_bytes w → p < h * w → packed w (cut a e s) p ≡ pixel w h s i p
unfolding packed pixel row_bytes
plane_cut w h s i a e k p ea ee ek lp =
    let (lr, lc) = digits_in p h w lp in
    let b : ℕ = (w + 7) / 8 in
    let j : ℕ = p / w * b + p % w / 8 in
    let lj : j < k = rw ek (digits_lt lr (omega arith)) in
    let z : a + j ≡ (i * h + p / w) * b + p % w / 8 = omega (arith, mul_assoc i h b, ap (λ (x : ℕ). i * x) ek) in
    row_bit_lem (cut a e s) (p / w * b) (p % w) ∙ ap (λ (x : ℕ). bit_at x (p % w % 8)) (cut_at a e k s j ee lj ∙ ap (λ (x : ℕ). get_or s x 0) z)

-- and ring plane i its stretch of the rings
pub ring_cut : (w h : ℕ) (l : List ℕ) (i a e k p : ℕ) → a ≡ i * k → e ≡ a + k → k ≡ h * w → p < h * w → get_or (cut a e l) p 0 ≡ ring_at w h l i p
unfolding ring_at
ring_cut w h l i a e k p ea ee ek lp = cut_at a e k l p ee (omega arith) ∙ rw (ea, ek)

-- What a test says of a plane goes by the pixels that exist -------------------------------------------------------------

pub some_same : (n : ℕ) (f g : ℕ → Bool) → ((x : ℕ) → x < n → f x ≡ g x) → some n f ≡ some n g
unfolding some
some_same zero f g e = refl
some_same (suc n) f g e = ap₂ (λ (a b : Bool). a || b) (e n (omega arith)) (some_same n f g (λ x l. e x (omega arith)))

module _ (w h q : ℕ) (low low' up up' : Plane) (ring ring' : ℕ → ℕ) (el : (p : ℕ) → p < h * w → low p ≡ low' p) (eu : (p : ℕ) → p < h * w → up p ≡ up' p)
    (er : (p : ℕ) → p < h * w → ring p ≡ ring' p) where
  touching_same : (k p : ℕ) → touching (h * w) (touch w) (source (seeds low up) ring k) p ≡ touching (h * w) (touch w) (source (seeds low' up') ring' k) p
  unfolding touching source seeds
  touching_same k p = some_same (h * w) _ _ (λ o l. rw (el o l, eu o l, er o l))

  pub bad_same : (p : ℕ) → p < h * w → bad_here w h q low up ring p ≡ bad_here w h q low' up' ring' p
  unfolding bad_here fits reached shadow
  bad_same p l = rw (el p l, eu p l, er p l, near_same w h q low low' el p, touching_same (ring' p - 1) p)

-- pixel p of plane i, counted through
pub flat_at : (w h : ℕ) (f : Stack) (i p : ℕ) → p < h * w → flat w h f (i * (h * w) + p) ≡ f i p
unfolding flat
flat_at w h f i p l = rw (digits_div i l, digits_mod i l)

-- plane i, its bytes from `at` up to `mid`, those of the plane above it up to `end`, and its rings from x up to `next`
module _ (w h i bytes area at x mid end next : ℕ) (eb : bytes ≡ h * row_bytes w) (em : area ≡ h * w) (ea : at ≡ i * bytes) (ex : x ≡ i * area)
    (ed : mid ≡ at + bytes) (ee : end ≡ mid + bytes) (en : next ≡ x + area) where
  at_pixel : (p : ℕ) → x + p ≡ i * (h * w) + p
  at_pixel p = rw (ex, em)

  low_cut : (s : List ℕ) (p : ℕ) → p < h * w → packed w (cut at mid s) p ≡ pixel w h s i p
  low_cut s p l = plane_cut w h s i at mid bytes p ea ed eb l

  up_cut : (s : List ℕ) (p : ℕ) → p < h * w → packed w (cut mid end s) p ≡ pixel w h s (suc i) p
  up_cut s p l = plane_cut w h s (suc i) mid end bytes p (omega arith) ee eb l

  rings_cut : (l : List ℕ) (p : ℕ) → p < h * w → get_or (cut x next l) p 0 ≡ ring_at w h l i p
  rings_cut l p b = ring_cut w h l i x next area p ex en em b

  pub overlap_plane_lem : (part sup : List ℕ) (p : ℕ) → p < h * w →
      flat w h (overlap (pixel w h part) (pixel w h sup)) (x + p) ≡ overlap_here (packed w (cut at mid part)) (packed w (cut at mid sup)) p
  unfolding overlap overlap_here
  overlap_plane_lem part sup p l = rw (at_pixel p, flat_at w h (overlap (pixel w h part) (pixel w h sup)) i p l, low_cut part p l, low_cut sup p l)

  pub unheld_plane : (part sup rings : List ℕ) (p : ℕ) → p < h * w → flat w h (unheld (pixel w h part) (pixel w h sup) (ring_at w h rings)) (x + p)
      ≡ unheld_here (packed w (cut at mid part)) (packed w (cut mid end part)) (packed w (cut at mid sup)) (packed w (cut mid end sup)) (λ o. get_or (cut x next rings) o 0) p
  unfolding unheld unheld_here
  unheld_plane part sup rings p l =
      rw (at_pixel p, flat_at w h (unheld (pixel w h part) (pixel w h sup) (ring_at w h rings)) i p l, low_cut part p l, low_cut sup p l, up_cut part p l, up_cut sup p l, rings_cut rings p l)

  pub bad_plane : (q : ℕ → ℕ) (b : ℕ) (part rings : List ℕ) → q i ≡ b → (p : ℕ) → p < h * w → flat w h (bad_ring w h q (pixel w h part) (ring_at w h rings)) (x + p)
      ≡ bad_here w h b (packed w (cut at mid part)) (packed w (cut mid end part)) (λ o. get_or (cut x next rings) o 0) p
  unfolding bad_ring bad_here
  bad_plane q b part rings eq p l =
      rw (at_pixel p, flat_at w h (bad_ring w h q (pixel w h part) (ring_at w h rings)) i p l, eq)
      (bad_same w h b (pixel w h part i) (packed w (cut at mid part)) (pixel w h part (suc i)) (packed w (cut mid end part)) (ring_at w h rings i) (λ o. get_or (cut x next rings) o 0)
      (λ o lo. sym (low_cut part o lo)) (λ o lo. sym (up_cut part o lo)) (λ o lo. sym (rings_cut rings o lo)) p l)
