-- A stack as bytes, and back.
use Rattle.std.specs.Prelude.{◌≡◌, refl, Bool, true, false, ◌&&◌, List, ℕ, zero, suc, ◌+◌, ◌-◌, ◌*◌, ◌/◌, ◌%◌, ◌^◌, ◌<◌, ltb, eqb, get_or}
use Rattle.std.proofs.Common.{sym, ◌∙◌, zero-add, suc-add, div-add-mod', div-one, arith, lt-ltb}
use Rattle.std.proofs.Math.Nat.{pow-succ', div-div-eq-div-mul}
use Rattle.std.proofs.Math.Arith.{digits_lt, digits_div, digits_mod}
use Rattle.rules.specs.Images.{Stack, row_bytes, bit_at, pixel, byte_of, bytes_of, ring_at}
use Rattle.rules.specs.Tools.{bit}
use Rattle.rules.specs.Planning.{planned, empty, planned_rings, planned_bytes}
use Rattle.rules.specs.declared.Judged.TheVariants.{Accepted}
use Rattle.rules.specs.Judging.{verdict_of}
use Rattle.rules.specs.Demands.{Sound}
use Rattle.laws.specs.Tests.{get_d_each}
use Rattle.laws.specs.Places.{digits_in, accepted_in}
use Rattle.laws.specs.Soundness.{rings_of, sound_accepted, planned_sound, plan_least}

bit_lt : (b : Bool) → bit b < 2
unfolding bit
bit_lt true = omega arith
bit_lt false = omega arith

bit_is : (b : Bool) → eqb (bit b) 1 ≡ b
unfolding bit
bit_is true = refl
bit_is false = refl

-- bit k of a byte, from the left
byte_bit : (w h : ℕ) (s : Stack) (row j k d : ℕ) → byte_of w h s row j (d + suc k) / 2 ^ d % 2 ≡ bit (ltb (8 * j + k) w && s (row / h) (row % h * w + (8 * j + k)))
unfolding byte_of
byte_bit w h s row j k zero = rw (zero-add (suc k), div-one) (digits_mod (byte_of w h s row j k) (bit_lt (ltb (8 * j + k) w && s (row / h) (row % h * w + (8 * j + k)))))
byte_bit w h s row j k (suc d) =
    rw (
      suc-add d (suc k),
      pow-succ' 2 d,
      ← div-div-eq-div-mul,
      digits_div (byte_of w h s row j (d + suc k))
          (bit_lt (ltb (8 * j + (d + suc k)) w && s (row / h) (row % h * w + (8 * j + (d + suc k))))),
    )
    (byte_bit w h s row j k d)

-- the pixels of the bytes of a stack
pub pixel_bytes : (w h n : ℕ) (s : Stack) (i p : ℕ) → i < n → p < h * w → pixel w h (bytes_of w h n s) i p ≡ s i p
unfolding pixel bit_at bytes_of row_bytes
pixel_bytes w h n s i p li lp =
    let (lr, lc) = digits_in p h w lp in
    let lj : p % w / 8 < (w + 7) / 8 = omega arith in
    let lk : p % w % 8 < 8 = omega arith in
    let row : ℕ = i * h + p / w in
    let x : ℕ = row * ((w + 7) / 8) + p % w / 8 in
    let lx : x < n * h * ((w + 7) / 8) = digits_lt (digits_lt li lr) lj in
    let g : get_or (bytes_of w h n s) x 0 ≡ byte_of w h s row (p % w / 8) 8 =
    get_d_each 0 (n * h * ((w + 7) / 8)) (λ b. byte_of w h s (b / ((w + 7) / 8)) (b % ((w + 7) / 8)) 8) x 0 lx ∙ rw (zero-add x, digits_div row lj, digits_mod row lj) in
    let e8 : 7 - p % w % 8 + suc (p % w % 8) ≡ 8 = omega arith in
    let c8 : 8 * (p % w / 8) + p % w % 8 ≡ p % w = omega arith in
    let bb : byte_of w h s row (p % w / 8) 8 / 2 ^ (7 - p % w % 8) % 2 ≡ bit (ltb (8 * (p % w / 8) + p % w % 8) w && s (row / h) (row % h * w + (8 * (p % w / 8) + p % w % 8))) =
    rw e8 at (byte_bit w h s row (p % w / 8) (p % w % 8) (7 - p % w % 8)) in
    rw (g, bb, bit_is, c8, lt-ltb (p % w) w lc, digits_div i lr, digits_mod i lr, div-add-mod' p w)

-- soundness looks only at the pixels that exist
pub sound_same : (w h n : ℕ) (q : ℕ → ℕ) (part s t : Stack) → ((i p : ℕ) → i < n → p < h * w → s i p ≡ t i p) → Sound w h n q part s → Sound w h n q part t
sound_same w h n q part s t e c = record {
  clear = λ i p li lp u. c.clear i p li lp (e i p li lp ∙ u);
  holds = λ i p li lp u. let z : i < n = omega arith in rw (← e i p z lp) (c.holds i p li lp (rw (e (suc i) p li lp) u));
}

-- the planner's bytes and rings are accepted
pub planned_bytes_accepted : (w h n : ℕ) (q : ℕ → ℕ) (part : List ℕ) → verdict_of w h n q part (planned_bytes w h n q part) (planned_rings w h n q part) ≡ Accepted
unfolding verdict_of planned_bytes planned_rings
planned_bytes_accepted w h n q part =
    let P : Stack = pixel w h part in
    let S : Stack = planned n P empty (rings_of w h n q P) in
    accepted_in w h n q P (pixel w h (bytes_of w h n S)) (rings_of w h n q P)
    (sound_accepted w h n q P (pixel w h (bytes_of w h n S))
    (sound_same w h n q P S (pixel w h (bytes_of w h n S)) (λ i p li lp. sym (pixel_bytes w h n S i p li lp)) (planned_sound w h n q P empty)))

-- and every pixel of them is in any support that is accepted, with any rings
pub planned_bytes_least : (w h n : ℕ) (q : ℕ → ℕ) (part sup l : List ℕ) → verdict_of w h n q part sup l ≡ Accepted →
    (i p : ℕ) → i < n → p < h * w → pixel w h (planned_bytes w h n q part) i p ≡ true → pixel w h sup i p ≡ true
unfolding verdict_of planned_bytes planned_rings
planned_bytes_least w h n q part sup l e i p li lp u =
    let P : Stack = pixel w h part in
    plan_least w h n q P (pixel w h sup) (ring_at w h l) e i p li lp (sym (pixel_bytes w h n (planned n P empty (rings_of w h n q P)) i p li lp) ∙ u)
