-- The planner's rings fit 16 bits: a ring is less than the number of pixels, for a seed carries none.
use Rattle.std.specs.Prelude.{◌≡◌, List, ℕ, ◌+◌, ◌-◌, ◌*◌, ◌/◌, ◌%◌, ◌≤◌, ◌<◌, ltb, length}
use Rattle.std.proofs.Common.{div-add-mod', arith, ltb-true, ltb-false}
use Rattle.std.proofs.Math.ListN.{get_or-eq_default}
use Rattle.rules.specs.Images.{Stack, pixel, ring_at}
use Rattle.rules.specs.Planning.{touch, rings, planned_rings}
use Rattle.rules.specs.Demands.{free_in, seed_in, Words}
use Rattle.laws.specs.Tests.{split}
use Rattle.laws.specs.Growing.{ring_less}
use Rattle.laws.specs.Places.{digits_in}
use Rattle.laws.specs.Soundness.{rings_of, rings_of_is, rings_length, seed_barred}

-- ".. so rings fit 16 bits": a ring is less than the number of pixels, for a seed has none
pub rings_fit : (w h n : ℕ) (q : ℕ → ℕ) (part : Stack) → h * w ≤ 65536 → Words (rings w h n q part)
unfolding ring_at
rings_fit w h n q part b x =
    split (ltb x ((n - 1) * (h * w)))
    (λ t.
    let (li, lp) = digits_in x (n - 1) (h * w) (ltb-true x _ t) in
    let i : ℕ = x / (h * w) in
    let p : ℕ = x % (h * w) in
    let z : i * (h * w) + p ≡ x = div-add-mod' x (h * w) in
    let r : rings_of w h n q part i p < 65536 =
    omega (arith, rings_of_is w h n q part i p (omega arith) lp, ring_less (h * w) (touch w) (free_in w h q part i) (seed_in w h q part i) (seed_barred w h n q part i) p lp) in
    rw z at r)
    (λ t.
    let l : length (rings w h n q part) ≤ x = omega (arith, ltb-false x _ t, rings_length w h n q part) in
    rw (get_or-eq_default (rings w h n q part) 0 l) (omega arith))

pub planned_rings_fit : (w h n : ℕ) (q : ℕ → ℕ) (part : List ℕ) → h * w ≤ 65536 → Words (planned_rings w h n q part)
unfolding planned_rings
planned_rings_fit w h n q part b = rings_fit w h n q (pixel w h part) b
