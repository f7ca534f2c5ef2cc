-- Products of rows.
use Rattle.std.specs.Prelude.{◌≡◌, ℕ, suc, ◌+◌, ◌*◌, ◌<◌, ◌≤◌}
use Rattle.std.proofs.Common.{ap, ◌∙◌, add-mul, one-mul, mul-le-mul_right, suc-mul, arith}

pub row_next : (r w : ℕ) → (r + 1) * w ≡ r * w + w
row_next r w = add-mul r 1 w ∙ ap (λ (x : ℕ). r * w + x) (one-mul w)

pub row_fits : (k h w : ℕ) → k < h → k * w + w ≤ h * w
row_fits k h w z = let t : suc k * w ≤ h * w = mul-le-mul_right w z in omega (arith, suc-mul k w)
