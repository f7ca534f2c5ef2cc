-- What operations on bytes do to the eight pixels of each.
use Rattle.std.specs.Prelude.{◌≡◌, false, List, ℕ, ◌+◌, ◌/◌, ◌%◌, ◌<◌, get_or}
use Rattle.std.proofs.Common.{ap, ◌∙◌, arith}
use Rattle.rules.specs.Images.{bit_at}
use Rattle.image.specs.Bits.{zero_bit}
use Rattle.places.specs.Search.{bit_in}

pub no_bit : (m k : ℕ) → m ≡ 0 → bit_at m k ≡ false
no_bit m k e = ap (λ (n : ℕ). bit_at n k) e ∙ zero_bit k

-- a byte of a row, and its pixels
pub byte_in : (s : List ℕ) (at c k : ℕ) → c % 8 ≡ 0 → k < 8 → bit_in s at (c + k) ≡ bit_at (get_or s (at + c / 8) 0) k
unfolding bit_in
byte_in s at c k e l =
    let d : (c + k) / 8 ≡ c / 8 = omega arith in
    let m : (c + k) % 8 ≡ k = omega arith in
    rw (d, m)
