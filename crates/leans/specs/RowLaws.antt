-- Rows that follow each other, and the pixels of all of them.
use Rattle.std.specs.Prelude.{◌≡◌, List, ℕ, ◌+◌, ◌-◌, ◌*◌, ◌<◌, ◌≤◌, get_or}
use Rattle.std.proofs.Common.{sym, ap, ◌∙◌, add-mul, arith}
use Rattle.std.proofs.Math.Arith.{digits_lt}
use Rattle.leans.specs.Leaning.{Bare}

row_of : (y a w c : ℕ) → a ≤ y → a * w + ((y - a) * w + c) ≡ y * w + c
row_of y a w c l = let z : a + (y - a) ≡ y = omega arith in let e : a * w + (y - a) * w ≡ y * w = sym (add-mul a (y - a) w) ∙ ap (λ (n : ℕ). n * w) z in omega arith

-- the rings of a stretch of rows
pub quiet_rows : (w a b : ℕ) (rings : List ℕ) → ((j : ℕ) → j < (b - a) * w → get_or rings (a * w + j) 0 ≡ 0) → (y : ℕ) → a ≤ y → y < b → Bare w rings y
quiet_rows w a b rings none y lo hi c l =
    let z : a * w + ((y - a) * w + c) ≡ y * w + c = row_of y a w c lo in
    rw z at (none ((y - a) * w + c) (digits_lt (omega arith) l))
