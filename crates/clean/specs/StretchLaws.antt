-- Laws of the loops over the bytes of a layer: whether two layers are the same, and the cleaned layer by the one above it.
use Rattle.std.specs.Prelude.{◌≡◌, refl, Bool, true, false, ◌||◌, List, ℕ, ◌+◌, ◌-◌, ◌*◌, ◌/◌, ◌%◌, ◌<◌, length, get_or, set}
use Rattle.std.proofs.Common.{sym, subst, ◌∙◌, get_or-set_same, get_or-set_other}
use Rattle.std.proofs.Math.Path.{ap, ap₂}
use Rattle.std.proofs.Math.Bool.{◌&&◌}
use native.Mathlib.Omega.{arith}
use Rattle.std.proofs.Math.Decide.{dec_lt, ℕ_discrete}
use Rattle.std.specs.Int.Bits.{bit_and, bit_or}
use Rattle.std.proofs.Math.ListN.{get_or-eq_default}
use Rattle.rules.specs.Images.{bit_at}
use Rattle.image.specs.Bits.{bit_and_lem, bit_or_lem, bit_not, zero_bit, byte_but_not, or_none}
use Rattle.image.specs.Filling.{Filling, filling_more, bit_here}
use Rattle.image.specs.Loops.{but_not}
use Rattle.image.specs.Scratch.{bit_of}
use Rattle.clean.specs.Layers.{joined_bit}

-- the first i bytes from `at` on are those `size` bytes behind
abbrev pub SameTo : ℕ → ℕ → ℕ → List ℕ → Type 0
SameTo at size i s = (k m : ℕ) → k < i → m < 8 → bit_at (get_or s (at + k) 0) m ≡ bit_at (get_or s (at + size + k) 0) m

neither : (x y : Bool) → but_not x y ≡ false → but_not y x ≡ false → x ≡ y
neither true true a b = refl
neither true false a b = a
neither false true a b = sym b
neither false false a b = refl

pub same_more : (at size i other : ℕ) (s : List ℕ) → get_or s (at + i) 0 < 256 → get_or s (at + size + i) 0 < 256 →
    bit_or (bit_or other (bit_and (get_or s (at + i) 0) (255 - get_or s (at + size + i) 0))) (bit_and (get_or s (at + size + i) 0) (255 - get_or s (at + i) 0)) ≡ 0 →
    (other ≡ 0 → SameTo at size i s) → SameTo at size (i + 1) s
same_more at size i other s lx ly e old k m lk lm =
    let x : ℕ = get_or s (at + i) 0 in
    let y : ℕ = get_or s (at + size + i) 0 in
    let (a, yx) = or_none (bit_or other (bit_and x (255 - y))) (bit_and y (255 - x)) e in
    let (o, xy) = or_none other (bit_and x (255 - y)) a in
    elim (ℕ_discrete k i) [
      | yes z ↦ rw z (neither (bit_at x m) (bit_at y m) (sym (byte_but_not x y ly m lm) ∙ ap (λ (v : ℕ). bit_at v m) xy ∙ zero_bit m) (sym (byte_but_not y x lx m lm) ∙ ap (λ (v : ℕ). bit_at v m) yx ∙ zero_bit m))
      | no z ↦ old o k m (omega arith) lm
    ]

pub same_all : (at size : ℕ) (s : List ℕ) → SameTo at size size s → (j : ℕ) → j < size * 8 → bit_of s (at * 8 + j) ≡ bit_of s ((at + size) * 8 + j)
unfolding bit_of
same_all at size s f j lj =
    let a : (at * 8 + j) / 8 ≡ at + j / 8 = omega arith in
    let b : (at * 8 + j) % 8 ≡ j % 8 = omega arith in
    let c : ((at + size) * 8 + j) / 8 ≡ at + size + j / 8 = omega arith in
    let d : ((at + size) * 8 + j) % 8 ≡ j % 8 = omega arith in
    rw (a, b, c, d) (f (j / 8) (j % 8) (omega arith) (omega arith))

-- the first i bytes from `at` on are 0
abbrev pub NoneTo : ℕ → ℕ → List ℕ → Type 0
NoneTo at i s = (k m : ℕ) → k < i → m < 8 → bit_at (get_or s (at + k) 0) m ≡ false

pub none_more : (at i all : ℕ) (s : List ℕ) → bit_or all (get_or s (at + i) 0) ≡ 0 → (all ≡ 0 → NoneTo at i s) → NoneTo at (i + 1) s
none_more at i all s e old k m lk lm =
    let (a, x) = or_none all (get_or s (at + i) 0) e in
    elim (ℕ_discrete k i) [ yes z ↦ rw z (ap (λ (v : ℕ). bit_at v m) x ∙ zero_bit m) | no z ↦ old a k m (omega arith) lm ]

pub none_all : (at size : ℕ) (s : List ℕ) → NoneTo at size s → (j : ℕ) → j < size * 8 → bit_of s (at * 8 + j) ≡ false
unfolding bit_of
none_all at size s f j lj =
    let a : (at * 8 + j) / 8 ≡ at + j / 8 = omega arith in
    let b : (at * 8 + j) % 8 ≡ j % 8 = omega arith in
    rw (a, b) (f (j / 8) (j % 8) (omega arith) (omega arith))

-- zeros, one more
pub zero_more : (s : List ℕ) (i : ℕ) → i < length s → ((k : ℕ) → k < i → get_or s k 0 ≡ 0) → (k : ℕ) → k < i + 1 → get_or (set s i 0) k 0 ≡ 0
zero_more s i li f k lk = elim (ℕ_discrete k i) [
  | yes e ↦ subst (λ (x : ℕ). get_or (set s i 0) x 0 ≡ 0) (sym e) (get_or-set_same s i 0 0 li)
  | no e ↦ get_or-set_other s i k 0 0 e ∙ f k (omega arith)
]

pub zero_all : (s : List ℕ) → ((k : ℕ) → k < length s → get_or s k 0 ≡ 0) → (k : ℕ) → get_or s k 0 ≡ 0
zero_all s f k = elim (dec_lt k (length s)) [ yes l ↦ f k l | no l ↦ get_or-eq_default s 0 {n = k} (omega arith) ]

-- one byte of the cleaned layer
module _ (at size i : ℕ) (part support wide clean now : List ℕ) (lp : get_or part (at + i) 0 < 256) (lu : get_or part (at + i + size) 0 < 256) where
  joined_byte : (m : ℕ) → m < 8 →
      bit_at (bit_and (bit_and (bit_or (get_or clean (at + i + size) 0) (get_or wide i 0)) (255 - get_or part (at + i) 0)) (bit_or (255 - get_or part (at + i + size) 0) (get_or support (at + i) 0))) m
      ≡ joined_bit at size part support wide clean ((at + i) * 8 + m)
  unfolding joined_bit
  joined_byte m lm =
      let up : size * 8 + ((at + i) * 8 + m) ≡ (at + i + size) * 8 + m = omega arith in
      let own : (at + i) * 8 + m - at * 8 ≡ i * 8 + m = omega arith in
      rw (up, own, bit_here clean (at + i + size) m lm, bit_here wide i m lm, bit_here part (at + i) m lm, bit_here part (at + i + size) m lm, bit_here support (at + i) m lm)
      (bit_and_lem _ _ m ∙ ap₂ ◌&&◌ (bit_and_lem _ _ m ∙ ap₂ ◌&&◌ (bit_or_lem _ _ m) (bit_not (get_or part (at + i) 0) m lp lm)) (bit_or_lem _ _ m ∙ ap (λ (b : Bool). b || bit_at (get_or support (at + i) 0) m) (bit_not (get_or part (at + i + size) 0) m lu lm)))

  pub join_more : at + i < length now → Filling at (at + i) (joined_bit at size part support wide clean) now clean →
      Filling at (at + (i + 1)) (joined_bit at size part support wide clean)
      (set now (at + i) (bit_and (bit_and (bit_or (get_or now (at + i + size) 0) (get_or wide i 0)) (255 - get_or part (at + i) 0)) (bit_or (255 - get_or part (at + i + size) 0) (get_or support (at + i) 0)))) clean
  join_more l F =
      let e : at + (i + 1) ≡ at + i + 1 = omega arith in
      rw (e, F.left (at + i + size) (omega arith)) (filling_more at (at + i) _ (joined_bit at size part support wide clean) now clean (omega arith) l F joined_byte)
