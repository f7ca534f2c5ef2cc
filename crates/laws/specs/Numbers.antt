-- Big-endian numbers in a file: what was written is read, and what was read is written.
-- A file is walked by what stands from an offset on: `peel` takes a run off it, `grow` puts one in front of it.
use Rattle.std.specs.Prelude.{◌≡◌, refl, List, [], ◌∷◌, ◌++◌, ℕ, zero, suc, ◌+◌, ◌*◌, ◌/◌, ◌%◌, ◌≤◌, ◌<◌, length, get_or, take, drop}
use Rattle.std.proofs.Common.{sym, ap, ap₂, ◌∙◌, add-zero, add-suc, add-one, arith, take-append-drop, get_or-drop, drop-drop, take_at, drop_at, drop-cons}
use Rattle.rules.specs.Jobs.{be16, be32, put16, put32, get16s, put16s}
use Rattle.rules.specs.Demands.{Bytes, Words}

join16 : (n : ℕ) → n < 65536 → n / 256 % 256 * 256 + n % 256 ≡ n
join16 n h = omega arith

div_24 : (n : ℕ) → n / 16777216 ≡ n / 256 / 256 / 256
div_24 n = omega arith

div_16 : (n : ℕ) → n / 65536 ≡ n / 256 / 256
div_16 n = omega arith

join32 : (n : ℕ) → n < 4294967296 → n / 16777216 % 256 * 16777216 + n / 65536 % 256 * 65536 + n / 256 % 256 * 256 + n % 256 ≡ n
join32 n h = rw (div_24, div_16) (omega arith)

-- what stands from `at` on, said of the single bytes
at0 : (f l : List ℕ) (at : ℕ) → drop at f ≡ l → get_or f at 0 ≡ get_or l 0 0
at0 f l at e = ap (λ (k : ℕ). get_or f k 0) (sym (add-zero at)) ∙ sym (get_or-drop at f 0 0) ∙ ap (λ (z : List ℕ). get_or z 0 0) e

at+ : (f l : List ℕ) (at i : ℕ) → drop at f ≡ l → get_or f (at + i) 0 ≡ get_or l i 0
at+ f l at i e = sym (get_or-drop at f i 0) ∙ ap (λ (z : List ℕ). get_or z i 0) e

past : (f l : List ℕ) (at k : ℕ) → drop at f ≡ l → drop (at + k) f ≡ drop k l
past f l at k e = sym (drop-drop k at f) ∙ ap (drop k) e

-- where the bytes of a number stand, the number is read, and what follows them stands after
pub peel16 : (f r : List ℕ) (at n : ℕ) → n < 65536 → drop at f ≡ put16 n ++ r → (be16 f at ≡ n) × (drop (at + 2) f ≡ r)
peel16 f r at n h e =
    (rw (at0 f (put16 n ++ r) at e, at+ f (put16 n ++ r) at 1 e) (join16 n h), past f (put16 n ++ r) at 2 e)

pub peel32 : (f r : List ℕ) (at n : ℕ) → n < 4294967296 → drop at f ≡ put32 n ++ r → (be32 f at ≡ n) × (drop (at + 4) f ≡ r)
peel32 f r at n h e =
    let l : List ℕ = put32 n ++ r in
    (rw (at0 f l at e, at+ f l at 1 e, at+ f l at 2 e, at+ f l at 3 e) (join32 n h), past f l at 4 e)

pub peel : (f x r : List ℕ) (at k : ℕ) → length x ≡ k → drop at f ≡ x ++ r → (take k (drop at f) ≡ x) × (drop (at + k) f ≡ r)
peel f x r at k n e = (ap (take k) e ∙ take_at x r k n, past f (x ++ r) at k e ∙ drop_at x r k n)

pub peel16s : (f l r : List ℕ) (at : ℕ) → Words l → drop at f ≡ put16s l ++ r → (get16s f at (length l) ≡ l) × (drop (at + length l * 2) f ≡ r)
peel16s f [] r at w e = (refl, ap (λ (k : ℕ). drop k f) (add-zero at) ∙ e)
peel16s f (x ∷ l) r at w e =
    let p = peel16 f (put16s l ++ r) at x (w 0) e in
    let q = peel16s f l r (at + 2) (λ i. w (suc i)) p.1 in
    let k : at + 2 + length l * 2 ≡ at + length (x ∷ l) * 2 = omega arith in
    (ap₂ (λ (a : ℕ) (m : List ℕ). a ∷ m) p.0 q.0, ap (λ (n : ℕ). drop n f) (sym k) ∙ q.1)

-- and back: what stands from `at` on is the bytes of the number read there, and what follows
step : (f : List ℕ) (at k j : ℕ) → suc k ≡ j → at + k < length f → drop (at + k) f ≡ get_or f (at + k) 0 ∷ drop (at + j) f
step f at k j e h = rw (← e, add-suc, drop-cons f (at + k) 0 h)

step0 : (f : List ℕ) (at : ℕ) → at < length f → drop at f ≡ get_or f at 0 ∷ drop (at + 1) f
step0 f at h = rw (add-one, drop-cons f at 0 h)

pub grow16 : (f : List ℕ) (at : ℕ) → Bytes f → at + 2 ≤ length f → drop at f ≡ put16 (be16 f at) ++ drop (at + 2) f
grow16 f at b h =
    let x : ℕ = get_or f at 0 in
    let y : ℕ = get_or f (at + 1) 0 in
    let hx : x < 256 = b at in
    let hy : y < 256 = b (at + 1) in
    let s : drop at f ≡ x ∷ y ∷ drop (at + 2) f = rw (step0 f at (omega arith), step f at 1 2 refl (omega arith)) in
    let ex : (x * 256 + y) / 256 % 256 ≡ x = omega arith in
    let ey : (x * 256 + y) % 256 ≡ y = omega arith in
    rw (ex, ey) s

pub grow32 : (f : List ℕ) (at : ℕ) → Bytes f → at + 4 ≤ length f → drop at f ≡ put32 (be32 f at) ++ drop (at + 4) f
grow32 f at b h =
    let x : ℕ = get_or f at 0 in
    let y : ℕ = get_or f (at + 1) 0 in
    let z : ℕ = get_or f (at + 2) 0 in
    let w : ℕ = get_or f (at + 3) 0 in
    let hx : x < 256 = b at in
    let hy : y < 256 = b (at + 1) in
    let hz : z < 256 = b (at + 2) in
    let hw : w < 256 = b (at + 3) in
    let s : drop at f ≡ x ∷ y ∷ z ∷ w ∷ drop (at + 4) f =
    rw (step0 f at (omega arith), step f at 1 2 refl (omega arith), step f at 2 3 refl (omega arith), step f at 3 4 refl (omega arith)) in
    let ex : (x * 16777216 + y * 65536 + z * 256 + w) / 16777216 % 256 ≡ x = omega arith in
    let ey : (x * 16777216 + y * 65536 + z * 256 + w) / 65536 % 256 ≡ y = omega arith in
    let ez : (x * 16777216 + y * 65536 + z * 256 + w) / 256 % 256 ≡ z = omega arith in
    let ew : (x * 16777216 + y * 65536 + z * 256 + w) % 256 ≡ w = omega arith in
    rw (ex, ey, ez, ew) s

pub grow : (f : List ℕ) (at k : ℕ) → drop at f ≡ take k (drop at f) ++ drop (at + k) f
grow f at k = sym (take-append-drop k (drop at f)) ∙ ap (λ (l : List ℕ). take k (drop at f) ++ l) (drop-drop k at f)

pub grow16s : (f : List ℕ) (at n : ℕ) → Bytes f → at + n * 2 ≤ length f → drop at f ≡ put16s (get16s f at n) ++ drop (at + n * 2) f
grow16s f at zero b h = ap (λ (k : ℕ). drop k f) (sym (add-zero at))
grow16s f at (suc n) b h =
    let e : at + 2 + n * 2 ≡ at + suc n * 2 = omega arith in
    grow16 f at b (omega arith)
    ∙ ap (λ (l : List ℕ). put16 (be16 f at) ++ l)
    (grow16s f (at + 2) n b (omega arith) ∙ ap (λ (k : ℕ). put16s (get16s f (at + 2) n) ++ drop k f) e)

pub length_get16s : (f : List ℕ) (at n : ℕ) → length (get16s f at n) ≡ n
length_get16s f at zero = refl
length_get16s f at (suc n) = ap suc (length_get16s f (at + 2) n)

pub length_put16s : (l : List ℕ) → length (put16s l) ≡ length l * 2
length_put16s [] = refl
length_put16s (x ∷ l) = ap (λ (n : ℕ). suc (suc n)) (length_put16s l) ∙ omega arith
