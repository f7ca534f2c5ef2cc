-- Runs of bytes and of numbers that fill a buffer or a part of one, and the turns of the loops that write and read them.
use Rattle.std.specs.Prelude.{◌≡◌, refl, List, [], ◌∷◌, ◌++◌, ℕ, zero, suc, ◌+◌, ◌-◌, ◌*◌, ◌/◌, ◌%◌, ◌≤◌, ◌<◌, length, get_or, take, drop, set}
use Rattle.std.proofs.Common.{sym, ap, ◌∙◌, append_assoc, append-nil, add-zero, zero-add, add-one, arith, drop_of_length-le, take-suc, length-take-le, drop-cons}
use Rattle.std.proofs.Math.Seq.{take-length, append_snoc}
use Rattle.std.proofs.lemmas.List.{set_at}
use borrow.Rule.Slice.PartMut.{put_mid, Post-is}
use Rattle.rules.specs.Jobs.{be16, put16, put32, put16s, get16s, over}
use Rattle.laws.specs.Runs.{stores2, length_over, after}
use Rattle.laws.specs.Numbers.{length_get16s, length_put16s}

-- a part of a buffer that was filled and is back
pub filled : (d ys : List ℕ) (a e : ℕ) → e ≡ a + length ys → put_mid a (e - a) d ys ≡ over d a ys
unfolding over
filled d ys a e h = rw (Post-is a e d (omega arith), h, append_assoc)

-- a section: its count, and then a part of the buffer that was filled with its contents
pub counted : (d l ys xs : List ℕ) (at n e : ℕ) → l ≡ over d at (put32 n) → ys ≡ xs → e ≡ at + 4 + length xs → e ≤ length d → put_mid (at + 4) (e - (at + 4)) l ys ≡ over d at (put32 n ++ xs)
counted d l ys xs at n e h k m r =
    after d l _ (put32 n) xs at (at + 4) h refl (omega arith)
    (ap (put_mid (at + 4) (e - (at + 4)) l) k ∙ filled l xs (at + 4) e m)

-- a run as long as the buffer
pub over_all : (d xs : List ℕ) → length d ≡ length xs → over d 0 xs ≡ xs
unfolding over
over_all d xs e = let h : length d ≤ 0 + length xs = omega arith in rw (drop_of_length-le d h) (append-nil xs)

-- a turn of the loop that copies bytes
pub bytes_more : (d s : List ℕ) (i : ℕ) → i < length s → length d ≡ length s →
    set (take i s ++ drop i d) i (get_or s i 0) ≡ take (i + 1) s ++ drop (i + 1) d
bytes_more d s i h e =
    let k : i < length d = omega arith in
    ap (λ (r : List ℕ). set (take i s ++ r) i (get_or s i 0)) (drop-cons d i 0 k)
    ∙ set_at (take i s) (get_or d i 0) (drop (suc i) d) (get_or s i 0) i (length-take-le i s (omega arith))
    ∙ sym (append_snoc (take i s) (get_or s i 0) (drop (suc i) d))
    ∙ rw (add-one i, take-suc s i 0 h)

pub bytes_all : (d s : List ℕ) (n : ℕ) → n ≡ length s → length d ≡ length s → take n s ++ drop n d ≡ s
bytes_all d s n h e = let k : length d ≤ n = omega arith in rw (drop_of_length-le d k, h, take-length) (append-nil s)

put16s_append : (l m : List ℕ) → put16s (l ++ m) ≡ put16s l ++ put16s m
put16s_append [] m = refl
put16s_append (x ∷ l) m = ap (λ (z : List ℕ). put16 x ++ z) (put16s_append l m)

-- a turn of the loop that writes numbers
pub words_more : (d s : List ℕ) (i : ℕ) → i < length s → length d ≡ length s * 2 →
    let l : List ℕ = over d 0 (put16s (take i s)) in
    let v : ℕ = get_or s i 0 in
    set (set l (i * 2) (v / 256 % 256)) (i * 2 + 1) (v % 256) ≡ over d 0 (put16s (take (i + 1) s))
words_more d s i h r =
    let l : List ℕ = over d 0 (put16s (take i s)) in
    let n : 0 + length (put16s (take i s)) ≡ i * 2 = ap (λ (k : ℕ). 0 + k) (length_put16s (take i s) ∙ ap (λ (k : ℕ). k * 2) (length-take-le i s (omega arith))) ∙ zero-add (i * 2) in
    let m : length l ≡ length d = length_over d 0 (put16s (take i s)) (omega arith) in
    let e : put16s (take i s) ++ put16 (get_or s i 0) ≡ put16s (take (i + 1) s) = sym (rw (add-one i, take-suc s i 0 h) (put16s_append (take i s) (get_or s i 0 ∷ []))) in
    after d l _ (put16s (take i s)) (put16 (get_or s i 0)) 0 (i * 2) refl n (omega arith) (stores2 l (i * 2) _ _ (omega arith)) ∙ ap (over d 0) e

-- a turn of the loop that reads numbers
get16s_more : (f : List ℕ) (at n : ℕ) → get16s f at (suc n) ≡ get16s f at n ++ (be16 f (at + n * 2) ∷ [])
get16s_more f at zero = ap (λ (k : ℕ). be16 f k ∷ []) (sym (add-zero at))
get16s_more f at (suc n) =
    let e : at + 2 + n * 2 ≡ at + suc n * 2 = omega arith in
    ap (λ (l : List ℕ). be16 f at ∷ l)
    (get16s_more f (at + 2) n ∙ ap (λ (k : ℕ). get16s f (at + 2) n ++ (be16 f k ∷ [])) e)

pub copy_more : (f old : List ℕ) (at i : ℕ) → i < length old →
    set (get16s f at i ++ drop i old) i (be16 f (at + i * 2)) ≡ get16s f at (i + 1) ++ drop (i + 1) old
copy_more f old at i h =
    let p : List ℕ = get16s f at i in
    let v : ℕ = be16 f (at + i * 2) in
    ap (λ (r : List ℕ). set (p ++ r) i v) (drop-cons old i 0 h)
    ∙ set_at p (get_or old i 0) (drop (suc i) old) v i (length_get16s f at i)
    ∙ sym (append_snoc p v (drop (suc i) old))
    ∙ rw (add-one i) (ap (λ (l : List ℕ). l ++ drop (suc i) old) (sym (get16s_more f at i)))
