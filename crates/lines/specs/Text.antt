-- Numbers and words as runs of bytes: what each store of the code comes to.
use Rattle.std.specs.Prelude.{◌≡◌, List, ℕ, ◌+◌, ◌/◌, ◌%◌, ◌<◌, ◌≤◌, length, get_or, take, set}
use Rattle.std.proofs.Common.{ap, subst, ◌∙◌, add-one, arith, length-append, take-suc}
use Rattle.std.proofs.Math.Seq.{take-length}
use Rattle.rules.specs.Report.{decimal}
use Rattle.laws.specs.ReportLaws.{decimal_small, decimal_more}
use Rattle.lines.specs.Lines.{Wrote, ◌then◌, wrote_byte, wrote_long}

-- the last digit of a number, alone or after those of its tenth
pub tenth_long : (x : ℕ) → 10 ≤ x → length (decimal x) ≡ length (decimal (x / 10)) + 1
tenth_long x h = ap length (decimal_more x h) ∙ simp length-append

pub small_long : (x : ℕ) → x < 10 → length (decimal x) ≡ 1
small_long x h = ap length (decimal_small x h)

pub small_done : {out : List ℕ} {at d : ℕ} (x : ℕ) → x < 10 → at + length (decimal x) ≤ length out → d ≡ 48 + x → Wrote out at (set out at d) (at + 1) (decimal x)
small_done {out} {at} {d} x h fits e = rw (decimal_small x h, ← e) (wrote_byte out at d (omega (arith, small_long x h)))

pub more_done : {out l : List ℕ} {at end d : ℕ} (x : ℕ) → 10 ≤ x → at + length (decimal x) ≤ length out → Wrote out at l end (decimal (x / 10)) → d ≡ 48 + x % 10 →
    Wrote out at (set l end d) (end + 1) (decimal x)
more_done {l = l} {end = end} {d = d} x h fits w e = rw (decimal_more x h, ← e) (w then wrote_byte l end d (omega (arith, tenth_long x h, wrote_long w, w.ends)))

-- a turn of the loop that writes a word
pub word_more : {out l : List ℕ} {at : ℕ} (word : List ℕ) (i : ℕ) → i < length word → at + length word ≤ length out → Wrote out at l (at + i) (take i word) →
    Wrote out at (set l (at + i) (get_or word i 0)) (at + (i + 1)) (take (i + 1) word)
word_more {l = l} {at = at} word i h fits w =
    let n : at + (i + 1) ≡ at + i + 1 = omega arith in
    rw (n, add-one i, take-suc word i 0 h) (w then wrote_byte l (at + i) (get_or word i 0) (omega (arith, wrote_long w)))

pub word_done : {out l word : List ℕ} {at : ℕ} (i : ℕ) → length word ≤ i → i ≤ length word → Wrote out at l (at + i) (take i word) → Wrote out at l (at + i) word
word_done {out} {l} {word} {at} i a b w =
    let e : i ≡ length word = omega arith in
    subst (Wrote out at l (at + i)) (rw (e, take-length)) w
