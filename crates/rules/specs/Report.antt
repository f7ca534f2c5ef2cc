-- Rules 7: what the report program prints for any input, as the bytes of its text.
use Rattle.std.specs.Prelude.{Bool, cond, List, [], ◌∷◌, ◌++◌, ℕ, zero, suc, ◌+◌, ◌-◌, ◌*◌, ◌/◌, ◌%◌, ltb, length}
use Rattle.rules.specs.Tools.{count, joined_up, Case, ◌when◌, refusal, answer}
use Rattle.rules.specs.Images.{Stack, Rings, pixel, rings_in, ring_at}
use Rattle.rules.specs.Reach.{reach_of, bound_of}
use Rattle.rules.specs.Planning.{excused, planned_rings, planned_bytes}
use Rattle.rules.specs.Jobs.{settings_in, part_in}
use Rattle.rules.specs.Calls.{says_refusal, read_cases, refused_in}
use Rattle.rules.specs.declared.Settings.{Settings}

-- Rule 7.4: a number in decimal, of at most as many digits as the first argument says; 48 is the digit 0
unfoldable pub digits : ℕ → ℕ → List ℕ
digits zero x = []
digits (suc k) x = cond (ltb x 10) [] (digits k (x / 10)) ++ (48 + x % 10) ∷ []

unfoldable pub decimal : ℕ → List ℕ
decimal x = digits (suc x) x

-- Rule 7.4: a space and a number; the end of a line
unfoldable pub spaced : ℕ → List ℕ
spaced x = 32 ∷ decimal x

abbrev pub newline : List ℕ
newline = 10 ∷ []

-- "a space before each part": numbers, each behind a space
unfoldable pub all_spaced : List ℕ → List ℕ
all_spaced [] = []
all_spaced (x ∷ xs) = spaced x ++ all_spaced xs

-- Rule 7.2: `refused` and what the refusal says, its number and its place "after the number"
unfoldable pub refused_line : List ℕ → List ℕ
refused_line said = 114 ∷ 101 ∷ 102 ∷ 117 ∷ 115 ∷ 101 ∷ 100 ∷ all_spaced said ++ newline

-- Rule 7.3: `job`, the three sizes, `reach`, and the reach
unfoldable pub job_line : Settings → List ℕ
job_line s =
    106 ∷ 111 ∷ 98 ∷ spaced s.w ++ spaced s.h ++ spaced s.n
    ++ 32 ∷ 114 ∷ 101 ∷ 97 ∷ 99 ∷ 104 ∷ spaced (reach_of s.pitch s.overhang).0
    ++ newline

-- Rule 7.3: the filled pixels of a layer, and the excused pixels of the pair above it, 0 for the top
unfoldable pub filled : Settings → Stack → ℕ → ℕ
filled s f i = count (s.h * s.w) (f i)

unfoldable pub excused_above : Settings → Rings → ℕ → ℕ
excused_above s ring i = cond (ltb (suc i) s.n) (count (s.h * s.w) (excused ring i)) 0

-- Rule 7.3: a layer, its part pixels, its support pixels, the excused pixels of the pair above it
unfoldable pub layer_line : Settings → Stack → Stack → Rings → ℕ → List ℕ
layer_line s part sup ring i = decimal i ++ spaced (filled s part i) ++ spaced (filled s sup i) ++ spaced (excused_above s ring i) ++ newline

-- Rule 7.3: the part is planned afresh, and its layers are told from the top down
unfoldable pub plan_lines : Settings → List ℕ → List ℕ
plan_lines s part =
    let q : ℕ → ℕ = bound_of s in
    let sup : List ℕ = planned_bytes s.w s.h s.n q part in
    let ring : List ℕ = planned_rings s.w s.h s.n q part in
    job_line s
    ++ joined_up 0 s.n λ k. layer_line s (pixel s.w s.h part) (pixel s.w s.h sup) (ring_at s.w s.h ring) (s.n - 1 - k)

-- Rule 7.1: the length of the input before anything else, the room for rings after a good read
unfoldable pub report_cases : List ℕ → List Case
report_cases f =
    (17 when ltb 65536 (length f))
    ∷ read_cases f
    ++ (17 when ltb 32768 (rings_in (settings_in f)))
    ∷ []

unfoldable pub report_of : List ℕ → List ℕ
report_of f = answer (refusal (report_cases f)) (plan_lines (settings_in f) (part_in f)) (λ k. refused_line (says_refusal (refused_in f k)))

-- what is printed where f is what was read, and `more` says that the input goes on after it
abbrev pub text_of : List ℕ → Bool → List ℕ
text_of f more = cond more (refused_line (17 ∷ [])) (report_of f)
