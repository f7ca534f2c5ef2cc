-- The report: its example, and that a printed number is the number.
use Rattle.std.specs.Prelude.{◌≡◌, refl, ◌↔◌, Bool, length, get_or, take}
use Rattle.std.proofs.Common.{sym, ap, ap₂, ◌∙◌, arith, length-append, drop_of_length-le, take-append-drop, ltb-true, ltb-false, lt-ltb, le-ltb}
use Rattle.std.proofs.Math.Logic.Iff
use Rattle.std.proofs.Math.Bool.{true, false, cond}
use mathlib.Core.List.{List, [], ◌∷◌, ◌++◌, append-nil, append_assoc}
use Prim.Native.Nat.{ℕ, zero, suc, ◌+◌, ◌-◌, ◌*◌, ◌/◌, ◌%◌, ◌≤◌, ◌<◌}
use Rattle.std.proofs.Math.Dec.{ltb}
use Rattle.rules.specs.Tools.{Case, ◌when◌, refusal, answer, bit, some, count, each, joined_up}
use Rattle.rules.specs.Images.{within, sized, row_bytes, bit_at, pixel, rows_of, stack_bytes, padded, padding_set, byte_of, bytes_of, rings_in, ring_at}
use Rattle.rules.specs.Reach.{settable, reach_of, square, bound_by, bound_of, apart, distance²}
use Rattle.rules.specs.Planning.{shadow, near, seeds, reached, touch, source, touching, fits, grow, grown, ring_plane, rings, excused, support_under, top_of}
use Rattle.rules.specs.Planning.{planned, empty, planned_rings, planned_bytes}
use Rattle.rules.specs.Jobs.{head_end, part_end, support_count, support_end, ring_count, job_end, settings_in, stored_in, part_in, support_in}
use Rattle.rules.specs.Calls.{says_refusal, reach_cases, setting_cases, section_cases, read_cases, read_refusal, refused, refused_in}
use Rattle.rules.specs.Report.{digits, decimal, spaced, newline, all_spaced, refused_line, job_line, filled, excused_above, layer_line, plan_lines, report_cases, report_of, text_of}
use Rattle.rules.specs.Demands.{Given, FirstRow, Tells}
use Rattle.rules.specs.declared.Settings.{Settings}
use Rattle.laws.specs.Tests.{split}
use Rattle.laws.specs.Refusals.{refusal_append, else_both, else_first, case_out, case_passes, read_numbered}
use Rattle.laws.specs.Padding.{number_exactly, tells}
use Rattle.laws.specs.JobFiles.{read_seven, read_eight}

-- "Input (28 bytes, hexadecimal) .. Whole output": `job 8 1 2 reach 2`, `1 8 0 0`, `0 3 3 2`
pub report_example :
    report_of (
    0x00 ∷ 0x00 ∷ 0x00 ∷ 0x05 ∷ 0x00 ∷ 0x08 ∷ 0x00 ∷ 0x01 ∷ 0x00 ∷ 0x02 ∷ 0x00 ∷ 0x64 ∷ 0x00 ∷ 0xC8 ∷
    0x00 ∷ 0x00 ∷ 0x00 ∷ 0x02 ∷ 0xE0 ∷ 0xFF ∷ 0x00 ∷ 0x00 ∷ 0x00 ∷ 0x00 ∷ 0x00 ∷ 0x00 ∷ 0x00 ∷ 0x00 ∷ [])
    ≡ 106 ∷ 111 ∷ 98 ∷ 32 ∷ 56 ∷ 32 ∷ 49 ∷ 32 ∷ 50 ∷ 32 ∷ 114 ∷ 101 ∷ 97 ∷ 99 ∷ 104 ∷ 32 ∷ 50 ∷ 10
    ∷ 49 ∷ 32 ∷ 56 ∷ 32 ∷ 48 ∷ 32 ∷ 48 ∷ 10
    ∷ 48 ∷ 32 ∷ 51 ∷ 32 ∷ 51 ∷ 32 ∷ 50 ∷ 10
    ∷ []
unfolding bit some count each joined_up within sized row_bytes bit_at pixel rows_of stack_bytes padded padding_set byte_of bytes_of rings_in ring_at settable reach_of square
    bound_by bound_of apart distance² shadow near seeds reached touch source touching fits grow grown ring_plane rings excused support_under top_of planned empty
    planned_rings planned_bytes head_end part_end support_count support_end ring_count job_end settings_in stored_in part_in support_in reach_cases setting_cases section_cases
    read_cases digits decimal spaced refused_line job_line filled excused_above layer_line plan_lines report_cases report_of
report_example = refl

-- the number that a run of digits stands for, after what came before it
unfoldable pub value_from : ℕ → List ℕ → ℕ
value_from v [] = v
value_from v (d ∷ ds) = value_from (v * 10 + (d - 48)) ds

value_append : (v : ℕ) (a b : List ℕ) → value_from v (a ++ b) ≡ value_from (value_from v a) b
unfolding value_from
value_append v [] b = refl
value_append v (d ∷ a) b = value_append (v * 10 + (d - 48)) a b

digits_value : (k x : ℕ) → x < k → value_from 0 (digits k x) ≡ x
unfolding digits value_from
digits_value zero x h = absurd (omega arith)
digits_value (suc k) x h =
    split (ltb x 10)
    (λ t. let l : x < 10 = ltb-true x 10 t in rw t (omega arith))
    (λ t.
    let l : 10 ≤ x = ltb-false x 10 t in
    rw (t, value_append, digits_value k (x / 10) (omega arith)) (omega arith))

-- a printed number is the number
pub decimal_value : (x : ℕ) → value_from 0 (decimal x) ≡ x
unfolding decimal
decimal_value x = digits_value (suc x) x (omega arith)

-- The digits of a number come from those of its tenth -------------------------------------------------------------------------

digits_fuel : (k j x : ℕ) → x < k → x < j → digits k x ≡ digits j x
unfolding digits
digits_fuel zero j x h l = absurd (omega arith)
digits_fuel (suc k) zero x h l = absurd (omega arith)
digits_fuel (suc k) (suc j) x h l =
    split (ltb x 10) (λ t. rw t)
    (λ t. let m : 10 ≤ x = ltb-false x 10 t in rw (t, digits_fuel k j (x / 10) (omega arith) (omega arith)))

pub decimal_small : (x : ℕ) → x < 10 → decimal x ≡ (48 + x) ∷ []
unfolding decimal digits
decimal_small x h = let e : x % 10 ≡ x = omega arith in rw (lt-ltb x 10 h, e)

pub decimal_more : (x : ℕ) → 10 ≤ x → decimal x ≡ decimal (x / 10) ++ (48 + x % 10) ∷ []
unfolding decimal digits
decimal_more x h = rw (le-ltb x 10 h) (ap (λ (l : List ℕ). l ++ (48 + x % 10) ∷ []) (digits_fuel x (suc (x / 10)) (x / 10) (omega arith) (omega arith)))

-- a number below 10 ^ 5 has at most five digits
longer : (x n : ℕ) → (10 ≤ x → length (decimal (x / 10)) ≤ n) → length (decimal x) ≤ suc n
longer x n h =
    split (ltb x 10)
    (λ t. rw (decimal_small x (ltb-true x 10 t)) (omega arith))
    (λ t. let l : 10 ≤ x = ltb-false x 10 t in rw (decimal_more x l) (simp length-append (omega (arith, h l))))

pub decimal_length : (x : ℕ) → x < 100000 → length (decimal x) ≤ 5
decimal_length x h =
    longer x 4 (λ a. longer (x / 10) 3 (λ b. longer (x / 10 / 10) 2 (λ c. longer (x / 10 / 10 / 10) 1 (λ d.
    longer (x / 10 / 10 / 10 / 10) 0 (λ e. absurd (omega arith))))))

-- what the program does not refuse, reading does not
pub report_reads : (f : List ℕ) → refusal (report_cases f) ≡ 0 → read_refusal f ≡ 0
unfolding report_cases read_refusal
report_reads f e =
    let rest : List Case = read_cases f ++ (17 when ltb 32768 (rings_in (settings_in f))) ∷ [] in
    let (_, z) = case_out (ltb 65536 (length f)) 16 (refusal rest) e in
    (else_both (refusal (read_cases f)) _ (sym (refusal_append (read_cases f) ((17 when ltb 32768 (rings_in (settings_in f))) ∷ []) (read_numbered f)) ∙ z)).0

-- 17 in both places ----------------------------------------------------------------------------------------------------------------

pub report_too_long : (f : List ℕ) → 65536 < length f → report_of f ≡ refused_line (17 ∷ [])
unfolding report_of report_cases refused_in refused
report_too_long f h = rw (lt-ltb 65536 (length f) h)

pub report_no_room : (f : List ℕ) → length f ≤ 65536 → refusal (read_cases f) ≡ 0 → 32768 < rings_in (settings_in f) → report_of f ≡ refused_line (17 ∷ [])
unfolding report_of report_cases refused_in refused
report_no_room f h e r =
    let a : refusal (read_cases f ++ (17 when ltb 32768 (rings_in (settings_in f))) ∷ []) ≡ 17 =
    refusal_append (read_cases f) ((17 when ltb 32768 (rings_in (settings_in f))) ∷ []) (read_numbered f) ∙ rw (e, lt-ltb 32768 (rings_in (settings_in f)) r) in
    rw (le-ltb 65536 (length f) h, a)

-- and the lines where neither is met and the job is read
pub report_prints : (f : List ℕ) → length f ≤ 65536 → refusal (read_cases f) ≡ 0 → rings_in (settings_in f) ≤ 32768 → report_of f ≡ plan_lines (settings_in f) (part_in f)
unfolding report_of report_cases
report_prints f h e r =
    let a : refusal (read_cases f ++ (17 when ltb 32768 (rings_in (settings_in f))) ∷ []) ≡ 0 =
    refusal_append (read_cases f) ((17 when ltb 32768 (rings_in (settings_in f))) ∷ []) (read_numbered f) ∙ rw (e, le-ltb 32768 (rings_in (settings_in f)) r) in
    rw (le-ltb 65536 (length f) h, a)

-- other refusals print their number, and their place
pub report_refused : (f : List ℕ) (k : ℕ) → length f ≤ 65536 → refusal (read_cases f) ≡ suc k → report_of f ≡ refused_line (says_refusal (refused_in f (suc k)))
unfolding report_of report_cases
report_refused f k h e =
    let a : refusal (read_cases f ++ (17 when ltb 32768 (rings_in (settings_in f))) ∷ []) ≡ suc k =
    refusal_append (read_cases f) ((17 when ltb 32768 (rings_in (settings_in f))) ∷ []) (read_numbered f) ∙ rw e in
    rw (le-ltb 65536 (length f) h, a)

-- A line is read back: the numbers that it prints -----------------------------------------------------------------------------------

data Figures : List ℕ → Type 0 where
  none : Figures []
  more : {x : ℕ} {xs : List ℕ} → 48 ≤ x → Figures xs → Figures (x ∷ xs)

figures_append : {a b : List ℕ} → Figures a → Figures b → Figures (a ++ b)
figures_append none f = f
figures_append (more h g) f = more h (figures_append g f)

digits_figures : (k x : ℕ) → Figures (digits k x)
unfolding digits
digits_figures zero x = none
digits_figures (suc k) x = figures_append (go (ltb x 10) (digits_figures k (x / 10))) (more (omega arith) none)
  where
    go : (b : Bool) → Figures (digits k (x / 10)) → Figures (cond b [] (digits k (x / 10)))
    go true f = none
    go false f = f

-- figures end where the first byte below them stands
cut : {a b : List ℕ} (c d : ℕ) (r t : List ℕ) → Figures a → Figures b → c < 48 → d < 48 → a ++ c ∷ r ≡ b ++ d ∷ t → (a ≡ b) × (c ∷ r ≡ d ∷ t)
cut c d r t none none hc hd e = (refl, e)
cut c d r t none (more {x = y} h g) hc hd e = absurd (let z : c ≡ y = cc in omega arith)
cut c d r t (more {x = x} h f) none hc hd e = absurd (let z : x ≡ d = cc in omega arith)
cut c d r t (more {x = x} {xs = a} h f) (more {x = y} {xs = b} i g) hc hd e =
    let z : x ≡ y = cc in
    let w : a ++ c ∷ r ≡ b ++ d ∷ t = cc in
    let (p, q) = cut c d r t f g hc hd w in
    (ap₂ (λ (u : ℕ) (v : List ℕ). u ∷ v) z p, q)

-- what follows a number begins with a space or ends the line
follows : (l : List ℕ) → (c : ℕ) × (r : List ℕ) × (c < 48) × (all_spaced l ++ newline ≡ c ∷ r)
unfolding all_spaced spaced
follows [] = (10, [], omega arith, refl)
follows (x ∷ l) = (32, (decimal x ++ all_spaced l) ++ newline, omega arith, refl)

line_tells : (l m : List ℕ) → all_spaced l ++ newline ≡ all_spaced m ++ newline → l ≡ m
unfolding all_spaced spaced decimal
line_tells [] [] e = refl
line_tells [] (y ∷ m) e = absurd (let z : ◌≡◌ {A = ℕ} 10 32 = cc in omega arith)
line_tells (x ∷ l) [] e = absurd (let z : ◌≡◌ {A = ℕ} 32 10 = cc in omega arith)
line_tells (x ∷ l) (y ∷ m) e =
    let (c, r, hc, ec) = follows l in
    let (d, t, hd, ed) = follows m in
    let tail : (decimal x ++ all_spaced l) ++ newline ≡ (decimal y ++ all_spaced m) ++ newline = cc in
    let apart : decimal x ++ c ∷ r ≡ decimal y ++ d ∷ t =
    ap (λ (v : List ℕ). decimal x ++ v) (sym ec)
    ∙ sym (append_assoc (decimal x) (all_spaced l) newline)
    ∙ tail
    ∙ append_assoc (decimal y) (all_spaced m) newline
    ∙ ap (λ (v : List ℕ). decimal y ++ v) ed in
    let (p, q) = cut c d r t (digits_figures (suc x) x) (digits_figures (suc y) y) hc hd apart in
    let same : x ≡ y = sym (decimal_value x) ∙ ap (value_from 0) p ∙ decimal_value y in
    ap₂ (λ (u : ℕ) (v : List ℕ). u ∷ v) same (line_tells l m (ec ∙ q ∙ sym ed))

refused_tells : (l m : List ℕ) → refused_line l ≡ refused_line m → l ≡ m
unfolding refused_line
refused_tells l m e = line_tells l m cc

-- What the program says of a job that it refuses --------------------------------------------------------------------------------------

-- no plan begins like a refusal
first_byte : (s : Settings) (part said : List ℕ) → plan_lines s part ≡ refused_line said → ◌≡◌ {A = ℕ} 106 114
unfolding plan_lines job_line refused_line
first_byte s part said e = cc

module _ (f : List ℕ) where
  -- the number and the place, or 0
  abbrev pub report_says : List ℕ
  report_says = answer (refusal (report_cases f)) (0 ∷ []) (λ k. says_refusal (refused_in f k))

  -- "the report prints it after the number, a space before each part": a line with a number is printed exactly where that and no more is to be said
  pub report_line : (k : ℕ) (l : List ℕ) → (report_of f ≡ refused_line (suc k ∷ l)) ↔ (report_says ≡ suc k ∷ l)
  unfolding report_of
  report_line k l = (go (refusal (report_cases f)), back (refusal (report_cases f)))
    where
      text : ℕ → List ℕ
      text x = answer x (plan_lines (settings_in f) (part_in f)) (λ j. refused_line (says_refusal (refused_in f j)))

      said : ℕ → List ℕ
      said x = answer x (0 ∷ []) (λ j. says_refusal (refused_in f j))

      go : (x : ℕ) → text x ≡ refused_line (suc k ∷ l) → said x ≡ suc k ∷ l
      go zero e = absurd (let z : ◌≡◌ {A = ℕ} 106 114 = first_byte (settings_in f) (part_in f) (suc k ∷ l) e in omega arith)
      go (suc x) e = refused_tells (says_refusal (refused_in f (suc x))) (suc k ∷ l) e

      back : (x : ℕ) → said x ≡ suc k ∷ l → text x ≡ refused_line (suc k ∷ l)
      back zero e = absurd (let z : ◌≡◌ {A = ℕ} 0 (suc k) = cc in omega arith)
      back (suc x) e = ap refused_line e

  said_number : (k : ℕ) → (get_or report_says 0 0 ≡ suc k) ↔ Given (suc k) (report_cases f)
  unfolding refused_in
  said_number k = number_exactly (λ l. l) (0 ∷ []) says_refusal (λ j. refl) (report_cases f) (settings_in f) (part_in f) (support_in f) k (λ e. omega arith)

  -- 7 and 8 of the program are those of reading
  pub reported_as_read : (k : ℕ) → (17 ≡ suc k → ⊥) → refusal (report_cases f) ≡ suc k → read_refusal f ≡ suc k
  unfolding report_cases read_refusal
  reported_as_read k n e =
      let rings : List Case = (17 when ltb 32768 (rings_in (settings_in f))) ∷ [] in
      let (_, z) = case_passes (ltb 65536 (length f)) 17 (refusal (read_cases f ++ rings)) (suc k) n e in
      else_first (refusal (read_cases f)) (refusal rings) (suc k) (λ h. n (other (ltb 32768 (rings_in (settings_in f))) h)) (sym (refusal_append (read_cases f) rings (read_numbered f)) ∙ z)
    where
      other : (b : Bool) → cond b 17 0 ≡ suc k → 17 ≡ suc k
      other true h = h
      other false h = absurd (omega arith)

  pub report_tells : Tells report_says (report_cases f) (settings_in f) (part_in f) (support_in f)
  unfolding refused_in
  report_tells =
      tells (λ l. l) (0 ∷ []) says_refusal (λ j. refl) (report_cases f) (settings_in f) (part_in f) (support_in f) (λ e. omega arith) (λ e. omega arith)
      (λ e. (read_seven f (reported_as_read 6 (λ z. omega arith) e)).1.set)
      (λ e. (read_eight f (reported_as_read 7 (λ z. omega arith) e)).1.set)

  -- "Other refusals print `refused` and the number": a number without a place is printed exactly when the program's table gives it
  pub report_exactly : (k : ℕ) → (suc k ≡ 7 → ⊥) → (suc k ≡ 8 → ⊥) → (report_of f ≡ refused_line (suc k ∷ [])) ↔ Given (suc k) (report_cases f)
  report_exactly k n7 n8 =
      let line = report_line k [] in
      ((λ e. (said_number k).0 (ap (λ (l : List ℕ). get_or l 0 0) (line.0 e))), (λ g. line.1 (report_tells.alone k g n7 n8)))

  -- `refused 7 1 0` and its like: 7 is printed with the first row of the part whose padding is set, and 8 with that of the support
  pub report_part_row : (i r : ℕ) → (report_of f ≡ refused_line (7 ∷ i ∷ r ∷ [])) ↔ (Given 7 (report_cases f) × FirstRow (settings_in f).w (settings_in f).h (settings_in f).n (part_in f) i r)
  report_part_row i r = Iff.trans (report_line 6 (i ∷ r ∷ [])) (report_tells.part_row i r)

  pub report_support_row : (i r : ℕ) → (report_of f ≡ refused_line (8 ∷ i ∷ r ∷ [])) ↔ (Given 8 (report_cases f) × FirstRow (settings_in f).w (settings_in f).h (settings_in f).n (support_in f) i r)
  report_support_row i r = Iff.trans (report_line 7 (i ∷ r ∷ [])) (report_tells.support_row i r)

pub take_all : (n : ℕ) (l : List ℕ) → length l ≤ n → take n l ≡ l
take_all n l h = sym (append-nil (take n l)) ∙ ap (λ (x : List ℕ). take n l ++ x) (sym (drop_of_length-le l h)) ∙ take-append-drop n l

-- the program reads 65,536 bytes and asks whether there are more: what it then prints is the report of the whole input
pub report_whole : (f : List ℕ) → text_of (take 65536 f) (ltb 65536 (length f)) ≡ report_of f
report_whole f =
    split (ltb 65536 (length f))
    (λ t. rw t (sym (report_too_long f (ltb-true 65536 (length f) t))))
    (λ t. rw t (ap report_of (take_all 65536 f (ltb-false 65536 (length f) t))))
