-- The bench pieces of docs/RULES.md, as one list, and the limits that the rules name: all by the definitions of the calls themselves.
use Rattle.std.specs.Prelude.{◌≡◌, refl, List, [], ◌∷◌, map, ℕ}
use Rattle.rules.specs.Tools.{bit, some, each, joined_up, first, refusal}
use Rattle.rules.specs.Images.{within, sized, row_bytes, bit_at, pixel, rows_of, stack_bytes, padded, padding_set, byte_of, bytes_of, rings_in, ring_at}
use Rattle.rules.specs.Reach.{settable, reach_of, square, bound_by, bound_of, apart, distance²}
use Rattle.rules.specs.Planning.{shadow, near, seeds, reached, touch, source, touching, fits, grow, grown, ring_plane, rings, excused, support_under, top_of}
use Rattle.rules.specs.Planning.{planned, empty, planned_rings, planned_bytes}
use Rattle.rules.specs.Judging.{overlap, bad_ring, unheld, unheld_number, first_in, place_of, tell, verdict, verdict_of}
use Rattle.rules.specs.Calls.{reach_cases, reach_answer, says_reached, setting_cases, length_cases, both_cases, stack_cases, plan_cases, plan_refusal, plan_answer}
use Rattle.rules.specs.Calls.{plan_support, plan_rings, judge_cases, judge_answer, says_planned, says_judged}
use Rattle.rules.specs.declared.Settings.{Settings}

-- a piece: W, H, N, t and the part to plan; or a support and rings to check against piece b
pub data Piece : Type 0 where
  plan : ℕ → ℕ → ℕ → ℕ → List ℕ → Piece
  check : List ℕ → List ℕ → Piece

-- what a call said, and the support and the rings that it left
pub data Result : Type 0 where
  plans : List ℕ → List ℕ → List ℕ → Result
  says : List ℕ → Result

-- "p is 100"
pub settings : ℕ → ℕ → ℕ → ℕ → Settings
settings w h n t = record { w = w; h = h; n = n; pitch = record { 0 = 100 }; overhang = record { 0 = t } }

-- lent memory that holds k times 255
pub lent : ℕ → List ℕ
lent k = each 0 k λ x. 255

pub run : Piece → Result
run (plan w h n t part) =
    let s : Settings = settings w h n t in
    let sup : List ℕ = lent (stack_bytes s) in
    let ring : List ℕ = lent (rings_in s) in
    plans (says_planned (plan_answer s part (stack_bytes s) (rings_in s))) (plan_support s part sup ring) (plan_rings s part sup ring)
run (check sup ring) = says (says_judged (judge_answer (settings 8 1 2 200) (0xE0 ∷ 0xFF ∷ []) sup ring))

-- the rings of piece b, and eight pixels with none
pub rings_of_b : List ℕ
rings_of_b = 0 ∷ 0 ∷ 0 ∷ 1 ∷ 2 ∷ 0 ∷ 0 ∷ 0 ∷ []

pub none : List ℕ
none = 0 ∷ 0 ∷ 0 ∷ 0 ∷ 0 ∷ 0 ∷ 0 ∷ 0 ∷ []

pub bench_pieces : map run (
    plan 8 1 1 200 (0xFF ∷ [])
    ∷ plan 8 1 2 200 (0xE0 ∷ 0xFF ∷ [])
    ∷ plan 8 1 2 200 (0xE0 ∷ 0x1F ∷ [])
    ∷ plan 8 1 2 300 (0xE0 ∷ 0xF7 ∷ [])
    ∷ plan 8 1 2 99 (0xE0 ∷ 0xFF ∷ [])
    ∷ plan 8 1 3 200 (0x00 ∷ 0xE0 ∷ 0xFF ∷ [])
    ∷ plan 8 1 3 200 (0x01 ∷ 0xE0 ∷ 0xFF ∷ [])
    ∷ plan 2 2 2 100 (0x80 ∷ 0x00 ∷ 0xC0 ∷ 0xC0 ∷ [])
    ∷ plan 2 2 2 150 (0x80 ∷ 0x00 ∷ 0xC0 ∷ 0xC0 ∷ [])
    ∷ check (0x0F ∷ 0x00 ∷ []) rings_of_b
    ∷ check (0x07 ∷ 0x00 ∷ []) (0 ∷ 0 ∷ 0 ∷ 1 ∷ 1 ∷ 0 ∷ 0 ∷ 0 ∷ [])
    ∷ check (0x03 ∷ 0x00 ∷ []) rings_of_b
    ∷ check (0x27 ∷ 0x00 ∷ []) rings_of_b
    ∷ []) ≡
    plans (0 ∷ []) (0x00 ∷ []) []
    ∷ plans (0 ∷ []) (0x07 ∷ 0x00 ∷ []) rings_of_b
    ∷ plans (0 ∷ []) (0x1F ∷ 0x00 ∷ []) none
    ∷ plans (0 ∷ []) (0x07 ∷ 0x00 ∷ []) (0 ∷ 0 ∷ 0 ∷ 1 ∷ 0 ∷ 0 ∷ 0 ∷ 0 ∷ [])
    ∷ plans (0 ∷ []) (0x1F ∷ 0x00 ∷ []) none
    ∷ plans (0 ∷ []) (0xE7 ∷ 0x07 ∷ 0x00 ∷ []) (0 ∷ 0 ∷ 0 ∷ 0 ∷ 0 ∷ 0 ∷ 0 ∷ 0 ∷ rings_of_b)
    ∷ plans (0 ∷ []) (0xE6 ∷ 0x07 ∷ 0x00 ∷ []) (0 ∷ 0 ∷ 0 ∷ 0 ∷ 0 ∷ 0 ∷ 0 ∷ 0 ∷ rings_of_b)
    ∷ plans (0 ∷ []) (0x00 ∷ 0x40 ∷ 0x00 ∷ 0x00 ∷ []) (0 ∷ 1 ∷ 1 ∷ 0 ∷ [])
    ∷ plans (0 ∷ []) (0x00 ∷ 0x00 ∷ 0x00 ∷ 0x00 ∷ []) (0 ∷ 1 ∷ 1 ∷ 1 ∷ [])
    ∷ says (0 ∷ [])
    ∷ says (10 ∷ 1 ∷ 0 ∷ 4 ∷ [])
    ∷ says (11 ∷ 1 ∷ 0 ∷ 5 ∷ [])
    ∷ says (9 ∷ 0 ∷ 0 ∷ 2 ∷ [])
    ∷ []
unfolding bit some each joined_up first within sized row_bytes bit_at pixel rows_of stack_bytes padded padding_set byte_of bytes_of rings_in ring_at settable reach_of square
    bound_by bound_of apart distance² shadow near seeds reached touch source touching fits grow grown ring_plane rings excused support_under top_of planned empty
    planned_rings planned_bytes overlap bad_ring unheld unheld_number first_in place_of tell verdict verdict_of reach_cases setting_cases length_cases plan_cases plan_refusal plan_answer
    plan_support plan_rings judge_cases both_cases stack_cases judge_answer settings lent run rings_of_b none
bench_pieces = refl

-- "one of its eight neighbours": a pixel joined by its corner alone is excused
pub corner_joins : run (plan 2 2 2 200 (0x80 ∷ 0x00 ∷ 0x80 ∷ 0x40 ∷ [])) ≡ plans (0 ∷ []) (0x00 ∷ 0x00 ∷ 0x00 ∷ 0x00 ∷ []) (0 ∷ 0 ∷ 0 ∷ 1 ∷ [])
unfolding bit some each joined_up first within sized row_bytes bit_at pixel rows_of stack_bytes padded padding_set byte_of bytes_of rings_in ring_at settable reach_of square
    bound_by bound_of apart distance² shadow near seeds reached touch source touching fits grow grown ring_plane rings excused support_under top_of planned empty
    planned_rings planned_bytes overlap bad_ring unheld unheld_number first_in place_of tell verdict verdict_of reach_cases setting_cases length_cases plan_cases plan_refusal plan_answer
    plan_support plan_rings judge_cases both_cases stack_cases judge_answer settings lent run
corner_joins = refl

-- "a corner is only about 141 away", by a little more: piece h has its corner supported at t 141, and not at t 142
pub corner_too_far : map (λ t. run (plan 2 2 2 t (0x80 ∷ 0x00 ∷ 0xC0 ∷ 0xC0 ∷ []))) (141 ∷ 142 ∷ [])
    ≡ plans (0 ∷ []) (0x00 ∷ 0x40 ∷ 0x00 ∷ 0x00 ∷ []) (0 ∷ 1 ∷ 1 ∷ 0 ∷ []) ∷ plans (0 ∷ []) (0x00 ∷ 0x00 ∷ 0x00 ∷ 0x00 ∷ []) (0 ∷ 1 ∷ 1 ∷ 1 ∷ []) ∷ []
unfolding bit some each joined_up first within sized row_bytes bit_at pixel rows_of stack_bytes padded padding_set byte_of bytes_of rings_in ring_at settable reach_of square
    bound_by bound_of apart distance² shadow near seeds reached touch source touching fits grow grown ring_plane rings excused support_under top_of planned empty
    planned_rings planned_bytes overlap bad_ring unheld unheld_number first_in place_of tell verdict verdict_of reach_cases setting_cases length_cases plan_cases plan_refusal plan_answer
    plan_support plan_rings judge_cases both_cases stack_cases judge_answer settings lent run
corner_too_far = refl

-- "Demands 2 and 3 read 'near' this way": the rings of piece h at t 150 are accepted from t 142 on
pub corner_judged :
    map (λ t. says_judged (judge_answer (settings 2 2 2 t) (0x80 ∷ 0x00 ∷ 0xC0 ∷ 0xC0 ∷ []) (0x00 ∷ 0x00 ∷ 0x00 ∷ 0x00 ∷ []) (0 ∷ 1 ∷ 1 ∷ 1 ∷ []))) (141 ∷ 142 ∷ 150 ∷ [])
    ≡ (10 ∷ 1 ∷ 1 ∷ 1 ∷ []) ∷ (0 ∷ []) ∷ (0 ∷ []) ∷ []
unfolding some first within sized row_bytes bit_at pixel rows_of stack_bytes padded padding_set rings_in ring_at settable reach_of square bound_by bound_of apart distance² shadow near
    seeds reached touch source touching fits overlap bad_ring unheld unheld_number first_in place_of tell verdict verdict_of reach_cases setting_cases length_cases judge_cases
    both_cases stack_cases judge_answer settings
corner_judged = refl

-- Limits ---------------------------------------------------------------------------------------------------------------

pub reaches : ℕ → ℕ → List ℕ
reaches p t = says_reached (reach_answer (record { 0 = p }) (record { 0 = t }))

-- "p 101, t 510 gives R 5; p 135, t 3,810 gives R 28"; "p 50: t 1,649 gives R 32, t 1,650 is 3. t 0 and t = p−1 give R 0";
-- and the ends of both ranges, 2 before 3
pub reach_limits :
    reaches 101 510 ∷ reaches 135 3810 ∷ reaches 50 1649 ∷ reaches 50 1650 ∷ reaches 100 0 ∷ reaches 100 99
    ∷ reaches 10 320 ∷ reaches 9 10000 ∷ reaches 1000 10000 ∷ reaches 1001 10000 ∷ reaches 10 10000 ∷ reaches 10 10001 ∷ reaches 0 0
    ∷ []
    ≡ (0 ∷ 5 ∷ []) ∷ (0 ∷ 28 ∷ []) ∷ (0 ∷ 32 ∷ []) ∷ (3 ∷ []) ∷ (0 ∷ 0 ∷ []) ∷ (0 ∷ 0 ∷ [])
    ∷ (0 ∷ 32 ∷ []) ∷ (2 ∷ []) ∷ (0 ∷ 10 ∷ []) ∷ (2 ∷ []) ∷ (3 ∷ []) ∷ (2 ∷ []) ∷ (2 ∷ [])
    ∷ []
unfolding within settable reach_of reach_cases reach_answer reaches
reach_limits = refl

pub sizes : ℕ → ℕ → ℕ → ℕ
sizes w h n = refusal (setting_cases (settings w h n 200))

-- "W 256 passes, 257 is 1", and the other ends of the three ranges
pub size_limits :
    sizes 256 1 1 ∷ sizes 257 1 1 ∷ sizes 0 1 1 ∷ sizes 1 256 1 ∷ sizes 1 257 1 ∷ sizes 1 0 1 ∷ sizes 1 1 512 ∷ sizes 1 1 513 ∷ sizes 1 1 0 ∷ []
    ≡ 0 ∷ 1 ∷ 1 ∷ 0 ∷ 1 ∷ 1 ∷ 0 ∷ 1 ∷ 1 ∷ []
unfolding within sized settable reach_of reach_cases setting_cases settings sizes
size_limits = refl

pub checks : List ℕ → List ℕ → List ℕ → List ℕ
checks part sup ring = says_judged (judge_answer (settings 8 1 2 200) part sup ring)

-- "Overlap anywhere comes before any bad ring, and any bad ring before any unheld pixel", and a ring 1 leans on a seed that carries
-- no ring
pub judging_order :
    checks (0xE0 ∷ 0xFF ∷ []) (0x23 ∷ 0x00 ∷ []) (0 ∷ 0 ∷ 0 ∷ 1 ∷ 1 ∷ 0 ∷ 0 ∷ 0 ∷ [])
    ∷ checks (0xE0 ∷ 0xFF ∷ []) (0x03 ∷ 0x00 ∷ []) (0 ∷ 0 ∷ 0 ∷ 1 ∷ 1 ∷ 0 ∷ 0 ∷ 0 ∷ [])
    ∷ checks (0x07 ∷ 0xFF ∷ []) (0xE0 ∷ 0x00 ∷ []) (0 ∷ 0 ∷ 0 ∷ 0 ∷ 1 ∷ 9 ∷ 0 ∷ 0 ∷ [])
    ∷ []
    ≡ (9 ∷ 0 ∷ 0 ∷ 2 ∷ []) ∷ (10 ∷ 1 ∷ 0 ∷ 4 ∷ []) ∷ (10 ∷ 1 ∷ 0 ∷ 4 ∷ []) ∷ []
unfolding some first within sized row_bytes bit_at pixel rows_of stack_bytes padded padding_set rings_in ring_at settable reach_of square bound_by bound_of apart distance² shadow near
    seeds reached touch source touching fits overlap bad_ring unheld unheld_number first_in place_of tell verdict verdict_of reach_cases setting_cases length_cases judge_cases
    both_cases stack_cases judge_answer settings checks
judging_order = refl
