-- Examples beside the bench pieces, computed by the definitions of the calls: one input for each number that a call can give, images of
-- several rows and bytes, a job file with support and rings, and the report's text.
use Rattle.std.specs.Prelude.{◌≡◌, refl, List, [], ◌∷◌, ◌++◌, map, Bool, true, false, ℕ, get_or, take, drop, set}
use Rattle.rules.specs.Tools.{bit, some, count, largest, each, joined_up, first}
use Rattle.rules.specs.Images.{Rings, within, sized, row_bytes, bit_at, pixel, rows_of, stack_bytes, padded, padding_set, first_padded, byte_of, bytes_of, rings_in, ring_at}
use Rattle.rules.specs.Reach.{settable, reach_of, square, bound_by, bound_of, apart, distance², root, half_width}
use Rattle.rules.specs.Planning.{shadow, near, seeds, reached, touch, source, touching, fits, grow, grown, ring_plane, rings, excused, support_under, top_of}
use Rattle.rules.specs.Planning.{planned, empty, planned_rings, planned_bytes, dilated, swallowed, growing_swallow, region_subtraction}
use Rattle.rules.specs.Cleaning.{disc_of, eroded, closed, cleaned_under, cleaned, cleaned_bytes, region_subtraction_fdm}
use Rattle.rules.specs.Judging.{overlap, bad_ring, unheld, unheld_number, first_in, place_of, tell, verdict, verdict_of}
use Rattle.rules.specs.Jobs.{Job, be16, be32, put16, put32, get16s, put16s, head_end, part_end, support_count, support_end, ring_count, job_end, settings_in, stored_in}
use Rattle.rules.specs.Jobs.{part_in, support_in, rings_stored, layout_of, stored_rows, file_of, file_length}
use Rattle.rules.specs.Calls.{says_planned, says_judged, says_read, says_copied, says_written, reach_cases, setting_cases, length_cases, both_cases, stack_cases}
use Rattle.rules.specs.Calls.{tell_row, refused, refused_in, clean_cases, clean_refusal, clean_answer, clean_cleaned}
use Rattle.rules.specs.Calls.{plan_cases, plan_refusal, plan_answer, plan_support, plan_rings, judge_cases, judge_answer, section_cases, read_cases, read_refusal}
use Rattle.rules.specs.Calls.{read_answer, part_answer, support_answer, copy_cases, copy_answer, copy_rings, write_cases, write_refusal, write_answer}
use Rattle.rules.specs.Report.{digits, decimal, spaced, all_spaced, refused_line, job_line, filled, excused_above, layer_line, plan_lines, report_cases, report_of}
use Rattle.rules.specs.declared.Settings.{Settings}

unfoldable pub settings : ℕ → ℕ → ℕ → ℕ → ℕ → Settings
settings w h n p t = record { w = w; h = h; n = n; pitch = record { 0 = p }; overhang = record { 0 = t } }

-- Planning ---------------------------------------------------------------------------------------------------------------

-- what planning leaves in memory that held nothing: the support, and then the rings
pub leaves : Settings → List ℕ → List (List ℕ)
leaves s part =
    let sup : List ℕ = each 0 (stack_bytes s) (λ x. 0) in
    let ring : List ℕ = each 0 (rings_in s) (λ x. 0) in
    plan_support s part sup ring ∷ plan_rings s part sup ring ∷ []

-- a plate over one pixel, all of it near and joined; and rows of two bytes
pub plans_rows :
    leaves (settings 3 3 2 100 300) (0x80 ∷ 0x00 ∷ 0x00 ∷ 0xE0 ∷ 0xE0 ∷ 0xE0 ∷ [])
    ∷ leaves (settings 9 2 2 100 200) (0x80 ∷ 0x00 ∷ 0x00 ∷ 0x00 ∷ 0xFF ∷ 0x80 ∷ 0x00 ∷ 0x80 ∷ [])
    ∷ []
    ≡ ((0x00 ∷ 0x00 ∷ 0x00 ∷ 0x00 ∷ 0x00 ∷ 0x00 ∷ []) ∷ (0 ∷ 1 ∷ 2 ∷ 1 ∷ 1 ∷ 2 ∷ 2 ∷ 2 ∷ 2 ∷ []) ∷ [])
    ∷ ((0x1F ∷ 0x80 ∷ 0x00 ∷ 0x80 ∷ 0x00 ∷ 0x00 ∷ 0x00 ∷ 0x00 ∷ []) ∷ (0 ∷ 1 ∷ 2 ∷ 0 ∷ 0 ∷ 0 ∷ 0 ∷ 0 ∷ 0 ∷ 0 ∷ 0 ∷ 0 ∷ 0 ∷ 0 ∷ 0 ∷ 0 ∷ 0 ∷ 0 ∷ []) ∷ [])
    ∷ []
unfolding bit some each joined_up within sized row_bytes bit_at pixel rows_of stack_bytes padded padding_set byte_of bytes_of rings_in ring_at settable reach_of square bound_by bound_of
    apart distance² shadow near seeds reached touch source touching fits grow grown ring_plane rings excused support_under top_of planned empty planned_rings
    planned_bytes reach_cases setting_cases length_cases plan_cases stack_cases plan_refusal plan_support plan_rings settings leaves
plans_rows = refl

-- near any part of the layer below, also where the upper layer has none; and a path of ten steps in a plane of three rows and six columns
pub plans_paths :
    leaves (settings 8 1 2 100 200) (0x84 ∷ 0xF8 ∷ [])
    ∷ leaves (settings 6 3 2 100 600) (0x80 ∷ 0x00 ∷ 0x00 ∷ 0xFC ∷ 0x04 ∷ 0xFC ∷ [])
    ∷ []
    ≡ ((0x00 ∷ 0x00 ∷ []) ∷ (0 ∷ 1 ∷ 2 ∷ 3 ∷ 4 ∷ 0 ∷ 0 ∷ 0 ∷ []) ∷ [])
    ∷ ((0x00 ∷ 0x00 ∷ 0x00 ∷ 0x00 ∷ 0x00 ∷ 0x00 ∷ []) ∷ (0 ∷ 1 ∷ 2 ∷ 3 ∷ 4 ∷ 5 ∷ 0 ∷ 0 ∷ 0 ∷ 0 ∷ 0 ∷ 5 ∷ 10 ∷ 9 ∷ 8 ∷ 7 ∷ 6 ∷ 6 ∷ []) ∷ [])
    ∷ []
unfolding bit some each joined_up within sized row_bytes bit_at pixel rows_of stack_bytes padded padding_set byte_of bytes_of rings_in ring_at settable reach_of square bound_by bound_of
    apart distance² shadow near seeds reached touch source touching fits grow grown ring_plane rings excused support_under top_of planned empty planned_rings
    planned_bytes reach_cases setting_cases length_cases plan_cases stack_cases plan_refusal plan_support plan_rings settings leaves
plans_paths = refl

-- "t²/p² rounded down": p 100 with t up to 224 and more; p 101 and p 135, the lowest pair and the highest; and p 66, t 2,177, where the quotient is only just 1,088
pub bounds :
    map (λ t. bound_of (settings 1 1 512 100 t) 0) (0 ∷ 99 ∷ 100 ∷ 141 ∷ 142 ∷ 150 ∷ 173 ∷ 174 ∷ 199 ∷ 200 ∷ 223 ∷ 224 ∷ 510 ∷ 3200 ∷ 3299 ∷ [])
    ∷ (bound_of (settings 1 1 512 101 510) 0 ∷ bound_of (settings 1 1 512 135 3810) 510 ∷ bound_of (settings 1 1 2 66 2176) 0 ∷ bound_of (settings 1 1 2 66 2177) 0 ∷ [])
    ∷ []
    ≡ (0 ∷ 0 ∷ 1 ∷ 1 ∷ 2 ∷ 2 ∷ 2 ∷ 3 ∷ 3 ∷ 4 ∷ 4 ∷ 5 ∷ 26 ∷ 1024 ∷ 1088 ∷ [])
    ∷ (25 ∷ 796 ∷ 1087 ∷ 1088 ∷ [])
    ∷ []
unfolding square bound_by bound_of settings
bounds = refl

-- "one of its eight neighbours": those of the middle of nine pixels, and of a corner
pub eight_neighbours : map (touch 3 4) (0 ∷ 1 ∷ 2 ∷ 3 ∷ 4 ∷ 5 ∷ 6 ∷ 7 ∷ 8 ∷ []) ∷ map (touch 3 0) (0 ∷ 1 ∷ 2 ∷ 3 ∷ 4 ∷ 5 ∷ 6 ∷ 7 ∷ 8 ∷ []) ∷ []
    ≡ (true ∷ true ∷ true ∷ true ∷ false ∷ true ∷ true ∷ true ∷ true ∷ []) ∷ (false ∷ true ∷ false ∷ true ∷ true ∷ false ∷ false ∷ false ∷ false ∷ []) ∷ []
unfolding apart touch
eight_neighbours = refl

-- "the largest whole number whose square is at most m", and how far the discs of the bounds 25 and 1,088 run to each side in their rows
pub roots_and_halves : map root (0 ∷ 1 ∷ 2 ∷ 3 ∷ 4 ∷ 8 ∷ 9 ∷ 15 ∷ 16 ∷ 99 ∷ 100 ∷ 1023 ∷ 1024 ∷ 1088 ∷ 1089 ∷ []) ∷ map (half_width 25) (0 ∷ 1 ∷ 2 ∷ 3 ∷ 4 ∷ 5 ∷ []) ∷ map (half_width 1088) (0 ∷ 8 ∷ 9 ∷ 32 ∷ []) ∷ []
    ≡ (0 ∷ 1 ∷ 1 ∷ 1 ∷ 2 ∷ 2 ∷ 3 ∷ 3 ∷ 4 ∷ 9 ∷ 10 ∷ 31 ∷ 32 ∷ 32 ∷ 33 ∷ []) ∷ (5 ∷ 4 ∷ 4 ∷ 4 ∷ 3 ∷ 0 ∷ []) ∷ (32 ∷ 32 ∷ 31 ∷ 8 ∷ []) ∷ []
unfolding largest square root half_width
roots_and_halves = refl

-- Algorithm 2 of the chapter, by itself: the lower layers of pieces d, e and g, the last with the support 07 above
pub algorithm_2 :
    each 0 8 (region_subtraction 8 1 9 (bit_at 0xE0) (bit_at 0xF7) (λ p. false))
    ∷ each 0 8 (region_subtraction 8 1 0 (bit_at 0xE0) (bit_at 0xFF) (λ p. false))
    ∷ each 0 8 (region_subtraction 8 1 4 (bit_at 0x01) (bit_at 0xE0) (bit_at 0x07))
    ∷ []
    ≡ each 0 8 (bit_at 0x07) ∷ each 0 8 (bit_at 0x1F) ∷ each 0 8 (bit_at 0xE6) ∷ []
unfolding some each bit_at square apart distance² shadow near touch touching dilated swallowed growing_swallow region_subtraction
algorithm_2 = refl

-- what is painted besides stays outside the part, in the top layer and below it: 18 and 21 painted over E0 in both layers
pub paints : Rings → ℕ → List Bool
paints ring i = each 0 8 (planned 2 (λ i. bit_at 0xE0) (λ i. bit_at (get_or (0x21 ∷ 0x18 ∷ []) i 0)) ring i)

pub painted_kept : paints (λ i p. 0) 1 ∷ paints (λ i p. 0) 0 ∷ [] ≡ each 0 8 (bit_at 0x18) ∷ each 0 8 (bit_at 0x19) ∷ []
unfolding each bit_at shadow excused support_under top_of planned paints
painted_kept = refl

pub plan_says : Settings → List ℕ → ℕ → ℕ → List ℕ
plan_says s part a b = says_planned (plan_answer s part a b)

-- 1 to 7, each with all that comes after it wrong as well where that can be, and 0
pub plan_numbers :
    plan_says (settings 257 0 0 9 10001) (1 ∷ []) 9 9
    ∷ plan_says (settings 7 1 2 9 10001) (1 ∷ []) 9 9
    ∷ plan_says (settings 7 1 2 10 330) (1 ∷ []) 9 9
    ∷ plan_says (settings 7 1 2 10 320) (1 ∷ []) 9 9
    ∷ plan_says (settings 7 1 2 10 320) (1 ∷ 1 ∷ []) 3 9
    ∷ plan_says (settings 7 1 2 10 320) (1 ∷ 1 ∷ []) 2 8
    ∷ plan_says (settings 7 1 2 10 320) (0 ∷ 1 ∷ []) 2 7
    ∷ plan_says (settings 7 1 2 10 320) (2 ∷ 2 ∷ []) 2 7
    ∷ []
    ≡ (1 ∷ []) ∷ (2 ∷ []) ∷ (3 ∷ []) ∷ (4 ∷ []) ∷ (5 ∷ []) ∷ (6 ∷ []) ∷ (7 ∷ 1 ∷ 0 ∷ []) ∷ (0 ∷ []) ∷ []
unfolding some first within sized row_bytes rows_of stack_bytes padded padding_set first_padded rings_in settable reach_of reach_cases setting_cases length_cases plan_cases stack_cases
    plan_refusal tell_row refused plan_answer settings plan_says
plan_numbers = refl

-- Cleaning ---------------------------------------------------------------------------------------------------------------

-- what cleaning by c leaves as cleaned support in memory that held nothing
pub cleans : Settings → ℕ → List ℕ → List ℕ
cleans s c part =
    let sup : List ℕ = each 0 (stack_bytes s) (λ x. 0) in
    clean_cleaned s (record { 0 = c }) part sup (each 0 (rings_in s) (λ x. 0)) sup

-- pieces n to s of docs/RULES.md: a gap of two pixels, of three with c 1 and 2, pixels beside the image's border, and one where part and an excused
-- pixel stand in the gap, with c 2 and 0
pub clean_pieces :
    cleans (settings 8 1 2 100 100) 1 (0x00 ∷ 0xE7 ∷ [])
    ∷ cleans (settings 8 1 2 100 100) 1 (0x00 ∷ 0xC7 ∷ [])
    ∷ cleans (settings 8 1 2 100 100) 2 (0x00 ∷ 0xC7 ∷ [])
    ∷ cleans (settings 8 1 2 100 100) 1 (0x00 ∷ 0x7E ∷ [])
    ∷ cleans (settings 8 1 2 100 100) 2 (0x10 ∷ 0xF7 ∷ [])
    ∷ cleans (settings 8 1 2 100 100) 0 (0x10 ∷ 0xF7 ∷ [])
    ∷ []
    ≡ (0xFF ∷ 0x00 ∷ []) ∷ (0xC7 ∷ 0x00 ∷ []) ∷ (0xFF ∷ 0x00 ∷ []) ∷ (0xFF ∷ 0x00 ∷ []) ∷ (0xCF ∷ 0x00 ∷ []) ∷ (0xC7 ∷ 0x00 ∷ []) ∷ []
unfolding bit some each joined_up within sized row_bytes bit_at pixel rows_of stack_bytes padded padding_set byte_of bytes_of rings_in ring_at settable reach_of square bound_by bound_of
    apart distance² shadow near seeds reached touch source touching fits grow grown ring_plane rings excused support_under top_of planned empty planned_rings
    disc_of eroded closed cleaned_under cleaned cleaned_bytes reach_cases setting_cases clean_cases clean_refusal clean_cleaned settings cleans
clean_pieces = refl

-- part in the gap stays out, and so do excused pixels beside a seed; what the layer above closed goes down until it meets part
pub cleans_around :
    cleans (settings 8 1 2 100 200) 1 (0x10 ∷ 0xE7 ∷ [])
    ∷ cleans (settings 8 1 2 100 100) 2 (0x08 ∷ 0xFF ∷ [])
    ∷ cleans (settings 8 1 3 100 200) 1 (0x07 ∷ 0x00 ∷ 0xE7 ∷ [])
    ∷ []
    ≡ (0xEF ∷ 0x00 ∷ []) ∷ (0xE3 ∷ 0x00 ∷ []) ∷ (0xF8 ∷ 0xFF ∷ 0x00 ∷ []) ∷ []
unfolding bit some each joined_up within sized row_bytes bit_at pixel rows_of stack_bytes padded padding_set byte_of bytes_of rings_in ring_at settable reach_of square bound_by bound_of
    apart distance² shadow near seeds reached touch source touching fits grow grown ring_plane rings excused support_under top_of planned empty planned_rings
    disc_of eroded closed cleaned_under cleaned cleaned_bytes reach_cases setting_cases clean_cases clean_refusal clean_cleaned settings cleans
cleans_around = refl

-- a frame about three by three pixels: c 1 closes the corners, for its disc has no corners itself, and c 2 all
pub cleans_frame : map (λ c. take 5 (cleans (settings 5 5 2 100 200) c (0x00 ∷ 0x00 ∷ 0x00 ∷ 0x00 ∷ 0x00 ∷ 0xF8 ∷ 0x88 ∷ 0x88 ∷ 0x88 ∷ 0xF8 ∷ []))) (1 ∷ 2 ∷ [])
    ≡ (0xF8 ∷ 0xD8 ∷ 0x88 ∷ 0xD8 ∷ 0xF8 ∷ []) ∷ (0xF8 ∷ 0xF8 ∷ 0xF8 ∷ 0xF8 ∷ 0xF8 ∷ []) ∷ []
unfolding bit some each joined_up within sized row_bytes bit_at pixel rows_of stack_bytes padded padding_set byte_of bytes_of rings_in ring_at settable reach_of square bound_by bound_of
    apart distance² shadow near seeds reached touch source touching fits grow grown ring_plane rings excused support_under top_of planned empty planned_rings
    disc_of eroded closed cleaned_under cleaned cleaned_bytes reach_cases setting_cases clean_cases clean_refusal clean_cleaned settings cleans
cleans_frame = refl

-- the disc of c 2 has the squared distances up to 4: in a frame about five by five pixels it leaves out what lies so near the middle. And c 3 closes a gap
-- of six pixels, but none of seven
pub closes_discs :
    bytes_of 7 7 1 (λ i. closed 7 7 (disc_of (record { 0 = 2 })).0 (pixel 7 7 (0xFE ∷ 0x82 ∷ 0x82 ∷ 0x82 ∷ 0x82 ∷ 0x82 ∷ 0xFE ∷ []) i))
    ∷ cleans (settings 8 1 2 100 100) 3 (0x00 ∷ 0x81 ∷ [])
    ∷ cleans (settings 9 1 2 100 100) 3 (0x00 ∷ 0x00 ∷ 0x80 ∷ 0x80 ∷ [])
    ∷ []
    ≡ (0xFE ∷ 0xEE ∷ 0xC6 ∷ 0x82 ∷ 0xC6 ∷ 0xEE ∷ 0xFE ∷ []) ∷ (0xFF ∷ 0x00 ∷ []) ∷ (0x80 ∷ 0x80 ∷ 0x00 ∷ 0x00 ∷ []) ∷ []
unfolding bit some each joined_up within sized row_bytes bit_at pixel rows_of stack_bytes padded padding_set byte_of bytes_of rings_in ring_at settable reach_of square bound_by bound_of
    apart distance² shadow near seeds reached touch source touching fits grow grown ring_plane rings excused support_under top_of planned empty planned_rings
    disc_of eroded closed cleaned_under cleaned cleaned_bytes reach_cases setting_cases clean_cases clean_refusal clean_cleaned settings cleans
closes_discs = refl

-- Algorithm 3 of the chapter, by itself: the lower layer of piece r, and that of piece n with cleaned support above
pub algorithm_3 :
    each 0 8 (region_subtraction_fdm 8 1 1 4 (bit_at 0x10) (bit_at 0xF7) (λ p. false) (λ p. false))
    ∷ each 0 8 (region_subtraction_fdm 8 1 1 0 (bit_at 0x00) (bit_at 0xE7) (λ p. false) (bit_at 0x10))
    ∷ []
    ≡ each 0 8 (bit_at 0xCF) ∷ each 0 8 (bit_at 0xF7) ∷ []
unfolding some each bit_at square apart distance² shadow near touch touching dilated swallowed growing_swallow region_subtraction eroded closed region_subtraction_fdm
algorithm_3 = refl

pub clean_says : Settings → ℕ → List ℕ → ℕ → ℕ → ℕ → List ℕ
clean_says s c part a b d = says_planned (clean_answer s (record { 0 = c }) part a b d)

-- each number with all that comes after it wrong as well where that can be, 5 by either length, and 0 with the largest c
pub clean_numbers :
    clean_says (settings 257 0 0 9 10001) 33 (1 ∷ []) 9 9 9
    ∷ clean_says (settings 7 1 2 9 10001) 33 (1 ∷ []) 9 9 9
    ∷ clean_says (settings 7 1 2 10 330) 33 (1 ∷ []) 9 9 9
    ∷ clean_says (settings 7 1 2 10 320) 33 (1 ∷ []) 9 9 9
    ∷ clean_says (settings 7 1 2 10 320) 32 (1 ∷ []) 9 9 9
    ∷ clean_says (settings 7 1 2 10 320) 32 (1 ∷ 1 ∷ []) 3 9 2
    ∷ clean_says (settings 7 1 2 10 320) 32 (1 ∷ 1 ∷ []) 2 9 3
    ∷ clean_says (settings 7 1 2 10 320) 32 (1 ∷ 1 ∷ []) 2 8 2
    ∷ clean_says (settings 7 1 2 10 320) 32 (0 ∷ 1 ∷ []) 2 7 2
    ∷ clean_says (settings 7 1 2 10 320) 32 (2 ∷ 2 ∷ []) 2 7 2
    ∷ []
    ≡ (1 ∷ []) ∷ (2 ∷ []) ∷ (3 ∷ []) ∷ (18 ∷ []) ∷ (4 ∷ []) ∷ (5 ∷ []) ∷ (5 ∷ []) ∷ (6 ∷ []) ∷ (7 ∷ 1 ∷ 0 ∷ []) ∷ (0 ∷ []) ∷ []
unfolding some first within sized row_bytes rows_of stack_bytes padded padding_set first_padded rings_in settable reach_of reach_cases setting_cases clean_cases clean_refusal tell_row
    refused clean_answer settings clean_says
clean_numbers = refl

-- Judging ----------------------------------------------------------------------------------------------------------------

pub judge_says : Settings → List ℕ → List ℕ → List ℕ → List ℕ
judge_says s part sup ring = says_judged (judge_answer s part sup ring)

-- 4 to 11 and 19, each with what comes after it wrong as well where that can be; and padding in the second layer only
pub judge_numbers :
    judge_says (settings 7 1 2 10 0) (1 ∷ []) [] []
    ∷ judge_says (settings 7 1 2 10 0) (1 ∷ 1 ∷ []) (1 ∷ []) []
    ∷ judge_says (settings 7 1 2 10 0) (1 ∷ 1 ∷ []) (1 ∷ 1 ∷ []) []
    ∷ judge_says (settings 7 1 2 10 0) (1 ∷ 1 ∷ []) (1 ∷ 1 ∷ []) (each 0 7 (λ x. 0))
    ∷ judge_says (settings 7 1 2 10 0) (2 ∷ 2 ∷ []) (1 ∷ 1 ∷ []) (each 0 7 (λ x. 0))
    ∷ judge_says (settings 7 1 1 10 0) (2 ∷ []) (4 ∷ []) []
    ∷ judge_says (settings 2 2 3 100 200) (0x80 ∷ 0x80 ∷ 0x80 ∷ 0x80 ∷ 0x80 ∷ 0xC0 ∷ []) (0 ∷ 0 ∷ 0 ∷ 0 ∷ 0 ∷ 0 ∷ []) (each 0 8 (λ x. 0))
    ∷ judge_says (settings 2 2 3 100 200) (0x80 ∷ 0x80 ∷ 0x80 ∷ 0x80 ∷ 0x80 ∷ 0xC0 ∷ []) (0 ∷ 0 ∷ 0 ∷ 0 ∷ 0 ∷ 0 ∷ []) (0 ∷ 0 ∷ 0 ∷ 0 ∷ 0 ∷ 0 ∷ 0 ∷ 2 ∷ [])
    ∷ judge_says (settings 2 2 3 100 200) (0x80 ∷ 0x80 ∷ 0x80 ∷ 0x80 ∷ 0x80 ∷ 0xC0 ∷ []) (0 ∷ 0 ∷ 0 ∷ 0 ∷ 0x40 ∷ 0xC0 ∷ []) (each 0 8 (λ x. 0))
    ∷ judge_says (settings 8 1 2 100 0) (0x80 ∷ 0x80 ∷ []) (0x00 ∷ 0x08 ∷ []) (each 0 8 (λ x. 0))
    ∷ judge_says (settings 7 1 2 10 0) (2 ∷ 1 ∷ []) (4 ∷ 1 ∷ []) (each 0 7 (λ x. 0))
    ∷ judge_says (settings 7 1 2 10 0) (2 ∷ 2 ∷ []) (4 ∷ 1 ∷ []) (each 0 7 (λ x. 0))
    ∷ []
    ≡ (4 ∷ []) ∷ (5 ∷ []) ∷ (6 ∷ []) ∷ (7 ∷ 0 ∷ 0 ∷ []) ∷ (8 ∷ 0 ∷ 0 ∷ []) ∷ (0 ∷ []) ∷ (11 ∷ 2 ∷ 1 ∷ 1 ∷ []) ∷ (10 ∷ 2 ∷ 1 ∷ 1 ∷ []) ∷ (9 ∷ 2 ∷ 1 ∷ 0 ∷ []) ∷ (19 ∷ 1 ∷ 0 ∷ 4 ∷ [])
    ∷ (7 ∷ 1 ∷ 0 ∷ []) ∷ (8 ∷ 1 ∷ 0 ∷ []) ∷ []
unfolding some each first within sized row_bytes bit_at pixel rows_of stack_bytes padded padding_set first_padded rings_in ring_at settable reach_of square bound_by bound_of apart distance² shadow
    near seeds reached touch source touching fits overlap bad_ring unheld unheld_number first_in place_of tell verdict verdict_of reach_cases setting_cases length_cases judge_cases
    both_cases stack_cases tell_row refused judge_answer settings judge_says
judge_numbers = refl

-- "the first place still decides which is told": a hanging pixel of support before one of the part, and after it, in one row and in two layers
pub hanging_first :
    judge_says (settings 8 1 2 100 0) (0x80 ∷ 0x82 ∷ []) (0x00 ∷ 0x08 ∷ []) (each 0 8 (λ x. 0))
    ∷ judge_says (settings 8 1 2 100 0) (0x80 ∷ 0x88 ∷ []) (0x00 ∷ 0x02 ∷ []) (each 0 8 (λ x. 0))
    ∷ judge_says (settings 8 1 3 100 0) (0x80 ∷ 0x80 ∷ 0xC0 ∷ []) (0x00 ∷ 0x01 ∷ 0x01 ∷ []) (each 0 16 (λ x. 0))
    ∷ judge_says (settings 8 1 3 100 0) (0x80 ∷ 0x81 ∷ 0x81 ∷ []) (0x00 ∷ 0x00 ∷ 0x40 ∷ []) (each 0 16 (λ x. 0))
    ∷ []
    ≡ (19 ∷ 1 ∷ 0 ∷ 4 ∷ []) ∷ (11 ∷ 1 ∷ 0 ∷ 4 ∷ []) ∷ (19 ∷ 1 ∷ 0 ∷ 7 ∷ []) ∷ (11 ∷ 1 ∷ 0 ∷ 7 ∷ []) ∷ []
unfolding some each first within sized row_bytes bit_at pixel rows_of stack_bytes padded padding_set rings_in ring_at settable reach_of square bound_by bound_of apart distance² shadow
    near seeds reached touch source touching fits overlap bad_ring unheld unheld_number first_in place_of tell verdict verdict_of reach_cases setting_cases length_cases judge_cases
    both_cases stack_cases judge_answer settings judge_says
hanging_first = refl

-- "layer and row of the first bad padding", in three layers of two rows with five columns: of the part, of the support, and of the part where both are bad;
-- and in two layers of two rows with twelve columns, where a row has two bytes
pub padding_first_row :
    judge_says (settings 5 2 3 100 0) (0 ∷ 0 ∷ 0 ∷ 4 ∷ 1 ∷ 0 ∷ []) (each 0 6 (λ x. 0)) (each 0 20 (λ x. 0))
    ∷ judge_says (settings 5 2 3 100 0) (each 0 6 (λ x. 8)) (0 ∷ 0 ∷ 0 ∷ 0 ∷ 2 ∷ 1 ∷ []) (each 0 20 (λ x. 0))
    ∷ judge_says (settings 5 2 3 100 0) (0 ∷ 0 ∷ 0 ∷ 0 ∷ 0 ∷ 7 ∷ []) (7 ∷ 0 ∷ 0 ∷ 0 ∷ 0 ∷ 0 ∷ []) (each 0 20 (λ x. 0))
    ∷ judge_says (settings 12 2 2 100 0) (0xFF ∷ 0xF0 ∷ 0x0F ∷ 0x10 ∷ 0x00 ∷ 0x01 ∷ 0x00 ∷ 0x08 ∷ []) (each 0 8 (λ x. 0)) (each 0 24 (λ x. 0))
    ∷ []
    ≡ (7 ∷ 1 ∷ 1 ∷ []) ∷ (8 ∷ 2 ∷ 0 ∷ []) ∷ (7 ∷ 2 ∷ 1 ∷ []) ∷ (7 ∷ 1 ∷ 0 ∷ []) ∷ []
unfolding some each first within sized row_bytes rows_of stack_bytes padded padding_set first_padded rings_in settable reach_of reach_cases setting_cases length_cases judge_cases
    both_cases stack_cases tell_row refused judge_answer settings judge_says
padding_first_row = refl

-- "A ring need not be the smallest to be accepted."
pub larger_ring : judge_says (settings 1 4 2 100 100) (0x80 ∷ 0x00 ∷ 0x00 ∷ 0x80 ∷ 0x80 ∷ 0x80 ∷ 0x80 ∷ 0x80 ∷ []) (each 0 8 (λ x. 0)) (0 ∷ 1 ∷ 2 ∷ 0 ∷ []) ≡ 0 ∷ []
unfolding some each first within sized row_bytes bit_at pixel rows_of stack_bytes padded padding_set rings_in ring_at settable reach_of square bound_by bound_of apart distance² shadow
    near seeds reached touch source touching fits overlap bad_ring unheld unheld_number first_in place_of tell verdict verdict_of reach_cases setting_cases length_cases judge_cases
    both_cases stack_cases judge_answer settings judge_says
larger_ring = refl

-- Job files ----------------------------------------------------------------------------------------------------------------

-- piece b as a file, with its support and rings stored
pub file_b : List ℕ
file_b =
    0 ∷ 0 ∷ 0 ∷ 5 ∷ 0 ∷ 8 ∷ 0 ∷ 1 ∷ 0 ∷ 2 ∷ 0 ∷ 100 ∷ 0 ∷ 200
    ∷ 0 ∷ 0 ∷ 0 ∷ 2 ∷ 0xE0 ∷ 0xFF
    ∷ 0 ∷ 0 ∷ 0 ∷ 2 ∷ 0x07 ∷ 0x00
    ∷ 0 ∷ 0 ∷ 0 ∷ 8 ∷ 0 ∷ 0 ∷ 0 ∷ 0 ∷ 0 ∷ 0 ∷ 0 ∷ 1 ∷ 0 ∷ 2 ∷ 0 ∷ 0 ∷ 0 ∷ 0 ∷ 0 ∷ 0
    ∷ []

pub job_b : Job
job_b = record { settings = settings 8 1 2 100 200; part = 0xE0 ∷ 0xFF ∷ []; support = 0x07 ∷ 0x00 ∷ []; rings = 0 ∷ 0 ∷ 0 ∷ 1 ∷ 2 ∷ 0 ∷ 0 ∷ 0 ∷ [] }

-- the file and what its calls give: settings, support stored, the four offsets; part, support and rings
pub file_told : file_of job_b ∷ says_read (read_answer file_b) ∷ part_answer file_b ∷ support_answer file_b ∷ copy_rings file_b (each 0 8 (λ x. 9)) ∷ says_written (write_answer job_b 46) ∷ []
    ≡ file_b ∷ (0 ∷ 8 ∷ 1 ∷ 2 ∷ 100 ∷ 200 ∷ 1 ∷ 4 ∷ 18 ∷ 24 ∷ 30 ∷ []) ∷ (0xE0 ∷ 0xFF ∷ []) ∷ (0x07 ∷ 0x00 ∷ []) ∷ (0 ∷ 0 ∷ 0 ∷ 1 ∷ 2 ∷ 0 ∷ 0 ∷ 0 ∷ []) ∷ (0 ∷ 46 ∷ []) ∷ []
unfolding some each within sized row_bytes rows_of stack_bytes padded padding_set rings_in settable reach_of head_end part_end support_count support_end ring_count job_end
    settings_in stored_in part_in support_in rings_stored layout_of stored_rows file_of file_length reach_cases setting_cases section_cases read_cases read_refusal read_answer
    part_answer support_answer copy_cases copy_rings write_cases both_cases stack_cases length_cases write_refusal write_answer settings file_b job_b
file_told = refl

-- "All numbers are big-endian.": four bytes and two, each way, at an offset too
pub numbers_big_endian :
    put32 16909060 ∷ put16 258 ∷ put16s (258 ∷ 772 ∷ [])
    ∷ (be32 (1 ∷ 2 ∷ 3 ∷ 4 ∷ []) 0 ∷ be32 (9 ∷ 1 ∷ 2 ∷ 3 ∷ 4 ∷ []) 1 ∷ be16 (1 ∷ 2 ∷ []) 0 ∷ be16 (9 ∷ 1 ∷ 2 ∷ []) 1 ∷ []) ∷ get16s (9 ∷ 1 ∷ 2 ∷ 3 ∷ 4 ∷ []) 1 2
    ∷ []
    ≡ (1 ∷ 2 ∷ 3 ∷ 4 ∷ []) ∷ (1 ∷ 2 ∷ []) ∷ (1 ∷ 2 ∷ 3 ∷ 4 ∷ []) ∷ (16909060 ∷ 16909060 ∷ 258 ∷ 258 ∷ []) ∷ (258 ∷ 772 ∷ []) ∷ []
numbers_big_endian = refl

-- counts that need more than two bytes: 256 layers of 256 rows have 65,536 rows, and 3 layers of 256 x 256 pixels 131,072 rings
pub large_counts : (part sup ring : List ℕ) →
    take 4 (drop 14 (file_of (record { settings = settings 8 256 256 100 200; part = part; support = sup; rings = ring })))
    ∷ put32 (ring_count (settings 256 256 3 100 200) 768)
    ∷ says_read (read_answer (0 ∷ 0 ∷ 0 ∷ 5 ∷ 0 ∷ 8 ∷ 1 ∷ 0 ∷ 1 ∷ 0 ∷ 0 ∷ 100 ∷ 0 ∷ 200 ∷ 0 ∷ 1 ∷ 0 ∷ 0 ∷ []))
    ∷ says_read (read_answer (0 ∷ 0 ∷ 0 ∷ 5 ∷ 0 ∷ 8 ∷ 1 ∷ 0 ∷ 1 ∷ 0 ∷ 0 ∷ 100 ∷ 0 ∷ 200 ∷ 0 ∷ 0 ∷ 0 ∷ 0 ∷ []))
    ∷ []
    ≡ (0 ∷ 1 ∷ 0 ∷ 0 ∷ []) ∷ (0 ∷ 2 ∷ 0 ∷ 0 ∷ []) ∷ (12 ∷ []) ∷ (13 ∷ []) ∷ []
unfolding within sized row_bytes rows_of stack_bytes rings_in settable reach_of head_end part_end ring_count settings_in stored_rows file_of reach_cases setting_cases
    section_cases read_cases read_refusal refused refused_in read_answer settings
large_counts part sup ring = refl

pub read_says : List ℕ → List ℕ
read_says f = says_read (read_answer f)

-- reading, from the first byte on: cuts are 12, wrong counts 13, then 1, 2, 3 when section 1 is whole, 14, and padding last
pub read_numbers : map read_says (
    []
    ∷ (0 ∷ 0 ∷ 0 ∷ [])
    ∷ (0xFF ∷ 0xFF ∷ 0xFF ∷ 0xFF ∷ [])
    ∷ (0 ∷ 0 ∷ 0 ∷ 4 ∷ [])
    ∷ take 13 (set file_b 5 0)
    ∷ take 14 (set file_b 5 0)
    ∷ set (set file_b 4 1) 5 1
    ∷ set file_b 11 9
    ∷ set (set file_b 11 10) 12 2
    ∷ take 14 file_b
    ∷ set file_b 17 3
    ∷ take 19 file_b
    ∷ take 20 file_b
    ∷ set file_b 23 1
    ∷ take 25 file_b
    ∷ take 29 file_b
    ∷ set file_b 29 7
    ∷ take 45 file_b
    ∷ (file_b ++ 0 ∷ [])
    ∷ (set (set file_b 5 7) 29 7 ++ 0 ∷ [])
    ∷ take 44 (set (set file_b 5 7) 29 7)
    ∷ take 44 (set (set (set file_b 5 7) 29 7) 19 0xFE)
    ∷ (take 20 file_b ++ 0 ∷ 0 ∷ 0 ∷ 1 ∷ 0x07 ∷ drop 26 file_b)
    ∷ [])
    ≡ (12 ∷ []) ∷ (12 ∷ []) ∷ (13 ∷ []) ∷ (13 ∷ []) ∷ (12 ∷ []) ∷ (1 ∷ []) ∷ (1 ∷ []) ∷ (2 ∷ []) ∷ (3 ∷ []) ∷ (12 ∷ []) ∷ (13 ∷ []) ∷ (12 ∷ []) ∷ (12 ∷ []) ∷ (13 ∷ [])
    ∷ (12 ∷ []) ∷ (12 ∷ []) ∷ (13 ∷ []) ∷ (12 ∷ []) ∷ (14 ∷ []) ∷ (14 ∷ []) ∷ (7 ∷ 1 ∷ 0 ∷ []) ∷ (8 ∷ 0 ∷ 0 ∷ []) ∷ (13 ∷ [])
    ∷ []
unfolding some first within sized row_bytes rows_of stack_bytes padded padding_set first_padded rings_in settable reach_of head_end part_end support_count support_end ring_count job_end settings_in
    stored_in part_in support_in layout_of reach_cases setting_cases section_cases read_cases read_refusal tell_row refused refused_in read_answer file_b read_says
read_numbers = refl

-- copying rings: 6 for a wrong number of them, after what reading tests; and a job without support
pub copy_numbers :
    says_copied (copy_answer file_b 8) ∷ says_copied (copy_answer file_b 7) ∷ says_copied (copy_answer file_b 9) ∷ says_copied (copy_answer (file_b ++ 0 ∷ []) 7)
    ∷ says_copied (copy_answer (take 20 file_b ++ 0 ∷ 0 ∷ 0 ∷ 0 ∷ 0 ∷ 0 ∷ 0 ∷ 0 ∷ []) 0)
    ∷ copy_rings file_b (9 ∷ 9 ∷ [])
    ∷ says_copied (copy_answer (take 44 (set (set file_b 5 7) 29 7)) 9)
    ∷ says_copied (copy_answer (take 44 (set (set (set file_b 5 7) 29 7) 19 0xFE)) 9)
    ∷ []
    ≡ (0 ∷ []) ∷ (6 ∷ []) ∷ (6 ∷ []) ∷ (14 ∷ []) ∷ (0 ∷ []) ∷ (9 ∷ 9 ∷ []) ∷ (7 ∷ 1 ∷ 0 ∷ []) ∷ (8 ∷ 0 ∷ 0 ∷ []) ∷ []
unfolding some first within sized row_bytes rows_of stack_bytes padded padding_set first_padded rings_in settable reach_of head_end part_end support_count support_end ring_count job_end settings_in
    stored_in part_in support_in rings_stored reach_cases setting_cases section_cases read_cases copy_cases tell_row refused refused_in copy_answer copy_rings file_b
copy_numbers = refl

pub job7 : List ℕ → List ℕ → List ℕ → Job
job7 part sup ring = record { settings = settings 7 1 2 100 200; part = part; support = sup; rings = ring }

-- writing: lengths before padding, padding before room; without support no rings
pub write_numbers :
    map (λ j. says_written (write_answer j 45)) (
    job7 (1 ∷ []) (1 ∷ []) []
    ∷ job7 (1 ∷ 1 ∷ []) (1 ∷ []) []
    ∷ job7 (1 ∷ 1 ∷ []) (1 ∷ 1 ∷ []) []
    ∷ job7 (1 ∷ 1 ∷ []) [] (0 ∷ [])
    ∷ job7 (1 ∷ 1 ∷ []) (1 ∷ 1 ∷ []) (each 0 7 (λ x. 0))
    ∷ job7 (2 ∷ 2 ∷ []) (1 ∷ 1 ∷ []) (each 0 7 (λ x. 0))
    ∷ job7 (2 ∷ 1 ∷ []) (4 ∷ 1 ∷ []) (each 0 7 (λ x. 0))
    ∷ job7 (2 ∷ 2 ∷ []) (4 ∷ 1 ∷ []) (each 0 7 (λ x. 0))
    ∷ job7 (2 ∷ 2 ∷ []) (4 ∷ 4 ∷ []) (each 0 7 (λ x. 0))
    ∷ job7 (2 ∷ 2 ∷ []) [] []
    ∷ job_b
    ∷ [])
    ≡ (4 ∷ []) ∷ (5 ∷ []) ∷ (6 ∷ []) ∷ (6 ∷ []) ∷ (7 ∷ 0 ∷ 0 ∷ []) ∷ (8 ∷ 0 ∷ 0 ∷ []) ∷ (7 ∷ 1 ∷ 0 ∷ []) ∷ (8 ∷ 1 ∷ 0 ∷ []) ∷ (0 ∷ 44 ∷ []) ∷ (0 ∷ 28 ∷ []) ∷ (16 ∷ []) ∷ []
unfolding some each first within sized row_bytes rows_of stack_bytes padded padding_set first_padded rings_in settable reach_of head_end part_end support_end ring_count job_end stored_rows
    file_length reach_cases setting_cases write_cases both_cases stack_cases length_cases write_refusal tell_row refused write_answer settings job_b job7
write_numbers = refl

-- The report ---------------------------------------------------------------------------------------------------------------

-- `job 12 1 1 reach 10`, `0 12 0 0`; `refused 12`; and `refused 7 1 0` for bad padding in the second layer
pub report_texts :
    report_of (0 ∷ 0 ∷ 0 ∷ 5 ∷ 0 ∷ 12 ∷ 0 ∷ 1 ∷ 0 ∷ 1 ∷ 0 ∷ 10 ∷ 0 ∷ 109 ∷ 0 ∷ 0 ∷ 0 ∷ 1 ∷ 0xFF ∷ 0xF0 ∷ 0 ∷ 0 ∷ 0 ∷ 0 ∷ 0 ∷ 0 ∷ 0 ∷ 0 ∷ [])
    ∷ report_of []
    ∷ report_of (0 ∷ 0 ∷ 0 ∷ 5 ∷ 0 ∷ 4 ∷ 0 ∷ 1 ∷ 0 ∷ 2 ∷ 0 ∷ 10 ∷ 0 ∷ 0 ∷ 0 ∷ 0 ∷ 0 ∷ 2 ∷ 0xF0 ∷ 0xF8 ∷ 0 ∷ 0 ∷ 0 ∷ 0 ∷ 0 ∷ 0 ∷ 0 ∷ 0 ∷ [])
    ∷ []
    ≡ (106 ∷ 111 ∷ 98 ∷ 32 ∷ 49 ∷ 50 ∷ 32 ∷ 49 ∷ 32 ∷ 49 ∷ 32 ∷ 114 ∷ 101 ∷ 97 ∷ 99 ∷ 104 ∷ 32 ∷ 49 ∷ 48 ∷ 10 ∷ 48 ∷ 32 ∷ 49 ∷ 50 ∷ 32 ∷ 48 ∷ 32 ∷ 48 ∷ 10 ∷ [])
    ∷ (114 ∷ 101 ∷ 102 ∷ 117 ∷ 115 ∷ 101 ∷ 100 ∷ 32 ∷ 49 ∷ 50 ∷ 10 ∷ [])
    ∷ (114 ∷ 101 ∷ 102 ∷ 117 ∷ 115 ∷ 101 ∷ 100 ∷ 32 ∷ 55 ∷ 32 ∷ 49 ∷ 32 ∷ 48 ∷ 10 ∷ [])
    ∷ []
unfolding bit some count each joined_up first within sized row_bytes bit_at pixel rows_of stack_bytes padded padding_set first_padded byte_of bytes_of rings_in ring_at settable reach_of square
    bound_by bound_of shadow excused support_under top_of planned empty rings planned_rings planned_bytes head_end part_end support_count support_end ring_count job_end settings_in
    stored_in part_in support_in reach_cases setting_cases section_cases read_cases digits decimal spaced all_spaced refused_line job_line filled excused_above layer_line plan_lines
    tell_row refused refused_in report_cases report_of
report_texts = refl

-- three layers of two rows and nine columns, with empty support and no rings stored: pixels are counted over all rows, and planned afresh;
-- `job 9 2 3 reach 2`, `2 12 0 0`, `1 4 5 3`, `0 2 5 2`. And piece h at t 150: the corner is near, and the reach is told in whole pixels;
-- `job 2 2 2 reach 1`, `1 4 0 0`, `0 1 0 3`
pub report_rows :
    report_of (
    (0 ∷ 0 ∷ 0 ∷ 5 ∷ 0 ∷ 9 ∷ 0 ∷ 2 ∷ 0 ∷ 3 ∷ 0 ∷ 100 ∷ 0 ∷ 200 ∷ 0 ∷ 0 ∷ 0 ∷ 6 ∷ 0xC0 ∷ 0x00 ∷ 0x00 ∷ 0x00 ∷ 0xE0 ∷ 0x00 ∷ 0x80 ∷ 0x00 ∷ 0xFF ∷ 0x80 ∷ 0xC1 ∷ 0x00 ∷ [])
    ++ (0 ∷ 0 ∷ 0 ∷ 6 ∷ []) ++ each 0 12 (λ x. 0) ++ (0 ∷ 0 ∷ 0 ∷ 36 ∷ []) ++ each 0 72 (λ x. 0))
    ∷ report_of (0 ∷ 0 ∷ 0 ∷ 5 ∷ 0 ∷ 2 ∷ 0 ∷ 2 ∷ 0 ∷ 2 ∷ 0 ∷ 100 ∷ 0 ∷ 150 ∷ 0 ∷ 0 ∷ 0 ∷ 4 ∷ 0x80 ∷ 0x00 ∷ 0xC0 ∷ 0xC0 ∷ 0 ∷ 0 ∷ 0 ∷ 0 ∷ 0 ∷ 0 ∷ 0 ∷ 0 ∷ [])
    ∷ []
    ≡ (106 ∷ 111 ∷ 98 ∷ 32 ∷ 57 ∷ 32 ∷ 50 ∷ 32 ∷ 51 ∷ 32 ∷ 114 ∷ 101 ∷ 97 ∷ 99 ∷ 104 ∷ 32 ∷ 50 ∷ 10
    ∷ 50 ∷ 32 ∷ 49 ∷ 50 ∷ 32 ∷ 48 ∷ 32 ∷ 48 ∷ 10
    ∷ 49 ∷ 32 ∷ 52 ∷ 32 ∷ 53 ∷ 32 ∷ 51 ∷ 10
    ∷ 48 ∷ 32 ∷ 50 ∷ 32 ∷ 53 ∷ 32 ∷ 50 ∷ 10
    ∷ [])
    ∷ (106 ∷ 111 ∷ 98 ∷ 32 ∷ 50 ∷ 32 ∷ 50 ∷ 32 ∷ 50 ∷ 32 ∷ 114 ∷ 101 ∷ 97 ∷ 99 ∷ 104 ∷ 32 ∷ 49 ∷ 10
    ∷ 49 ∷ 32 ∷ 52 ∷ 32 ∷ 48 ∷ 32 ∷ 48 ∷ 10
    ∷ 48 ∷ 32 ∷ 49 ∷ 32 ∷ 48 ∷ 32 ∷ 51 ∷ 10
    ∷ [])
    ∷ []
unfolding bit some count each joined_up within sized row_bytes bit_at pixel rows_of stack_bytes padded padding_set byte_of bytes_of rings_in ring_at settable reach_of square
    bound_by bound_of apart distance² shadow near seeds reached touch source touching fits grow grown ring_plane rings excused support_under top_of planned empty
    planned_rings planned_bytes head_end part_end support_count support_end ring_count job_end settings_in stored_in part_in support_in reach_cases setting_cases section_cases
    read_cases digits decimal spaced all_spaced refused_line job_line filled excused_above layer_line plan_lines report_cases report_of
report_rows = refl
