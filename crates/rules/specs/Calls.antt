-- Rules 6: for each call its refusals in their order, its answer, and what the lent memory holds afterwards.
use Rattle.std.specs.Prelude.{Bool, true, not, ◌||◌, cond, List, [], ◌∷◌, ◌++◌, ℕ, ◌+◌, ◌*◌, ◌/◌, ◌%◌, ltb, eqb, length}
use Rattle.rules.specs.Tools.{Found, nothing, found, Case, ◌when◌, refusal, answer}
use Rattle.rules.specs.Images.{row_bytes, sized, rows_of, stack_bytes, rings_in, padding_set, first_padded}
use Rattle.rules.specs.Reach.{settable, reach_of, most_reach, bound_by, bound_of}
use Rattle.rules.specs.Planning.{planned_rings, planned_bytes}
use Rattle.rules.specs.Cleaning.{most_gap, cleaned_bytes}
use Rattle.rules.specs.Posts.{posts_bytes}
use Rattle.rules.specs.Judging.{verdict_of}
use Rattle.rules.specs.Jobs.{Job, be32, head_end, part_end, support_count, support_end, ring_count, job_end, settings_in, stored_in, part_in, support_in}
use Rattle.rules.specs.Jobs.{rings_stored, layout_of, file_of, file_length, over}
use Rattle.rules.specs.declared.Micrometres.{Micrometres}
use Rattle.rules.specs.declared.Pixels.{Pixels}
use Rattle.rules.specs.declared.Settings.{Settings}
use Rattle.rules.specs.declared.Refusal.{Refusal}
use Rattle.rules.specs.declared.Refusal.TheVariants.{Number, InRow, AtPixel}
use Rattle.rules.specs.declared.Reached.{Reached}
use Rattle.rules.specs.declared.Reached.TheVariants.{By, Refused as NotReached}
use Rattle.rules.specs.declared.Planned.{Planned}
use Rattle.rules.specs.declared.Planned.TheVariants.{Done, Refused as NotPlanned}
use Rattle.rules.specs.declared.Judged.{Judged}
use Rattle.rules.specs.declared.Judged.TheVariants.{Accepted, Refused as NotJudged}
use Rattle.rules.specs.declared.ReadJob.{ReadJob}
use Rattle.rules.specs.declared.ReadJob.TheVariants.{Job as IsJob, Refused as NotRead}
use Rattle.rules.specs.declared.CopiedRings.{CopiedRings}
use Rattle.rules.specs.declared.CopiedRings.TheVariants.{Copied, Refused as NotCopied}
use Rattle.rules.specs.declared.WrittenJob.{WrittenJob}
use Rattle.rules.specs.declared.WrittenJob.TheVariants.{Length, Refused as NotWritten}

-- Rule 6.8: each answer as its number, 0 for none, and then its values; a refusal has its place, where it has one, and nothing else ---------

abbrev pub says_refusal : Refusal → List ℕ
says_refusal (Number k) = k ∷ []
says_refusal (InRow k at) = k ∷ at.layer ∷ at.row ∷ []
says_refusal (AtPixel k at) = k ∷ at.layer ∷ at.row ∷ at.column ∷ []

abbrev pub says_reached : Reached → List ℕ
says_reached (By r) = 0 ∷ r.0 ∷ []
says_reached (NotReached k) = k ∷ []

abbrev pub says_planned : Planned → List ℕ
says_planned Done = 0 ∷ []
says_planned (NotPlanned r) = says_refusal r

abbrev pub says_judged : Judged → List ℕ
says_judged Accepted = 0 ∷ []
says_judged (NotJudged r) = says_refusal r

abbrev pub says_settings : Settings → List ℕ
says_settings s = s.w ∷ s.h ∷ s.n ∷ s.pitch.0 ∷ s.overhang.0 ∷ []

abbrev pub says_read : ReadJob → List ℕ
says_read (IsJob l) =
    0 ∷ says_settings l.settings ++ cond l.stored 1 0 ∷ l.head ∷ l.part ∷ l.support ∷ l.rings ∷ []
says_read (NotRead r) = says_refusal r

abbrev pub says_copied : CopiedRings → List ℕ
says_copied Copied = 0 ∷ []
says_copied (NotCopied r) = says_refusal r

abbrev pub says_written : WrittenJob → List ℕ
says_written (Length k) = 0 ∷ k ∷ []
says_written (NotWritten r) = says_refusal r

-- Rule 6.1, reach: it is given pitch and overhang alone, so 1 does not apply -------------------------------------------------------

unfoldable pub reach_cases : Micrometres → Micrometres → List Case
reach_cases p t =
    (2 when not (settable p t))
    ∷ (3 when ltb most_reach (reach_of p t).0)
    ∷ []

unfoldable pub reach_answer : Micrometres → Micrometres → Reached
reach_answer p t = answer (refusal (reach_cases p t)) (By (reach_of p t)) NotReached

-- Rules 1.1, 2.1 and 2.2 as numbers 1, 2 and 3: of all calls but reach
unfoldable pub setting_cases : Settings → List Case
setting_cases s = (1 when not (sized s)) ∷ reach_cases s.pitch s.overhang

-- What every call on a stack tests first ---------------------------------------------------------------------------------------------

-- Rules 1.5 and 1.6 as numbers 4, 5 and 6: without support there are none of its bytes and no rings (writing alone allows that)
unfoldable pub length_cases : Settings → Bool → ℕ → ℕ → ℕ → List Case
length_cases s stored part support rings =
    (4 when not (eqb part (stack_bytes s)))
    ∷ (5 when not (eqb support (cond stored (stack_bytes s) 0)))
    ∷ (6 when not (eqb rings (cond stored (rings_in s) 0)))
    ∷ []

-- numbers 1 to 7, where the part alone is read
unfoldable pub stack_cases : Settings → Bool → List ℕ → ℕ → ℕ → List Case
stack_cases s stored part support rings =
    setting_cases s
    ++ length_cases s stored (length part) support rings
    ++ (7 when padding_set s.w (rows_of s) part)
    ∷ []

-- numbers 1 to 8, where part and support both are
unfoldable pub both_cases : Settings → Bool → List ℕ → List ℕ → ℕ → List Case
both_cases s stored part support rings =
    stack_cases s stored part (length support) rings
    ++ (8 when padding_set s.w (cond stored (rows_of s) 0) support)
    ∷ []

-- Rule 6.10, "7 and 8 also tell layer and row of the first bad padding" ----------------------------------------------------------------

-- the number with the place of the row found, where rows are counted through a stack of h rows to a layer
unfoldable pub tell_row : ℕ → ℕ → Found → Refusal
tell_row h number nothing = Number number
tell_row h number (found row) = InRow number (record { layer = row / h; row = row % h })

-- the refusal of a table's number: 7 with the part's row, 8 with the support's, and any other number alone
unfoldable pub refused : Settings → List ℕ → List ℕ → ℕ → Refusal
refused s part support k =
    cond (eqb k 7) (tell_row s.h k (first_padded s part)) (cond (eqb k 8) (tell_row s.h k (first_padded s support)) (Number k))

-- Rule 6.2, planning: part is read, support and rings are lent ---------------------------------------------------------------------

unfoldable pub plan_cases : Settings → List ℕ → ℕ → ℕ → List Case
plan_cases s part support rings = stack_cases s true part support rings

unfoldable pub plan_refusal : Settings → List ℕ → ℕ → ℕ → ℕ
plan_refusal s part support rings = refusal (plan_cases s part support rings)

unfoldable pub plan_answer : Settings → List ℕ → ℕ → ℕ → Planned
plan_answer s part support rings = answer (plan_refusal s part support rings) Done (λ k. NotPlanned (refused s part [] k))

-- Rule 6.8: a refusal leaves lent memory as it was
unfoldable pub plan_support : Settings → List ℕ → List ℕ → List ℕ → List ℕ
plan_support s part support rings =
    answer (plan_refusal s part (length support) (length rings)) (planned_bytes s.w s.h s.n (bound_of s) part) (λ k. support)

unfoldable pub plan_rings : Settings → List ℕ → List ℕ → List ℕ → List ℕ
plan_rings s part support rings =
    answer (plan_refusal s part (length support) (length rings)) (planned_rings s.w s.h s.n (bound_of s) part) (λ k. rings)

-- Rule 6.9, cleaning: part is read, support, rings and cleaned support are lent --------------------------------------------------------

-- planning's table, "with 18 for c out of range after 3; a wrong length for F comes under 5"
unfoldable pub clean_cases : Settings → Pixels → List ℕ → ℕ → ℕ → ℕ → List Case
clean_cases s c part support rings clean =
    setting_cases s
    ++ (18 when ltb most_gap c.0)
    ∷ (4 when not (eqb (length part) (stack_bytes s)))
    ∷ (5 when not (eqb support (stack_bytes s)))
    ∷ (5 when not (eqb clean (stack_bytes s)))
    ∷ (6 when not (eqb rings (rings_in s)))
    ∷ (7 when padding_set s.w (rows_of s) part)
    ∷ []

unfoldable pub clean_refusal : Settings → Pixels → List ℕ → ℕ → ℕ → ℕ → ℕ
clean_refusal s c part support rings clean = refusal (clean_cases s c part support rings clean)

unfoldable pub clean_answer : Settings → Pixels → List ℕ → ℕ → ℕ → ℕ → Planned
clean_answer s c part support rings clean = answer (clean_refusal s c part support rings clean) Done (λ k. NotPlanned (refused s part [] k))

-- support and rings are those of planning, and the cleaned support is beside them
unfoldable pub clean_support : Settings → Pixels → List ℕ → List ℕ → List ℕ → List ℕ → List ℕ
clean_support s c part support rings clean =
    answer (clean_refusal s c part (length support) (length rings) (length clean)) (planned_bytes s.w s.h s.n (bound_of s) part) (λ k. support)

unfoldable pub clean_rings : Settings → Pixels → List ℕ → List ℕ → List ℕ → List ℕ → List ℕ
clean_rings s c part support rings clean =
    answer (clean_refusal s c part (length support) (length rings) (length clean)) (planned_rings s.w s.h s.n (bound_of s) part) (λ k. rings)

unfoldable pub clean_cleaned : Settings → Pixels → List ℕ → List ℕ → List ℕ → List ℕ → List ℕ
clean_cleaned s c part support rings clean =
    answer (clean_refusal s c part (length support) (length rings) (length clean)) (cleaned_bytes s.w s.h s.n (bound_of s) c part) (λ k. clean)

-- Rule 6.11, posts: part is read, the posts are lent -----------------------------------------------------------------------------------

-- "20 for a radius or its reach over those limits", which are the overhang's own; no rings are lent, so there is no 6
unfoldable pub posts_cases : Settings → Micrometres → List ℕ → ℕ → List Case
posts_cases s r part posts =
    setting_cases s
    ++ (20 when not (settable s.pitch r) || ltb most_reach (reach_of s.pitch r).0)
    ∷ (4 when not (eqb (length part) (stack_bytes s)))
    ∷ (5 when not (eqb posts (stack_bytes s)))
    ∷ (7 when padding_set s.w (rows_of s) part)
    ∷ []

unfoldable pub posts_refusal : Settings → Micrometres → List ℕ → ℕ → ℕ
posts_refusal s r part posts = refusal (posts_cases s r part posts)

unfoldable pub posts_answer : Settings → Micrometres → List ℕ → ℕ → Planned
posts_answer s r part posts = answer (posts_refusal s r part posts) Done (λ k. NotPlanned (refused s part [] k))

unfoldable pub posts_posts : Settings → Micrometres → List ℕ → List ℕ → List ℕ
posts_posts s r part posts =
    answer (posts_refusal s r part (length posts)) (posts_bytes s.w s.h s.n (bound_of s) (bound_by s.pitch r).0 part) (λ k. posts)

-- Rule 6.3, judging ------------------------------------------------------------------------------------------------------------------

-- planning's table, with 8 behind it
unfoldable pub judge_cases : Settings → List ℕ → List ℕ → ℕ → List Case
judge_cases s part support rings = both_cases s true part support rings

unfoldable pub judge_answer : Settings → List ℕ → List ℕ → List ℕ → Judged
judge_answer s part support rings =
    answer (refusal (judge_cases s part support (length rings)))
    (verdict_of s.w s.h s.n (bound_of s) part support rings)
    (λ k. NotJudged (refused s part support k))

-- Rule 6.4, reading, from the first byte on ------------------------------------------------------------------------------------------

-- a count cut short is 12, then a wrong one 13, then contents cut short 12: the section whose count stands at `at`, with units of u bytes
unfoldable pub section_cases : List ℕ → ℕ → (ℕ → Bool) → ℕ → List Case
section_cases f at allowed u =
    (12 when ltb (length f) (at + 4))
    ∷ (13 when not (allowed (be32 f at)))
    ∷ (12 when ltb (length f) (at + 4 + be32 f at * u))
    ∷ []

-- settings are tested when section 1 is whole, padding last of all
unfoldable pub read_cases : List ℕ → List Case
read_cases f =
    let s : Settings = settings_in f in
    let c : ℕ = stored_in f in
    section_cases f 0 (eqb 5) 2
    ++ setting_cases s
    ++ section_cases f head_end (eqb (rows_of s)) (row_bytes s.w)
    ++ section_cases f (part_end s) (support_count s) (row_bytes s.w)
    ++ section_cases f (support_end s c) (eqb (ring_count s c)) 2
    ++ (14 when ltb (job_end s c) (length f))
    ∷ (7 when padding_set s.w (rows_of s) (part_in f))
    ∷ (8 when padding_set s.w c (support_in f))
    ∷ []

unfoldable pub read_refusal : List ℕ → ℕ
read_refusal f = refusal (read_cases f)

-- a refusal of a file, with the place of its padding
unfoldable pub refused_in : List ℕ → ℕ → Refusal
refused_in f k = refused (settings_in f) (part_in f) (support_in f) k

unfoldable pub read_answer : List ℕ → ReadJob
read_answer f = answer (read_refusal f) (IsJob (layout_of f)) (λ k. NotRead (refused_in f k))

-- Rule 6.5: the stretch of the file, empty where the job is refused; these two calls give no number
unfoldable pub part_answer : List ℕ → List ℕ
part_answer f = answer (read_refusal f) (part_in f) (λ k. [])

unfoldable pub support_answer : List ℕ → List ℕ
support_answer f = answer (read_refusal f) (support_in f) (λ k. [])

-- Rule 6.6: rings are copied into exactly their number, which is tested after everything that reading tests
unfoldable pub copy_cases : List ℕ → ℕ → List Case
copy_cases f room = read_cases f ++ (6 when not (eqb room (ring_count (settings_in f) (stored_in f)))) ∷ []

unfoldable pub copy_answer : List ℕ → ℕ → CopiedRings
copy_answer f room = answer (refusal (copy_cases f room)) Copied (λ k. NotCopied (refused_in f k))

unfoldable pub copy_rings : List ℕ → List ℕ → List ℕ
copy_rings f rings = answer (refusal (copy_cases f (length rings))) (rings_stored f) (λ k. rings)

-- Rule 6.7, writing ------------------------------------------------------------------------------------------------------------------

-- support may be absent, and then so must rings be
unfoldable pub write_cases : Job → ℕ → List Case
write_cases j room =
    both_cases j.settings (not (eqb (length j.support) 0)) j.part j.support (length j.rings)
    ++ (15 when ltb 4294967295 (file_length j))
    ∷ (16 when ltb room (file_length j))
    ∷ []

unfoldable pub write_refusal : Job → ℕ → ℕ
write_refusal j room = refusal (write_cases j room)

-- Rule 5.6: the length is answered, and what is behind it stays
unfoldable pub write_answer : Job → ℕ → WrittenJob
write_answer j room = answer (write_refusal j room) (Length (file_length j)) (λ k. NotWritten (refused j.settings j.part j.support k))

unfoldable pub write_to : Job → List ℕ → List ℕ
write_to j d = answer (write_refusal j (length d)) (over d 0 (file_of j)) (λ k. d)
