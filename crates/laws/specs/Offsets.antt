-- What reading tells against what the other calls give: each offset is that of the first byte after its count, and part, support and rings
-- stand there; a refused job gives no stretch; rings are copied into exactly their number.
use Rattle.std.specs.Prelude.{◌≡◌, ◌↔◌, Bool, true, false, not, ◌||◌, List, [], ◌∷◌, ℕ, zero, suc, ◌+◌, ◌-◌, ◌*◌, ◌≤◌, ltb, eqb, get_or, drop}
use Rattle.std.proofs.Math.Path.{refl, sym, ap}
use Rattle.std.proofs.Common.{◌∙◌, zero-mul}
use Rattle.std.proofs.Math.Bool.{cond}
use native.Mathlib.Omega.{arith}
use Rattle.std.proofs.Math.ListN.{length, take}
use borrow.Author.Tests.{eqb-true, ltb-true, not-false}
use Rattle.rules.specs.Tools.{◌when◌, refusal, answer}
use Rattle.rules.specs.Images.{row_bytes, rows_of, stack_bytes}
use Rattle.rules.specs.Jobs.{Job, be32, get16s, head_end, part_end, support_count, support_end, ring_count, job_end, settings_in, stored_in, part_in, support_in}
use Rattle.rules.specs.Jobs.{rings_stored, layout_of, job_in, file_length}
use Rattle.rules.specs.Calls.{says_copied, read_refusal, part_answer, support_answer, copy_cases, copy_answer, copy_rings, reach_cases, setting_cases, length_cases}
use Rattle.rules.specs.Calls.{both_cases, stack_cases, write_cases, write_refusal, refused_in}
use Rattle.rules.specs.Demands.{Given, here, later}
use Rattle.rules.specs.declared.Settings.{Settings}
use Rattle.rules.specs.declared.CopiedRings.TheVariants.{Copied, Refused}
use Rattle.laws.specs.Refusals.{given_exactly, else_both, case_out, answer_fine, answer_refused}
use Rattle.laws.specs.Numbers.{length_get16s}
use Rattle.laws.specs.StackTables.{Lengths}
use Rattle.laws.specs.JobFiles.{WholeFile, accepted_exactly, rooms, part_length, support_length, copy_parts, copy_fits, stores, in_order, writable_exactly, longest_job}
use Rattle.laws.specs.Padding.{refused_number}
use Rattle.laws.specs.RoundTrips.{accepted_writable, same_length}

module _ (f : List ℕ) (e : read_refusal f ≡ 0) where
  abbrev s : Settings
  s = settings_in f

  a : WholeFile f
  a = ((accepted_exactly f).0 e).whole

  part_is : part_answer f ≡ part_in f
  unfolding part_answer
  part_is = answer_fine (read_refusal f) _ _ e

  support_is : support_answer f ≡ support_in f
  unfolding support_answer
  support_is = answer_fine (read_refusal f) _ _ e

  same_offset : (x : ℕ) → x + 4 - 4 ≡ x
  same_offset x = omega arith

  -- the count of section 3 is that of all rows where support is stored, and else 0
  stored_count : (c : ℕ) → (eqb c 0 || eqb c (rows_of s)) ≡ true → c ≡ cond (not (eqb c 0)) (rows_of s) 0
  stored_count c h = go (eqb c 0) refl h
    where
      go : (b : Bool) → eqb c 0 ≡ b → (b || eqb c (rows_of s)) ≡ true → c ≡ cond (not b) (rows_of s) 0
      go true z q = eqb-true c 0 z
      go false z q = eqb-true c (rows_of s) q

  -- "for each section, the offset of the first byte after its count": the counts stand in the four bytes before
  pub counts_told :
      (be32 f ((layout_of f).head - 4) ≡ 5)
      × (be32 f ((layout_of f).part - 4) ≡ rows_of s)
      × (be32 f ((layout_of f).support - 4) ≡ cond (layout_of f).stored (rows_of s) 0)
      × (be32 f ((layout_of f).rings - 4) ≡ length (rings_stored f))
  unfolding layout_of stored_in support_count rings_stored
  counts_told = (
    a.first,
    ap (be32 f) (same_offset head_end) ∙ a.part_count,
    ap (be32 f) (same_offset (part_end s)) ∙ stored_count (stored_in f) a.support_counted,
    ap (be32 f) (same_offset (support_end s (stored_in f))) ∙ a.rings_counted ∙ sym (length_get16s f (support_end s (stored_in f) + 4) (ring_count s (stored_in f))),
  )

  -- the sections follow one another, each with its count before it, and nothing follows the last
  pub sections_follow :
      ((layout_of f).head ≡ 4)
      × ((layout_of f).part ≡ (layout_of f).head + 5 * 2 + 4)
      × ((layout_of f).support ≡ (layout_of f).part + length (part_answer f) + 4)
      × ((layout_of f).rings ≡ (layout_of f).support + length (support_answer f) + 4)
      × (length f ≡ (layout_of f).rings + length (rings_stored f) * 2)
  unfolding layout_of head_end part_end support_end rings_stored
  sections_follow =
      let p : length (part_answer f) ≡ stack_bytes s = ap length part_is ∙ part_length f a in
      let q : length (support_answer f) ≡ stored_in f * row_bytes s.w = ap length support_is ∙ support_length f a in
      let n : length (rings_stored f) ≡ ring_count s (stored_in f) = length_get16s f (support_end s (stored_in f) + 4) (ring_count s (stored_in f)) in
      let r : support_end s (stored_in f) + 4 + ring_count s (stored_in f) * 2 ≡ length f = (rooms f a).rings in
      (refl, refl, omega arith, omega arith, rw n (sym r))

  -- the stretches stand at their offsets
  pub part_stands : part_answer f ≡ take (length (part_answer f)) (drop (layout_of f).part f)
  unfolding layout_of part_in
  part_stands = rw (ap length part_is ∙ part_length f a) part_is

  pub support_stands : support_answer f ≡ take (length (support_answer f)) (drop (layout_of f).support f)
  unfolding layout_of support_in
  support_stands = rw (ap length support_is ∙ support_length f a) support_is

  pub rings_stand : (old : List ℕ) → length old ≡ length (rings_stored f) → copy_rings f old ≡ get16s f (layout_of f).rings (length old)
  unfolding layout_of copy_rings rings_stored
  rings_stand old n =
      let k : length old ≡ ring_count s (stored_in f) = n ∙ length_get16s f (support_end s (stored_in f) + 4) (ring_count s (stored_in f)) in
      answer_fine (refusal (copy_cases f (length old))) _ _ (copy_fits f (length old) e k) ∙ rw k

  -- "empty where none is stored": and full where it is
  pub support_empty : (layout_of f).stored ≡ false → support_answer f ≡ []
  unfolding layout_of support_in
  support_empty h =
      let z : stored_in f ≡ 0 = eqb-true (stored_in f) 0 (not-false _ h) in
      support_is ∙ rw z (ap (λ (k : ℕ). take k (drop (part_end s + 4) f)) (zero-mul (row_bytes s.w)))

  pub support_full : (layout_of f).stored ≡ true → length (support_answer f) ≡ stack_bytes s
  unfolding layout_of support_count stack_bytes
  support_full h =
      let c : stored_in f ≡ rows_of s = stored_count (stored_in f) a.support_counted ∙ ap (λ (b : Bool). cond b (rows_of s) 0) h in
      ap length support_is ∙ support_length f a ∙ ap (λ (k : ℕ). k * row_bytes s.w) c

-- "empty where .. the job is refused"
pub refused_empty : (f : List ℕ) → (read_refusal f ≡ 0 → ⊥) → (part_answer f ≡ []) × (support_answer f ≡ [])
unfolding part_answer support_answer
refused_empty f n = (answer_refused (read_refusal f) _ _ n, answer_refused (read_refusal f) _ _ n)

-- "a lent ring buffer, which must have exactly the stored number of rings": neither fewer nor more
pub copy_exactly : (f : List ℕ) (room : ℕ) → (says_copied (copy_answer f room) ≡ 0 ∷ []) ↔ ((read_refusal f ≡ 0) × (room ≡ length (rings_stored f)))
unfolding copy_answer rings_stored refused_in
copy_exactly f room = (
  (λ h.
      let z : refusal (copy_cases f room) ≡ 0 = go (refusal (copy_cases f room)) h in
      let (r, k) = else_both (read_refusal f) _ (sym (copy_parts f room) ∙ z) in
      let y = eqb-true room (ring_count (settings_in f) (stored_in f)) (not-false _ (case_out _ 5 0 k).0) in
      (r, y ∙ sym (length_get16s f _ _))),
  (λ (r, y). ap says_copied (answer_fine (refusal (copy_cases f room)) Copied (λ k. Refused (refused_in f k)) (copy_fits f room r (y ∙ length_get16s f _ _)))),
)
  where
    go : (x : ℕ) → says_copied (answer x Copied (λ k. Refused (refused_in f k))) ≡ 0 ∷ [] → x ≡ 0
    go zero h = refl
    go (suc x) h = sym (refused_number (settings_in f) (part_in f) (support_in f) (suc x)) ∙ ap (λ (l : List ℕ). get_or l 0 0) h

-- The lengths of jobs ------------------------------------------------------------------------------------------------------------

-- a job that is written has 26 bytes besides part, support and rings
pub length_written : (j : Job) (room : ℕ) → write_refusal j room ≡ 0 → file_length j ≡ 26 + length j.part + length j.support + 2 * length j.rings
unfolding file_length job_end support_end part_end head_end
length_written j room e =
    let v = ((writable_exactly j room).0 e).0 in
    omega (arith, v.part, v.support, ap (λ (k : ℕ). k * 2) v.rings)

-- no job that is read is longer than 75,366,426 bytes
pub longest_file : (f : List ℕ) → read_refusal f ≡ 0 → length f ≤ 75366426
longest_file f e =
    let a = (accepted_exactly f).0 e in
    omega (arith, same_length f a, longest_job (job_in f) (accepted_writable f a))

-- 15 is never given: a job that no earlier test refuses is not so long
pub never_15 : (j : Job) (room : ℕ) → Given 15 (write_cases j room) → ⊥
unfolding write_cases both_cases stack_cases length_cases setting_cases reach_cases
never_15 j room (later n1 (later n2 (later n3 (later n4 (later n5 (later n6 (later n7 (later n8 (here n15))))))))) =
    let s : Settings = j.settings in
    let l : Lengths s (stores j) (length j.part) (length j.support) (length j.rings) =
    record { part_long = eqb-true _ _ (not-false _ n4); support_long = eqb-true _ _ (not-false _ n5); rings_counted = eqb-true _ _ (not-false _ n6) } in
    let v = in_order j (record { stack = record { settings = rw (n1, n2, n3); lengths = l; part_clear = n7 }; support_clear = n8 }) in
    omega (arith, ltb-true 4294967295 (file_length j) n15, longest_job j v)
never_15 j room (later n1 (later n2 (later n3 (later n4 (later n5 (later n6 (later n7 (later n8 (later n15 g))))))))) =
    only_16 (ltb room (file_length j)) ((given_exactly ((16 when ltb room (file_length j)) ∷ []) 14).1 g)
  where
    only_16 : (b : Bool) → ◌≡◌ {A = ℕ} (cond b 16 0) 15 → ⊥
    only_16 true e = omega arith
    only_16 false e = omega arith
