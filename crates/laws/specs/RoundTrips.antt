-- Demand 2: "A job written and read back is the same job; a job file that is accepted and written again is the same bytes."
use Rattle.std.specs.Prelude.{◌≡◌, refl, Bool, true, false, not, ◌||◌, cond, ℕ, zero, suc, ◌+◌, ◌*◌, ◌≤◌, ◌<◌, eqb, take, drop}
use Rattle.std.proofs.Math.Path.{sym, ap, ap₂}
use Rattle.std.proofs.Common.{◌∙◌, zero-add, zero-mul, mul-le-mul, drop_of_length-le, take-append-drop, take_at, drop_at, eq-eqb, ne_eqb, eqb-true}
use mathlib.Core.List.{List, [], ◌∷◌, ◌++◌, append_assoc, append-nil}
use native.Mathlib.Omega.{arith}
use Rattle.std.proofs.Math.ListN.{length}
use Rattle.rules.specs.Tools.{refusal, answer}
use Rattle.rules.specs.Images.{row_bytes, rows_of, stack_bytes}
use Rattle.rules.specs.Jobs.{Job, be16, be32, put16, put32, get16s, put16s, head_end, part_end, support_count, support_end, ring_count, settings_in, stored_in, part_in}
use Rattle.rules.specs.Jobs.{support_in, rings_stored, layout_of, job_in, stored_rows, file_of, file_length, over}
use Rattle.rules.specs.Calls.{says_settings, says_read, says_written, read_refusal, read_answer, part_answer, support_answer, copy_cases, copy_answer, copy_rings, write_refusal, write_to, refused_in}
use Rattle.rules.specs.Outcomes.{Reads, HandsPart, HandsSupport, Copies, Writes}
use Rattle.rules.specs.Demands.{Bytes, Words}
use Rattle.rules.specs.declared.Settings.{Settings}
use Rattle.rules.specs.declared.Layout.{Layout}
use Rattle.rules.specs.declared.ReadJob.TheVariants.{Job as IsJob}
use Rattle.rules.specs.declared.CopiedRings.TheVariants.{Copied, Refused as NotCopied}
use Rattle.rules.specs.declared.WrittenJob.{WrittenJob}
use Rattle.laws.specs.Tests.{or_r}
use Rattle.laws.specs.Refusals.{answer_fine, answer_refused}
use Rattle.laws.specs.Demand1.{read_answers, job_read, write_answers}
use Rattle.laws.specs.Limits.{Ranged, ranged, rows_most}
use Rattle.laws.specs.Numbers.{peel16, peel32, peel, peel16s, grow16, grow32, grow, grow16s, length_get16s}
use Rattle.laws.specs.JobFiles.{copy_fits, WholeFile, GoodFile, accepted_exactly, rooms, part_length, support_length, rows_stored, Writable, writable_exactly, write_fits, write_short}
use Rattle.laws.specs.JobFiles.{stored_most, ring_count_most, length_file}

-- The bytes of a job, section by section, each with all that follows -------------------------------------------------------

abbrev from_rings : Job → List ℕ
from_rings j = put32 (length j.rings) ++ (put16s j.rings ++ [])

abbrev from_support : Job → List ℕ
from_support j = put32 (rows_stored j) ++ (j.support ++ from_rings j)

abbrev from_part : Job → List ℕ
from_part j = put32 (rows_of j.settings) ++ (j.part ++ from_support j)

abbrev from_start : Job → List ℕ
from_start j =
    let s = j.settings in
    put32 5 ++ (put16 s.w ++ (put16 s.h ++ (put16 s.n ++ (put16 s.pitch.0 ++ (put16 s.overhang.0 ++ from_part j)))))

by_section : (j : Job) → file_of j ≡ from_start j
unfolding file_of
by_section j = simp (append_assoc, append-nil)

-- An accepted file, written again ----------------------------------------------------------------------------------------------

-- the count of section 3 is told by the support's length
count_back : (s : Settings) (c k : ℕ) → Ranged s → support_count s c ≡ true → k ≡ c * row_bytes s.w → c ≡ stored_rows s k
unfolding stored_rows support_count rows_of row_bytes
count_back s c k v a e = go (eqb c 0) refl a
  where
    go : (b : Bool) → eqb c 0 ≡ b → (b || eqb c (rows_of s)) ≡ true → c ≡ cond (eqb k 0) 0 (rows_of s)
    go true h q =
        let z : c ≡ 0 = eqb-true _ _ h in
        let y : k ≡ 0 = e ∙ ap (λ (x : ℕ). x * row_bytes s.w) z ∙ zero-mul (row_bytes s.w) in
        simp (eq-eqb k 0 y) z
    go false h q =
        let z : c ≡ rows_of s = eqb-true _ _ q in
        let p1 = mul-le-mul v.n_low v.h_low in
        let w1 = v.w_low in
        let r1 : 1 ≤ row_bytes s.w = omega arith in
        let c1 : 1 ≤ c = omega (arith, p1) in
        let p2 = mul-le-mul c1 r1 in
        let y : k ≡ 0 → ⊥ = λ q. omega (arith, p2) in
        simp (ne_eqb k 0 y) z

module _ (f : List ℕ) (a : WholeFile f) where
  pub support_rows : stored_in f ≡ stored_rows (settings_in f) (length (support_in f))
  support_rows = count_back (settings_in f) (stored_in f) (length (support_in f)) (ranged (settings_in f) a.settings) a.support_counted (support_length f a)

module _ (f : List ℕ) (good : GoodFile f) where
  abbrev s : Settings
  s = settings_in f

  abbrev c : ℕ
  c = stored_in f

  abbrev a : WholeFile f
  a = good.whole

  pub accepted_writable : Writable (job_in f)
  unfolding rings_stored
  accepted_writable =
      record {
        settings = a.settings;
        part = part_length f a;
        support = rw (← support_rows f a) (support_length f a);
        rings = rw (← support_rows f a) (length_get16s f (support_end s c + 4) (ring_count s c));
        part_clear = good.part_clear;
        support_clear = rw (← support_rows f a) good.support_clear;
      }

  pub same_length : file_length (job_in f) ≡ length f
  unfolding file_length
  same_length = rw (← support_rows f a) (sym a.ends)

  module _ (b : Bytes f) where
    rings_again : drop (support_end s c) f ≡ from_rings (job_in f)
    unfolding rings_stored
    rings_again =
        let r = rooms f a in
        let e = a.rings_counted ∙ sym (length_get16s f (support_end s c + 4) (ring_count s c)) in
        let ends : length f ≤ support_end s c + 4 + ring_count s c * 2 = omega arith in
        grow32 f (support_end s c) b r.support
        ∙ ap₂ (λ (k : ℕ) (l : List ℕ). put32 k ++ l) e
        (grow16s f (support_end s c + 4) (ring_count s c) b (omega arith) ∙ ap (λ (l : List ℕ). put16s (rings_stored f) ++ l) (drop_of_length-le f ends))

    support_again : drop (part_end s) f ≡ from_support (job_in f)
    unfolding stored_in support_in support_end
    support_again =
        let r = rooms f a in
        grow32 f (part_end s) b r.part
        ∙ ap₂ (λ (k : ℕ) (l : List ℕ). put32 k ++ l) (support_rows f a)
        (grow f (part_end s + 4) (c * row_bytes s.w) ∙ ap (λ (l : List ℕ). support_in f ++ l) rings_again)

    part_again : drop head_end f ≡ from_part (job_in f)
    unfolding part_in part_end
    part_again =
        let r = rooms f a in
        grow32 f head_end b r.head
        ∙ ap₂ (λ (k : ℕ) (l : List ℕ). put32 k ++ l) a.part_count
        (grow f (head_end + 4) (stack_bytes s) ∙ ap (λ (l : List ℕ). part_in f ++ l) support_again)

    same_bytes : file_of (job_in f) ≡ f
    unfolding settings_in head_end
    same_bytes =
        let r = rooms f a in
        by_section (job_in f) ∙ sym
        (rw a.first at (grow32 f 0 b (omega arith))
        ∙ ap (λ (l : List ℕ). put32 5 ++ l) (grow16 f 4 b (omega arith)
        ∙ ap (λ (l : List ℕ). put16 (be16 f 4) ++ l) (grow16 f 6 b (omega arith)
        ∙ ap (λ (l : List ℕ). put16 (be16 f 6) ++ l) (grow16 f 8 b (omega arith)
        ∙ ap (λ (l : List ℕ). put16 (be16 f 8) ++ l) (grow16 f 10 b (omega arith)
        ∙ ap (λ (l : List ℕ). put16 (be16 f 10) ++ l) (grow16 f 12 b (omega arith)
        ∙ ap (λ (l : List ℕ). put16 (be16 f 12) ++ l) part_again))))))

-- The file of a job, read back ------------------------------------------------------------------------------------------------------

stored_right : (s : Settings) (k : ℕ) → support_count s (stored_rows s k) ≡ true
unfolding support_count stored_rows
stored_right s k = go (eqb k 0)
  where
    go : (b : Bool) → (eqb (cond b 0 (rows_of s)) 0 || eqb (cond b 0 (rows_of s)) (rows_of s)) ≡ true
    go true = refl
    go false = or_r (eqb (rows_of s) 0) _ (eq-eqb (rows_of s) (rows_of s) refl)

module _ (j : Job) (w : Words j.rings) (v : Writable j) where
  abbrev t : Settings
  t = j.settings

  abbrev f : List ℕ
  f = file_of j

  record Head : Type 0 where
    first : be32 f 0 ≡ 5
    settings : settings_in f ≡ t
    rest : drop head_end f ≡ from_part j

  head : Head
  unfolding settings_in head_end
  head =
      let g = ranged t v.settings in
      let p0 = peel32 f _ 0 5 (omega arith) (by_section j) in
      let p1 = peel16 f _ 4 t.w (omega arith) p0.1 in
      let p2 = peel16 f _ 6 t.h (omega arith) p1.1 in
      let p3 = peel16 f _ 8 t.n (omega arith) p2.1 in
      let p4 = peel16 f _ 10 t.pitch.0 (omega arith) p3.1 in
      let p5 = peel16 f _ 12 t.overhang.0 (omega arith) p4.1 in
      record { first = p0.0; settings = rw (p1.0, p2.0, p3.0, p4.0, p5.0); rest = p5.1 }

  record Part : Type 0 where
    count : be32 f head_end ≡ rows_of t
    rows : take (stack_bytes t) (drop (head_end + 4) f) ≡ j.part
    rest : drop (part_end t) f ≡ from_support j

  part : Part
  unfolding part_end
  part =
      let b = rows_most t (ranged t v.settings) in
      let p = peel32 f _ head_end (rows_of t) (omega arith) head.rest in
      let q = peel f j.part _ (head_end + 4) (stack_bytes t) v.part p.1 in
      record { count = p.0; rows = q.0; rest = q.1 }

  record Support : Type 0 where
    count : be32 f (part_end t) ≡ rows_stored j
    rows : take (rows_stored j * row_bytes t.w) (drop (part_end t + 4) f) ≡ j.support
    rest : drop (support_end t (rows_stored j)) f ≡ from_rings j

  support : Support
  unfolding support_end
  support =
      let b = rows_most t (ranged t v.settings) in
      let small : rows_stored j < 4294967296 = omega (arith, stored_most t (length j.support)) in
      let p = peel32 f _ (part_end t) (rows_stored j) small part.rest in
      let q = peel f j.support _ (part_end t + 4) (rows_stored j * row_bytes t.w) v.support p.1 in
      record { count = p.0; rows = q.0; rest = q.1 }

  record Rings : Type 0 where
    count : be32 f (support_end t (rows_stored j)) ≡ length j.rings
    rings : get16s f (support_end t (rows_stored j) + 4) (length j.rings) ≡ j.rings

  rings : Rings
  rings =
      let b = ranged t v.settings in
      let small : length j.rings < 4294967296 = omega (arith, v.rings, ring_count_most t (rows_stored j) b) in
      let p = peel32 f _ (support_end t (rows_stored j)) (length j.rings) small support.rest in
      let q = peel16s f j.rings [] (support_end t (rows_stored j) + 4) w p.1 in
      record { count = p.0; rings = q.0 }

  stored : stored_in f ≡ rows_stored j
  unfolding stored_in
  stored = rw head.settings support.count

  part_back : part_in f ≡ j.part
  unfolding part_in
  part_back = rw head.settings part.rows

  support_back : support_in f ≡ j.support
  unfolding support_in
  support_back = rw (head.settings, stored) support.rows

  rings_back : rings_stored f ≡ j.rings
  unfolding rings_stored
  rings_back = rw (head.settings, stored, ← v.rings) rings.rings

  same_job : job_in f ≡ j
  same_job = rw (head.settings, part_back, support_back, rings_back)

  written_accepted : GoodFile f
  unfolding file_length
  written_accepted =
      record {
        whole = record {
          first = head.first;
          settings = rw head.settings v.settings;
          part_count = rw head.settings part.count;
          support_counted = rw (head.settings, stored) (stored_right t (length j.support));
          rings_counted = rw (head.settings, stored) (rings.count ∙ v.rings);
          ends = rw (head.settings, stored) (length_file j v);
        };
        part_clear = rw (head.settings, part_back) v.part_clear;
        support_clear = rw (head.settings, stored, support_back) v.support_clear;
      }

-- The round trips --------------------------------------------------------------------------------------------------------------------

-- "A job written and read back is the same job"
pub read_back : (j : Job) (room : ℕ) → Words j.rings → write_refusal j room ≡ 0 →
    (read_refusal (file_of j) ≡ 0)
    × (job_in (file_of j) ≡ j)
    × (says_read (read_answer (file_of j)) ≡ 0 ∷ says_settings j.settings ++ cond (not (eqb (rows_stored j) 0)) 1 0 ∷ 4 ∷ 18 ∷ (part_end j.settings + 4)
    ∷ (support_end j.settings (rows_stored j) + 4) ∷ [])
read_back j room w e =
    let v = ((writable_exactly j room).0 e).0 in
    let r = (accepted_exactly (file_of j)).1 (written_accepted j w v) in
    (r, same_job j w v, read_answers (file_of j) r ∙ rw ((head j w v).settings, stored j w v))

-- and each call gives back what was written
pub calls_give_back : (j : Job) (room : ℕ) → Words j.rings → write_refusal j room ≡ 0 →
    (part_answer (file_of j) ≡ j.part) × (support_answer (file_of j) ≡ j.support) × ((old : List ℕ) → length old ≡ length j.rings → copy_rings (file_of j) old ≡ j.rings)
unfolding part_answer support_answer copy_rings copy_cases
calls_give_back j room w e =
    let v = ((writable_exactly j room).0 e).0 in
    let f : List ℕ = file_of j in
    let r = (read_back j room w e).0 in (
      answer_fine (read_refusal f) _ _ r ∙ part_back j w v,
      answer_fine (read_refusal f) _ _ r ∙ support_back j w v,
      λ old n.
          let k : length old ≡ ring_count (settings_in f) (stored_in f) = rw ((head j w v).settings, stored j w v) (n ∙ v.rings) in
          answer_fine (refusal (copy_cases f (length old))) _ _ (copy_fits f (length old) r k) ∙ rings_back j w v,
    )

-- "a job file that is accepted and written again is the same bytes": in any room that holds it, and 16 in a smaller one
pub written_again : (f : List ℕ) → Bytes f → read_refusal f ≡ 0 →
    (file_of (job_in f) ≡ f) × ((room : ℕ) → length f ≤ room → write_refusal (job_in f) room ≡ 0) × ((room : ℕ) → room < length f → write_refusal (job_in f) room ≡ 16)
written_again f b e =
    let a = (accepted_exactly f).0 e in
    let v = accepted_writable f a in
    (same_bytes f a b, λ room h. write_fits (job_in f) room v (rw (same_length f a) h), λ room h. write_short (job_in f) room v (rw (same_length f a) h))

-- What writing leaves ------------------------------------------------------------------------------------------------------------------

-- "bytes past that length stay"
pub write_keeps_tail : (j : Job) (d : List ℕ) → write_refusal j (length d) ≡ 0 →
    (take (file_length j) (write_to j d) ≡ file_of j) × (drop (file_length j) (write_to j d) ≡ drop (file_length j) d)
unfolding write_to over
write_keeps_tail j d e =
    let n = length_file j ((writable_exactly j (length d)).0 e).0 in
    (simp e (take_at (file_of j) _ (file_length j) n), simp e (drop_at (file_of j) _ (file_length j) n ∙ ap (λ (k : ℕ). drop k d) (zero-add (length (file_of j)) ∙ n)))

-- "a job file that is accepted and written again is the same bytes", by the calls themselves, whatever the destination held: what reading tells, the two stretches and the copied rings, handed to
-- writing with room enough, give the file's length and at the front of the destination the file's bytes; those past them stay
pub written_again_by_calls : (f part sup old ring d d' : List ℕ) (l : Layout) (r : WrittenJob) → Bytes f →
    Reads f (IsJob l) → HandsPart f part → HandsSupport f sup → Copies f old Copied ring →
    Writes (record { settings = l.settings; part = part; support = sup; rings = ring }) d r d' → length f ≤ length d →
    (says_written r ≡ 0 ∷ length f ∷ []) × (d' ≡ f ++ drop (length f) d)
unfolding part_answer support_answer copy_answer copy_rings layout_of
written_again_by_calls f part sup old ring d d' l r b read hands-part hands-support copies writes room =
    let (z, told) = job_read f (IsJob l) l read.answer refl in
    let p : part ≡ part_in f = hands-part.stretch ∙ answer_fine (read_refusal f) _ _ z in
    let q : sup ≡ support_in f = hands-support.stretch ∙ answer_fine (read_refusal f) _ _ z in
    let k : refusal (copy_cases f (length old)) ≡ 0 = copied (refusal (copy_cases f (length old))) copies.answer in
    let g : ring ≡ rings_stored f = copies.rings ∙ answer_fine (refusal (copy_cases f (length old))) _ _ k in
    let same-settings : l.settings ≡ settings_in f = ap (λ (x : Layout). x.settings) told in
    let j : Job = record { settings = l.settings; part = part; support = sup; rings = ring } in
    let e : j ≡ job_in f = rw (same-settings, p, q, g) in
    let (same, fits, short) = written_again f b z in
    let y : write_refusal (job_in f) (length d) ≡ 0 = fits (length d) room in
    let n : file_length (job_in f) ≡ length f = same_length f ((accepted_exactly f).0 z) in
    let (front, back) = write_keeps_tail (job_in f) d y in (
      ap says_written writes.answer ∙ rw e (write_answers (job_in f) (length d) y ∙ rw n),
      writes.destination ∙ rw e (sym (take-append-drop (file_length (job_in f)) (write_to (job_in f) d)) ∙ rw (front, back, same, n)),
    )
  where
    copied : (x : ℕ) → Copied ≡ answer x Copied (λ k. NotCopied (refused_in f k)) → x ≡ 0
    copied zero h = refl
    copied (suc x) h = absurd (let y : ◌≡◌ {A = ℕ} 0 1 = cc in omega arith)

-- and what is read of the bytes up to the length answered is the job
pub written_read : (j : Job) (d : List ℕ) → Words j.rings → write_refusal j (length d) ≡ 0 →
    (read_refusal (take (file_length j) (write_to j d)) ≡ 0) × (job_in (take (file_length j) (write_to j d)) ≡ j)
written_read j d w e =
    let r = read_back j (length d) w e in
    rw (write_keeps_tail j d e).0 (r.0, r.1)

-- "All lent memory then holds what it held before."
pub write_refused_keeps : (j : Job) (d : List ℕ) → (write_refusal j (length d) ≡ 0 → ⊥) → write_to j d ≡ d
unfolding write_to
write_refused_keeps j d n = answer_refused (write_refusal j (length d)) _ _ n

pub copy_refused_keeps : (f rings : List ℕ) → (refusal (copy_cases f (length rings)) ≡ 0 → ⊥) → copy_rings f rings ≡ rings
unfolding copy_rings
copy_refused_keeps f rings n = answer_refused (refusal (copy_cases f (length rings))) _ _ n
