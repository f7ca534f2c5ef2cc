-- What a text printed into a buffer is, and the room that the report program has.
use Rattle.std.specs.Prelude.{◌≡◌, Bool, eqb}
use Rattle.std.proofs.Math.Path.{refl, sym, ap, subst}
use Rattle.std.proofs.Common.{◌∙◌, mul-le-mul, arith, length-append, length-take, length-drop, eqb-true, ltb-true, ltb-false, lt-ltb, le-ltb}
use Rattle.std.proofs.Math.Bool.{true, false, cond}
use mathlib.Core.List.{List, [], ◌∷◌}
use Prim.Native.Nat.{ℕ, zero, suc, ◌+◌, ◌-◌, ◌*◌, ◌≤◌, ◌<◌}
use Rattle.std.proofs.Math.Dec.{ltb}
use Rattle.std.proofs.Math.ListN.{length}
use Rattle.std.proofs.lemmas.Bool.{eqb-false}
use Rattle.rules.specs.Tools.{refusal, answer, count, joined_up}
use Rattle.rules.specs.Images.{pixel, ring_at, rows_of, stack_bytes, rings_in, padding_set, first_padded}
use Rattle.rules.specs.Reach.{bound_of}
use Rattle.rules.specs.Planning.{excused, planned_rings, planned_bytes}
use Rattle.rules.specs.Jobs.{over, settings_in, part_in, support_in, layout_of}
use Rattle.rules.specs.Calls.{says_refusal, tell_row, refused_in, reach_cases, setting_cases, plan_refusal, section_cases, read_cases, read_refusal, part_answer}
use Rattle.rules.specs.Outcomes.{Plans, Reads, HandsPart, Reports}
use Rattle.rules.specs.Report.{all_spaced, refused_line, job_line, excused_above, layer_line, plan_lines, report_cases, report_of, text_of}
use Rattle.rules.specs.declared.Settings.{Settings}
use Rattle.rules.specs.declared.Refusal.{Refusal}
use Rattle.rules.specs.declared.Planned.{Planned}
use Rattle.rules.specs.declared.Layout.{Layout}
use Rattle.rules.specs.declared.ReadJob.{ReadJob}
use Rattle.rules.specs.declared.ReadJob.TheVariants.{Job, Refused}
use Rattle.laws.specs.Limits.{Ranged, ranged}
use Rattle.laws.specs.Tests.{split, count_le}
use Rattle.laws.specs.Padding.{padding_first, row_told, refused_seven, refused_eight, refused_alone}
use Rattle.laws.specs.Refusals.{up_to, at_most, answer_fine}
use Rattle.laws.specs.StackTables.{Padded, plan_exactly}
use Rattle.laws.specs.Demand1.{job_read, job_refused}
use Rattle.laws.specs.Demand2.{plan_fills}
use Rattle.laws.specs.Demand3.{planned_bytes_length, planned_rings_length}
use Rattle.laws.specs.JobFiles.{accepted_exactly, part_length, read_seven, read_eight}
use Rattle.laws.specs.Runs.{length_over}
use Rattle.laws.specs.ReportLaws.{report_reads, reported_as_read, report_too_long, report_no_room, report_prints, report_refused}
use Rattle.lines.specs.Lines.{Wrote, spaced_length, line_length, refused_long}
use Rattle.lines.specs.Whole.{Whole, lines_to, planned_lines_lem, layer_is, job_short}

-- the text stands at the front of the buffer, and r is where it ends
pub record Printed (text : List ℕ) (r : ℕ) (now was : List ℕ) : Type 0 where
  pub ends : r ≡ length text
  pub holds : now ≡ over was 0 text
  pub room : r ≤ 16384

-- the lent buffers of the program
pub record Room (sup ring out : List ℕ) : Type 0 where
  pub support : length sup ≡ 65536
  pub rings : length ring ≡ 32768
  pub text : length out ≡ 16384

-- a part that planning does not refuse, and that fits
pub record Planable (s : Settings) (part : List ℕ) : Type 0 where
  pub settings : refusal (setting_cases s) ≡ 0
  pub long : length part ≡ stack_bytes s
  pub clear : padding_set s.w (rows_of s) part ≡ false
  pub fits : length part ≤ 65536

-- how many rings there are, as the code multiplies
pub ring_product : (s : Settings) → (1 ≤ s.n) × ((s.n ≤ 512) × ((s.h ≤ 256) × (s.w ≤ 256))) → (s.h * s.w ≤ 65536) × ((s.n - 1) * (s.h * s.w) ≤ 33488896)
ring_product s (a, (b, (c, d))) =
    let e : s.h * s.w ≤ 65536 = mul-le-mul c d in
    let k : s.n - 1 ≤ 511 = omega arith in
    (e, mul-le-mul k e)

-- a refusal's line is short: a number, or a number and a row
number_short : (k : ℕ) → k < 256 → length (all_spaced (k ∷ [])) ≤ 18
unfolding all_spaced
number_short k h = simp length-append (omega (arith, spaced_length k (omega arith)))

row_short : (k i r : ℕ) → k < 256 → i < 512 → r < 256 → length (all_spaced (k ∷ i ∷ r ∷ [])) ≤ 18
unfolding all_spaced
row_short k i r hk hi hr = simp length-append (omega (arith, spaced_length k (omega arith), spaced_length i (omega arith), spaced_length r (omega arith)))

-- the first row of a stack within its limits
padding_short : (s : Settings) (l : List ℕ) (k : ℕ) → k < 256 → Padded s l → length (all_spaced (says_refusal (tell_row s.h k (first_padded s l)))) ≤ 18
padding_short s l k h p =
    let r = ranged s p.settings in
    let nh = r.n_high in
    let hh = r.h_high in
    let (i, j, a) = padding_first s l p.set in
    let (li, lj) = a.inside in
    let e = (row_told s l k k i j).1 (refl, a) in
    subst (λ (x : List ℕ). length (all_spaced x) ≤ 18) (sym e) (row_short k i j h (omega arith) (omega arith))

said_short : (f : List ℕ) (k : ℕ) → read_refusal f ≡ k → k < 256 → length (all_spaced (says_refusal (refused_in f k))) ≤ 18
unfolding refused_in
said_short f k e h =
    split (eqb k 7)
    (λ t.
    let z = eqb-true k 7 t in
    rw (refused_seven (settings_in f) (part_in f) (support_in f) k z) (padding_short (settings_in f) (part_in f) k h (read_seven f (e ∙ z)).1))
    (λ t. split (eqb k 8)
    (λ u.
    let z = eqb-true k 8 u in
    rw (refused_eight (settings_in f) (part_in f) (support_in f) k z) (padding_short (settings_in f) (support_in f) k h (read_eight f (e ∙ z)).1))
    (λ u. rw (refused_alone (settings_in f) (part_in f) (support_in f) k (eqb-false k 7 t) (eqb-false k 8 u)) (number_short k h)))

read_small : (f : List ℕ) → read_refusal f < 256
unfolding read_refusal read_cases section_cases setting_cases reach_cases up_to
read_small f = omega (arith, at_most 17 (read_cases f) refl)

pub seventeen_short : length (refused_line (17 ∷ [])) ≤ 16384
seventeen_short = omega (arith, refused_long (17 ∷ []), number_short 17 (omega arith))

pub refused_short : (f : List ℕ) → length (refused_line (says_refusal (refused_in f (read_refusal f)))) ≤ 16384
refused_short f = omega (arith, refused_long (says_refusal (refused_in f (read_refusal f))), said_short f (read_refusal f) refl (read_small f))

pub refused_printed : (said : List ℕ) (r : ℕ) (now was : List ℕ) → length (refused_line said) ≤ 16384 → (r ≡ length (refused_line said)) × (now ≡ over was 0 (refused_line said)) →
    Printed (refused_line said) r now was
refused_printed said r now was h (e, is) = record { ends = e; holds = is; room = omega arith }

-- planned into the buffers, and printed
module _ (s : Settings) (part sup ring : List ℕ) (e : plan_refusal s part (length sup) (length ring) ≡ 0) where
  pub planned_whole : (d : Planned) (sup' ring' : List ℕ) → Plans s part sup ring d sup' ring' → refusal (setting_cases s) ≡ 0 → length part ≡ stack_bytes s → Whole s part sup' ring'
  unfolding stack_bytes rows_of rings_in
  planned_whole d sup' ring' plans g l =
      let (z, x, y) = plan_fills s part sup ring e in
      record {
        settings = g;
        part_long = l;
        sup_long = ap length (plans.support ∙ x) ∙ planned_bytes_length s.w s.h s.n (bound_of s) part;
        ring_long = ap length (plans.rings ∙ y) ∙ planned_rings_length s.w s.h s.n (bound_of s) part;
      }

  pub planned_printed : (d : Planned) (sup' ring' : List ℕ) (r : ℕ) (now was : List ℕ) → Plans s part sup ring d sup' ring' → length was ≡ 16384 →
      Wrote was 0 now r (lines_to s part sup' ring' s.n) → Printed (plan_lines s part) r now was
  planned_printed d sup' ring' r now was plans n w =
      let (u, x, y) = plan_fills s part sup ring e in
      let z : lines_to s part sup' ring' s.n ≡ plan_lines s part = rw (plans.support ∙ x, plans.rings ∙ y) (planned_lines_lem s part) in
      let v = subst (Wrote was 0 now r) z w in
      record { ends = omega (arith, v.ends); holds = v.holds; room = omega (arith, v.ends, v.fits) }

-- the part of an accepted file is no longer than the file
part_fits : (f : List ℕ) → length f ≤ 65536 → length (part_in f) ≤ 65536
unfolding part_in
part_fits f small = simp (length-take, length-drop) (omega arith)

-- planning a part that can be planned, into buffers cut to its lengths
pub plan_fits : (s : Settings) (part : List ℕ) (a b : ℕ) → Planable s part → a ≡ length part → b ≡ rings_in s → plan_refusal s part a b ≡ 0
plan_fits s part a b x ea eb =
    (plan_exactly s part a b).1 (record {
      settings = x.settings;
      lengths = record { part_long = x.long; support_long = ea ∙ x.long; rings_counted = eb };
      part_clear = x.clear;
    })

-- by the room for rings
pub text_no_room : (s : Settings) (part : List ℕ) (count r : ℕ) (now was : List ℕ) → count ≡ rings_in s → 32768 < count → Printed (refused_line (17 ∷ [])) r now was →
    Printed (cond (ltb 32768 (rings_in s)) (refused_line (17 ∷ [])) (plan_lines s part)) r now was
text_no_room s part count r now was e h t = rw (lt-ltb 32768 (rings_in s) (omega arith)) t

pub text_lines : (s : Settings) (part : List ℕ) (count r : ℕ) (now was : List ℕ) → count ≡ rings_in s → count ≤ 32768 → Printed (plan_lines s part) r now was →
    Printed (cond (ltb 32768 (rings_in s)) (refused_line (17 ∷ [])) (plan_lines s part)) r now was
text_lines s part count r now was e h t = rw (le-ltb 32768 (rings_in s) (omega arith)) t

-- the whole output: 17 for an input that goes on, or of which too much was read
pub printed_report : (f : List ℕ) (more : Bool) (r : ℕ) (now was : List ℕ) → Printed (text_of f more) r now was → Reports f more was r now
printed_report f more r now was t = record { answer = t.ends; destination = t.holds }

-- No report is longer than the buffer --------------------------------------------------------------------------------------

joined_short : (m n a : ℕ) (f : ℕ → List ℕ) → ((k : ℕ) → length (f k) ≤ m) → length (joined_up a n f) ≤ m * n
unfolding joined_up
joined_short m zero a f h = omega arith
joined_short m (suc n) a f h = let e : m * suc n ≡ m + m * n = omega arith in omega (arith, length-append (f a) (joined_up (suc a) n f), h a, joined_short m n (suc a) f h)

layer_short : (s : Settings) (part sup ring : List ℕ) (i : ℕ) → Ranged s → i < 512 → length (layer_line s (pixel s.w s.h part) (pixel s.w s.h sup) (ring_at s.w s.h ring) i) ≤ 24
unfolding excused_above
layer_short s part sup ring i r l =
    let m : s.h * s.w ≤ 65536 = mul-le-mul r.h_high r.w_high in
    let P : ℕ → Bool = pixel s.w s.h part i in
    let T : ℕ → Bool = pixel s.w s.h sup i in
    let E : ℕ → Bool = excused (ring_at s.w s.h ring) i in
    let z = layer_is s part sup ring i (count (s.h * s.w) P) (count (s.h * s.w) T) (cond (ltb (suc i) s.n) (count (s.h * s.w) E) 0) refl refl refl in
    subst (λ (t : List ℕ). length t ≤ 24) z
    (line_length i _ _ _ (omega arith) (omega (arith, count_le (s.h * s.w) P)) (omega (arith, count_le (s.h * s.w) T))
    (above (ltb (suc i) s.n) (count (s.h * s.w) E) (omega (arith, count_le (s.h * s.w) E))))
  where
    above : (b : Bool) (n : ℕ) → n < 100000 → cond b n 0 < 100000
    above true n h = h
    above false n h = omega arith

plan_short : (s : Settings) (part : List ℕ) → Ranged s → length (plan_lines s part) ≤ 16384
unfolding plan_lines
plan_short s part r =
    let sup : List ℕ = planned_bytes s.w s.h s.n (bound_of s) part in
    let ring : List ℕ = planned_rings s.w s.h s.n (bound_of s) part in
    let f : ℕ → List ℕ = λ k. layer_line s (pixel s.w s.h part) (pixel s.w s.h sup) (ring_at s.w s.h ring) (s.n - 1 - k) in
    let n = r.n_high in
    omega (arith, length-append (job_line s) (joined_up 0 s.n f), job_short s r, joined_short 24 s.n 0 f (λ k. layer_short s part sup ring (s.n - 1 - k) r (omega arith)))

-- 17 has no place
alone_short : (f : List ℕ) (k : ℕ) → k ≡ 17 → length (all_spaced (says_refusal (refused_in f k))) ≤ 18
unfolding refused_in
alone_short f k e = rw (refused_alone (settings_in f) (part_in f) (support_in f) k (λ z. omega arith) (λ z. omega arith)) (number_short k (omega arith))

pub text_short : (f : List ℕ) (more : Bool) → length (text_of f more) ≤ 16384
unfolding report_of report_cases read_cases section_cases setting_cases reach_cases up_to
text_short f true = seventeen_short
text_short f false = go (refusal (report_cases f)) refl (at_most 17 (report_cases f) refl)
  where
    go : (x : ℕ) → refusal (report_cases f) ≡ x → x ≤ 17 → length (answer x (plan_lines (settings_in f) (part_in f)) (λ k. refused_line (says_refusal (refused_in f k)))) ≤ 16384
    go zero e l = plan_short (settings_in f) (part_in f) (ranged (settings_in f) ((accepted_exactly f).0 (report_reads f e)).whole.settings)
    go (suc x) e l =
        let said : List ℕ = says_refusal (refused_in f (suc x)) in
        split (eqb (suc x) 17)
        (λ t. omega (arith, refused_long said, alone_short f (suc x) (eqb-true (suc x) 17 t)))
        (λ t. omega (arith, refused_long said, said_short f (suc x) (reported_as_read f x (λ z. eqb-false (suc x) 17 t (sym z)) e) (omega arith)))

-- so the text that a buffer holds ends within it
pub report_fits : (f : List ℕ) (more : Bool) (out : List ℕ) (r : ℕ) (out' : List ℕ) → Reports f more out r out' → length out ≡ 16384 → r ≤ length out'
report_fits f more out r out' x e =
    let t = text_short f more in
    omega (arith, x.answer, ap length x.destination, length_over out 0 (text_of f more) (omega arith))

pub longer_report : (f : List ℕ) (r : ℕ) (now was : List ℕ) → 65536 < length f → Printed (refused_line (17 ∷ [])) r now was → Printed (report_of f) r now was
longer_report f r now was h t = rw (report_too_long f h) t

-- a job that was read
module _ (f : List ℕ) (small : length f ≤ 65536) (r : ReadJob) (is : Reads f r) where
  job_is : (l : Layout) → r ≡ Job l → (read_refusal f ≡ 0) × (l ≡ layout_of f)
  job_is l e = job_read f r l is.answer e

  job_settings : (l : Layout) → r ≡ Job l → l.settings ≡ settings_in f
  unfolding layout_of
  job_settings l e = ap (λ (x : Layout). x.settings) (job_is l e).1

  part_is : (l : Layout) (part : List ℕ) → r ≡ Job l → HandsPart f part → part ≡ part_in f
  unfolding part_answer
  part_is l part e p = p.stretch ∙ answer_fine (read_refusal f) (part_in f) (λ k. []) (job_is l e).0

  pub job_planable : (l : Layout) (part : List ℕ) → r ≡ Job l → HandsPart f part → Planable l.settings part
  job_planable l part e p =
      let (z, y) = job_is l e in
      let a = (accepted_exactly f).0 z in
      let n : length (part_in f) ≡ stack_bytes (settings_in f) = part_length f a.whole in
      rw (job_settings l e, part_is l part e p)
      record { settings = a.whole.settings; long = n; clear = a.part_clear; fits = part_fits f small }

  pub job_printed : (l : Layout) (part : List ℕ) (k : ℕ) (now was : List ℕ) → r ≡ Job l → HandsPart f part →
      Printed (cond (ltb 32768 (rings_in l.settings)) (refused_line (17 ∷ [])) (plan_lines l.settings part)) k now was → Printed (report_of f) k now was
  unfolding read_refusal
  job_printed l part k now was e p t =
      let (z, y) = job_is l e in
      let g : cond (ltb 32768 (rings_in (settings_in f))) (refused_line (17 ∷ [])) (plan_lines (settings_in f) (part_in f)) ≡ report_of f = by_room (ltb 32768 (rings_in (settings_in f))) refl z in
      subst (λ (x : List ℕ). Printed x k now was) (rw (job_settings l e, part_is l part e p) g) t
    where
      by_room : (b : Bool) → ltb 32768 (rings_in (settings_in f)) ≡ b → refusal (read_cases f) ≡ 0 → cond b (refused_line (17 ∷ [])) (plan_lines (settings_in f) (part_in f)) ≡ report_of f
      by_room true h z = sym (report_no_room f small z (ltb-true 32768 _ h))
      by_room false h z = sym (report_prints f small z (ltb-false 32768 _ h))

  -- a refusal that was read is short, and its line is the report
  pub refusal_short : (k : Refusal) → r ≡ Refused k → length (refused_line (says_refusal k)) ≤ 16384
  refusal_short k e = subst (λ (x : Refusal). length (refused_line (says_refusal x)) ≤ 16384) (sym (job_refused f r k is.answer e).0) (refused_short f)

  pub refused_report : (k : Refusal) (n : ℕ) (now was : List ℕ) → r ≡ Refused k → Printed (refused_line (says_refusal k)) n now was → Printed (report_of f) n now was
  unfolding read_refusal
  refused_report k n now was e t =
      let (z, nz) = job_refused f r k is.answer e in
      subst (λ (l : List ℕ). Printed l n now was) (rw z (sym (go (refusal (read_cases f)) refl nz))) t
    where
      go : (x : ℕ) → refusal (read_cases f) ≡ x → (x ≡ 0 → ⊥) → report_of f ≡ refused_line (says_refusal (refused_in f x))
      go zero z nz = absurd (nz refl)
      go (suc x) z nz = report_refused f x small z
