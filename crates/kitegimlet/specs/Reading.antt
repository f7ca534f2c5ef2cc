-- What the answer of reading says of a file, and the stretches that it tells.
use Rattle.std.specs.Prelude.{◌≡◌, List, ◌++◌, ℕ, ◌+◌, ◌-◌, ◌*◌, ◌≤◌, length}
use Rattle.std.proofs.Math.Path.{sym, ap}
use Rattle.std.proofs.Common.{◌∙◌, arith}
use Rattle.std.proofs.Math.Bool.{cond}
use Rattle.std.proofs.Math.ListN.{take, drop}
use Rattle.rules.specs.Images.{row_bytes, stack_bytes}
use Rattle.rules.specs.Jobs.{part_end, support_end, settings_in, stored_in, layout_of}
use Rattle.rules.specs.Calls.{read_refusal, refused_in}
use Rattle.rules.specs.Outcomes.{Reads}
use Rattle.rules.specs.declared.Refusal.{Refusal}
use Rattle.rules.specs.declared.Layout.{Layout}
use Rattle.rules.specs.declared.ReadJob.{ReadJob}
use Rattle.rules.specs.declared.ReadJob.TheVariants.{Job, Refused}
use Rattle.laws.specs.Refusals.{answer_fine, answer_refused}
use Rattle.laws.specs.Demand1.{job_read, job_refused}
use Rattle.answers.specs.Packed.{pack_refusal, pack_read, told, told_in, stretch, part_stretch, support_stretch}
use Rattle.kitegimlet.specs.Outcomes.{KgReads, KgHandsPart, KgHandsSupport}

-- a section is as long as what lies between its offset and the next count
part_length : (f : List ℕ) → (layout_of f).support - 4 - (layout_of f).part ≡ stack_bytes (settings_in f)
unfolding layout_of part_end
part_length f = omega arith

support_length : (f : List ℕ) → (layout_of f).rings - 4 - (layout_of f).support ≡ stored_in f * row_bytes (settings_in f).w
unfolding layout_of support_end
support_length f = omega arith

module _ (f : List ℕ) (r : ReadJob) (is : Reads f r) where
  is_job : (l : Layout) → r ≡ Job l → (read_refusal f ≡ 0) × (l ≡ layout_of f)
  is_job l e = job_read f r l is.answer e

  is_refused : (k : Refusal) → r ≡ Refused k → (k ≡ refused_in f (read_refusal f)) × (read_refusal f ≡ 0 → ⊥)
  is_refused k e = job_refused f r k is.answer e

  -- reading: all told, or the number and nothing told
  pub read_told : (l : Layout) (room now : List ℕ) → r ≡ Job l → now ≡ take (length room) (told l) ++ drop 10 room → KgReads f room 0 now
  unfolding told_in
  read_told l room now e t =
      let (z, y) = is_job l e in
      record { answer = sym (ap pack_read (sym is.answer ∙ e)); told = t ∙ ap (λ (x : Layout). take (length room) (told x) ++ drop 10 room) y ∙ sym (answer_fine (read_refusal f) _ (λ k. room) z) }

  pub read_kept : (k : Refusal) (j : ℕ) (room : List ℕ) → r ≡ Refused k → j ≡ pack_refusal k → KgReads f room j room
  unfolding told_in
  read_kept k j room e w = let (y, n) = is_refused k e in record { answer = w ∙ sym (ap pack_read (sym is.answer ∙ e)); told = sym (answer_refused (read_refusal f) _ (λ k. room) n) }

  -- the part
  pub part_room : (l : Layout) → r ≡ Job l → l.part + 4 ≤ l.support
  unfolding layout_of part_end
  part_room l e = let (z, y) = is_job l e in rw y (omega arith)

  pub part_yes : (l : Layout) (s : ℕ) → r ≡ Job l → s ≡ stretch l.part (l.support - 4 - l.part) → KgHandsPart f s
  unfolding part_stretch
  part_yes l s e t =
      let (z, y) = is_job l e in
      record { answer = t ∙ ap (λ (x : Layout). stretch x.part (x.support - 4 - x.part)) y ∙ ap (stretch (layout_of f).part) (part_length f) ∙ sym (answer_fine (read_refusal f) _ (λ k. 0) z) }

  pub part_no : (k : Refusal) → r ≡ Refused k → KgHandsPart f 0
  unfolding part_stretch
  part_no k e = let (y, n) = is_refused k e in record { answer = sym (answer_refused (read_refusal f) _ (λ k. 0) n) }

  -- the support
  pub support_room : (l : Layout) → r ≡ Job l → l.support + 4 ≤ l.rings
  unfolding layout_of support_end
  support_room l e = let (z, y) = is_job l e in rw y (omega arith)

  pub support_yes : (l : Layout) (s : ℕ) → r ≡ Job l → s ≡ cond l.stored (stretch l.support (l.rings - 4 - l.support)) 0 → KgHandsSupport f s
  unfolding support_stretch
  support_yes l s e t =
      let (z, y) = is_job l e in
      record {
        answer = t ∙ ap (λ (x : Layout). cond x.stored (stretch x.support (x.rings - 4 - x.support)) 0) y
            ∙ ap (λ (n : ℕ). cond (layout_of f).stored (stretch (layout_of f).support n) 0) (support_length f)
            ∙ sym (answer_fine (read_refusal f) _ (λ k. 0) z);
      }

  pub support_no : (k : Refusal) → r ≡ Refused k → KgHandsSupport f 0
  unfolding support_stretch
  support_no k e = let (y, n) = is_refused k e in record { answer = sym (answer_refused (read_refusal f) _ (λ k. 0) n) }
