-- What the writing functions know of a job, and what each of their tests says.
use Rattle.std.specs.Prelude.{◌≡◌, length}
use Rattle.std.proofs.Math.Path.{refl, ap}
use Rattle.std.proofs.Common.{sym, ◌∙◌}
use mathlib.Core.List.{List, ◌++◌}
use Prim.Native.Nat.{ℕ, ◌+◌, ◌*◌, ◌≤◌}
use native.Mathlib.Omega.{arith}
use Rattle.std.proofs.Math.ListN.{length-append}
use Rattle.rules.specs.Images.{rows_of}
use Rattle.rules.specs.Jobs.{Job, put32, put16s, head_end, part_end, support_end, job_end, stored_rows, head_of, file_of, file_length, over}
use Rattle.rules.specs.declared.Settings.{Settings}
use Rattle.rules.specs.Calls.{write_refusal}
use Rattle.laws.specs.Refusals.{lacks}
use Rattle.laws.specs.StackTables.{Padded, both_seven, both_eight}
use Rattle.laws.specs.JobFiles.{Writable, stores, write_room}
use Rattle.laws.specs.Demand1.{written_as_both}
use Rattle.laws.specs.Runs.{after}

-- the job of the writer's arguments
abbrev pub job : Settings → List ℕ → List ℕ → List ℕ → Job
job s part support rings = record { settings = s; part = part; support = support; rings = rings }

module _ (s : Settings) (part support rings : List ℕ) (v : Writable (job s part support rings)) where
  abbrev stored : ℕ
  stored = stored_rows s (length support)

  -- a buffer with room for a job that is not refused has room for each of its sections
  pub record Room (n : ℕ) : Type 0 where
    pub for_head : 14 ≤ n
    pub for_part : 18 + length part ≤ n
    pub for_support : part_end s + 4 + length support ≤ n
    pub for_rings : support_end s stored + 4 + length rings * 2 ≤ n

  pub the_room : (n : ℕ) → file_length (job s part support rings) ≤ n → Room n
  unfolding file_length job_end support_end part_end head_end
  the_room n h =
      let p = v.part in
      let u = v.support in
      let r = ap (λ (k : ℕ). k * 2) v.rings in
      record { for_head = omega arith; for_part = omega arith; for_support = omega arith; for_rings = omega arith }

  part_ends : 0 + length (head_of s ++ (put32 (rows_of s) ++ part)) ≡ part_end s
  unfolding part_end head_end
  part_ends = omega (arith, v.part)

  support_ends : 0 + length (head_of s ++ (put32 (rows_of s) ++ part) ++ (put32 stored ++ support)) ≡ support_end s stored
  unfolding support_end part_end head_end
  support_ends = simp length-append (omega (arith, v.part, v.support))

  -- the four sections, one after another
  pub sections : (d l1 l2 l3 l4 : List ℕ) (rows c a b : ℕ) → file_length (job s part support rings) ≤ length d → l1 ≡ over d 0 (head_of s) → rows ≡ rows_of s →
      l2 ≡ over l1 14 (put32 rows ++ part) → c ≡ stored → a ≡ part_end s → l3 ≡ over l2 a (put32 c ++ support) → b ≡ support_end s c →
      l4 ≡ over l3 b (put32 (length rings) ++ put16s rings) → l4 ≡ over d 0 (file_of (job s part support rings))
  unfolding file_of
  sections d l1 l2 l3 l4 rows c a b h e1 er e2 ec ea e3 eb e4 =
      let r = the_room (length d) h in
      let x2 : List ℕ = put32 (rows_of s) ++ part in
      let x3 : List ℕ = put32 stored ++ support in
      let f2 = after d l1 l2 (head_of s) x2 0 14 e1 refl r.for_head (rw er at e2) in
      let f3 = after d l2 l3 (head_of s ++ x2) x3 0 (part_end s) f2 part_ends (omega arith) (rw (ec, ea) at e3) in
      after d l3 l4 (head_of s ++ x2 ++ x3) _ 0 (support_end s stored) f3 support_ends (omega arith) (rw (eb, ec) at e4)

-- 7 and 8 are those of padding
pub padding_told : (s : Settings) (part support rings : List ℕ) (room k : ℕ) → k ≡ write_refusal (job s part support rings) room → (k ≡ 7 → Padded s part) × (k ≡ 8 → Padded s support)
unfolding write_room lacks
padding_told s part support rings room k e =
    let j : Job = job s part support rings in (
      (λ z. both_seven s (stores j) part support (length rings) (written_as_both j room 6 refl (sym e ∙ z))),
      (λ z. both_eight s (stores j) part support (length rings) (written_as_both j room 7 refl (sym e ∙ z))),
    )
