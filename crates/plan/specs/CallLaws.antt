-- Laws of the call: what is known where nothing is refused, and what it answers and leaves.
use Rattle.std.specs.Prelude.{◌≡◌, refl, false, ℕ, ◌-◌, ◌*◌, length}
use Rattle.std.proofs.Math.Path.{sym, ap}
use Rattle.std.proofs.Common.{◌∙◌}
use Rattle.std.proofs.Math.Bool.{true}
use mathlib.Core.List.{List, []}
use Rattle.rules.specs.Calls.{stack_cases, refused, plan_cases, plan_refusal, plan_answer, plan_support, plan_rings}
use Rattle.rules.specs.Outcomes.{Plans}
use Rattle.rules.specs.Images.{row_bytes, rows_of, stack_bytes, rings_in, padding_set}
use Rattle.rules.specs.Planning.{planned_rings, planned_bytes}
use Rattle.rules.specs.Reach.{bound_of}
use Rattle.rules.specs.Tools.{refusal}
use Rattle.rules.specs.declared.Refusal.{Refusal}
use Rattle.rules.specs.declared.Planned.TheVariants.{Done, Refused}
use Rattle.rules.specs.declared.Settings.{Settings}
use Rattle.laws.specs.Limits.{Ranged, ranged}
use Rattle.laws.specs.Refusals.{says_no, says_yes}
use Rattle.laws.specs.StackTables.{Padded, stack_exactly, stack_seven}

-- an input that is not refused
pub record Planable (s : Settings) (part : List ℕ) (sup k : ℕ) : Type 0 where
  pub range : Ranged s
  pub part_length : length part ≡ s.n * s.h * row_bytes s.w
  pub support_length : sup ≡ s.n * s.h * row_bytes s.w
  pub rings_counted : k ≡ (s.n - 1) * (s.h * s.w)
  pub clean : padding_set s.w (s.n * s.h) part ≡ false

pub planable : (s : Settings) (part : List ℕ) (sup k : ℕ) → refusal (stack_cases s true part sup k) ≡ 0 → Planable s part sup k
unfolding stack_bytes rows_of rings_in
planable s part sup k e =
    let v = (stack_exactly s true part sup k).0 e in
    let l = v.lengths in
    record { range = ranged s v.settings; part_length = l.part_long; support_length = l.support_long; rings_counted = l.rings_counted; clean = v.part_clear }

-- what planning leaves, with its number
pub record Planning (s : Settings) (part sup ring : List ℕ) (k : ℕ) (sup' ring' : List ℕ) : Type 0 where
  pub number : k ≡ plan_refusal s part (length sup) (length ring)
  pub support : sup' ≡ plan_support s part sup ring
  pub rings : ring' ≡ plan_rings s part sup ring

module _ (s : Settings) (part sup rings : List ℕ) (k : ℕ) (ek : k ≡ refusal (stack_cases s true part (length sup) (length rings))) where
  -- refused: all lent memory as it was
  pub refuses : (k ≡ 0 → ⊥) → Planning s part sup rings k sup rings
  unfolding plan_support plan_rings plan_refusal plan_cases
  refuses ne = record { number = ek; support = says_no _ (λ j. sup) ek ne; rings = says_no _ (λ j. rings) ek ne }

  -- planned: the support and the rings of the part
  pub plans : k ≡ 0 → (q : ℕ) → bound_of s ≡ (λ (i : ℕ). q) → (sup' rings' : List ℕ)
      → sup' ≡ planned_bytes s.w s.h s.n (λ i. q) part → rings' ≡ planned_rings s.w s.h s.n (λ i. q) part
      → Planning s part sup rings 0 sup' rings'
  unfolding plan_support plan_rings plan_refusal plan_cases
  plans z q eq sup' rings' es eg = record {
    number = sym z ∙ ek;
    support = says_yes _ (λ j. sup) ek z (rw eq es);
    rings = says_yes _ (λ j. rings) ek z (rw eq eg);
  }

-- the call: the number as a refusal, or done
module _ (s : Settings) (part sup rings : List ℕ) (k : ℕ) (sup' rings' : List ℕ) (P : Planning s part sup rings k sup' rings') where
  -- a number of 7 is that of padding
  pub seven : k ≡ 7 → Padded s part
  unfolding plan_refusal plan_cases
  seven e = stack_seven s true part (length sup) (length rings) (sym P.number ∙ e)

  pub refused_plans : (k ≡ 0 → ⊥) → (r : Refusal) → r ≡ refused s part [] k → Plans s part sup rings (Refused r) sup' rings'
  unfolding plan_answer
  refused_plans ne r er = record { answer = ap Refused er ∙ says_no Done (λ j. Refused (refused s part [] j)) P.number ne; support = P.support; rings = P.rings }

  pub done_plans : k ≡ 0 → Plans s part sup rings Done sup' rings'
  unfolding plan_answer
  done_plans z = record { answer = says_yes Done (λ j. Refused (refused s part [] j)) P.number z refl; support = P.support; rings = P.rings }
