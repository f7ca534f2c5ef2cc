-- Laws of the call: what is known where nothing is refused, and what it answers and leaves.
use Rattle.std.specs.Prelude.{◌≡◌, false, List, [], ℕ, ◌-◌, ◌*◌, ◌≤◌, ◌<◌, length}
use Rattle.std.proofs.Math.Path.{refl, ap}
use Rattle.std.proofs.Common.{sym, ◌∙◌, arith}
use Rattle.rules.specs.Calls.{setting_cases, refused, plan_cases, plan_refusal, plan_support, plan_rings, clean_refusal, clean_answer, clean_support, clean_rings, clean_cleaned}
use Rattle.rules.specs.Cleaning.{most_gap}
use Rattle.rules.specs.Images.{row_bytes, rows_of, stack_bytes, padding_set, pixel, bytes_of}
use Rattle.rules.specs.Outcomes.{Cleans}
use Rattle.rules.specs.Planning.{planned_rings, planned_bytes}
use Rattle.rules.specs.Reach.{bound_of}
use Rattle.rules.specs.Tools.{refusal, answer}
use Rattle.rules.specs.declared.Refusal.{Refusal}
use Rattle.rules.specs.declared.Planned.{Planned}
use Rattle.rules.specs.declared.Planned.TheVariants.{Done, Refused}
use Rattle.rules.specs.declared.Pixels.{Pixels}
use Rattle.rules.specs.declared.Settings.{Settings}
use Rattle.laws.specs.Demand2.{planned_top}
use Rattle.laws.specs.Demand3.{planned_bytes_clear, planned_bytes_length}
use Rattle.laws.specs.Refusals.{answer_fine, says_no, says_yes}
use Rattle.laws.specs.StackTables.{Padded, clean_seven, clean_as_plan, clean_settings, clean_gap, clean_part, clean_length}
use Rattle.plan.specs.CallLaws.{Planable, planable, Planning}
use Rattle.clean.specs.LayerLaws.{cleaned_bytes_lem}
use Rattle.clean.specs.Layers.{Early, Lent, clean_by}

-- what comes first: the settings, c, the part's length and that of the cleaned support
module _ (s : Settings) (c : Pixels) (part clean : ℕ) where
  pub early_settings : (r : ℕ) → r ≡ refusal (setting_cases s) → (r ≡ 0 → ⊥) → Early s c part clean r
  early_settings r e n = record {
    refused = λ z l sup k el. e ∙ sym (clean_settings s c l sup k clean (λ y. n (e ∙ y)));
    gap = λ z. absurd (n z);
    clean_long = λ z. absurd (n z);
  }

  module _ (fine : refusal (setting_cases s) ≡ 0) where
    pub early_gap : most_gap < c.0 → Early s c part clean 18
    early_gap l = record { refused = λ z p sup k el. sym (clean_gap s c p sup k clean fine l); gap = λ z. absurd (omega arith); clean_long = λ z. absurd (omega arith) }

    pub early_part : c.0 ≤ most_gap → (part ≡ stack_bytes s → ⊥) → Early s c part clean 4
    early_part g n = record {
      refused = λ z l sup k el. sym (clean_part s c l sup k clean fine g (λ y. n (sym el ∙ y)));
      gap = λ z. absurd (omega arith);
      clean_long = λ z. absurd (omega arith);
    }

    pub early_clean : c.0 ≤ most_gap → part ≡ stack_bytes s → (clean ≡ stack_bytes s → ⊥) → Early s c part clean 5
    early_clean g e n = record {
      refused = λ z l sup k el. sym (clean_length s c l sup k clean fine g (el ∙ e) n);
      gap = λ z. absurd (omega arith);
      clean_long = λ z. absurd (omega arith);
    }

    pub early_none : c.0 ≤ most_gap → clean ≡ stack_bytes s → Early s c part clean 0
    early_none g e = record { refused = λ z. absurd (z refl); gap = λ z. g; clean_long = λ z. e }

-- planned support is lent to cleaning: it has its length and no padding bits, and none in the top layer
module _ (w h n : ℕ) (q : ℕ → ℕ) (part sup clean : List ℕ) (lw : 0 < w) (e : sup ≡ planned_bytes w h n q part) where
  pub lent : length part ≡ n * h * row_bytes w → length clean ≡ n * h * row_bytes w → Lent w h n part sup clean
  lent lp lc = record {
    part_long = lp;
    support_long = ap length e ∙ planned_bytes_length w h n q part;
    support_clear = ap (padding_set w (n * h)) e ∙ planned_bytes_clear w h n q part lw;
    clean_long = lc;
  }

  pub bare_top : 0 < n → (p : ℕ) → p < h * w → pixel w h sup (n - 1) p ≡ false
  bare_top ln p lp = ap (λ (l : List ℕ). pixel w h l (n - 1) p) e ∙ planned_top w h n q part p ln lp

module _ (s : Settings) (c : Pixels) (part sup rings clean : List ℕ) (k : ℕ) (E : Early s c (length part) (length clean) k) where
  abbrev r : ℕ
  r = clean_refusal s c part (length sup) (length rings) (length clean)

  abbrev p : ℕ
  p = plan_refusal s part (length sup) (length rings)

  -- a refusal of its number
  abbrev no : ℕ → Planned
  no i = Refused (refused s part [] i)

  -- a number of 7 is that of padding
  pub seven : k ≡ 7 → Padded s part
  seven e = clean_seven s c part (length sup) (length rings) (length clean) (sym (E.refused (λ z. omega arith) part (length sup) (length rings) refl) ∙ e)

  -- refused before planning: all lent memory as it was
  pub refuses : (k ≡ 0 → ⊥) → (j : Refusal) → j ≡ refused s part [] k → Cleans s c part sup rings clean (Refused j) sup rings clean
  unfolding clean_answer clean_support clean_rings clean_cleaned
  refuses ne j ej =
      let e : k ≡ r = E.refused ne part (length sup) (length rings) refl in
      record { answer = ap Refused ej ∙ says_no Done no e ne; support = says_no _ (λ j. sup) e ne; rings = says_no _ (λ j. rings) e ne; cleaned = says_no _ (λ j. clean) e ne }

  pub clean_size : k ≡ 0 → length clean ≡ s.n * s.h * row_bytes s.w
  unfolding stack_bytes rows_of
  clean_size z = E.clean_long z

  -- from here on the refusal is planning's
  module _ (z : k ≡ 0) (m : ℕ) (sup' rings' : List ℕ) (P : Planning s part sup rings m sup' rings') where
    as_plan : r ≡ p
    as_plan = clean_as_plan s c part (length sup) (length rings) (length clean) (E.gap z) (E.clean_long z)

    told : m ≡ r
    told = P.number ∙ sym as_plan

    -- what planning leaves is what cleaning leaves
    left_support : sup' ≡ clean_support s c part sup rings clean
    unfolding clean_support plan_support
    left_support = P.support ∙ ap (λ (x : ℕ). answer x (planned_bytes s.w s.h s.n (bound_of s) part) (λ i. sup)) (sym as_plan)

    left_rings : rings' ≡ clean_rings s c part sup rings clean
    unfolding clean_rings plan_rings
    left_rings = P.rings ∙ ap (λ (x : ℕ). answer x (planned_rings s.w s.h s.n (bound_of s) part) (λ i. rings)) (sym as_plan)

    pub plan_seven : m ≡ 7 → Padded s part
    plan_seven e = clean_seven s c part (length sup) (length rings) (length clean) (sym told ∙ e)

    -- refused by planning, which leaves its two as they were
    pub refuses_too : (m ≡ 0 → ⊥) → (j : Refusal) → j ≡ refused s part [] m → Cleans s c part sup rings clean (Refused j) sup' rings' clean
    unfolding clean_answer clean_cleaned
    refuses_too ne j ej = record { answer = ap Refused ej ∙ says_no Done no told ne; support = left_support; rings = left_rings; cleaned = says_no _ (λ i. clean) told ne }

    -- planned: what is known then
    module _ (e : m ≡ 0) where
      pub known : Planable s part (length sup) (length rings)
      unfolding plan_refusal plan_cases
      known = planable s part (length sup) (length rings) (sym P.number ∙ e)

      pub support_is : sup' ≡ planned_bytes s.w s.h s.n (bound_of s) part
      unfolding plan_support
      support_is = P.support ∙ answer_fine p _ (λ i. sup) (sym P.number ∙ e)

      -- cleaned
      pub cleans : 0 < s.h → (clean' : List ℕ)
          → clean' ≡ bytes_of s.w s.h s.n (clean_by s.w s.h s.n (c.0 * c.0) (pixel s.w s.h part) (pixel s.w s.h sup'))
          → Cleans s c part sup rings clean Done sup' rings' clean'
      unfolding clean_answer clean_cleaned
      cleans lh clean' ec = record {
        answer = says_yes Done no told e refl;
        support = left_support;
        rings = left_rings;
        cleaned = says_yes _ (λ i. clean) told e (ec ∙ cleaned_bytes_lem s.w s.h s.n (bound_of s) c part sup' lh support_is);
      }
