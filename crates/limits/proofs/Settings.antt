-- The tests of pitch, overhang and reach on plain values.
use mathlib.Core.Path.{◌≡◌, sym, ap, ◌∙◌}
use mathlib.Core.Bool.{true}
use Prim.Native.Nat.{ℕ, ◌≤◌, ◌<◌}
use native.Mathlib.Omega.{arith}
use lib.Dec.{leb}
use borrow.Author.Tests.{lt-ltb, le-ltb}
use Rattle.rules.specs.Tools.{refusal}
use Rattle.rules.specs.Images.{within}
use Rattle.rules.specs.Reach.{settable, reach_of, most_reach}
use Rattle.rules.specs.Calls.{reach_cases, reach_answer}
use Rattle.rules.specs.declared.Micrometres.{Micrometres}
use Rattle.rules.specs.declared.Pixels.{Pixels}
use Rattle.laws.specs.Tests.{and_l}
use Rattle.rules.specs.declared.Reached.TheVariants.{By, Refused}
use Rattle.laws.specs.Limits.{within_out, settable_out}
use Rattle.laws.specs.Refusals.{answer_fine, answer_refused}

pub pitch_some : (p t : Micrometres) → settable p t ≡ true → 0 < p.0
unfolding settable
pitch_some p t e = omega (arith, (within_out 10 1000 p.0 (and_l (within 10 1000 p.0) (leb t.0 10000) e)).0)

pub refused_3 : (p t : Micrometres) (r : Pixels) → settable p t ≡ true → r ≡ reach_of p t → most_reach < r.0 → 3 ≡ refusal (reach_cases p t)
unfolding reach_cases
refused_3 p t r s e h = simp (s, ← e, lt-ltb most_reach r.0 h)

pub refused_0 : (p t : Micrometres) (r : Pixels) → settable p t ≡ true → r ≡ reach_of p t → r.0 ≤ most_reach → 0 ≡ refusal (reach_cases p t)
unfolding reach_cases
refused_0 p t r s e h = simp (s, ← e, le-ltb most_reach r.0 h)

-- the reach call, and the settings of a job
pub reach_no : (p t : Micrometres) (k : ℕ) → k ≡ refusal (reach_cases p t) → (k ≡ 0 → ⊥) → Refused k ≡ reach_answer p t
unfolding reach_answer
reach_no p t k e n = rw e (sym (answer_refused (refusal (reach_cases p t)) (By (reach_of p t)) Refused (λ z. n (e ∙ z))))

pub reach_yes : (p t : Micrometres) (k : ℕ) (r : Pixels) → k ≡ refusal (reach_cases p t) → k ≡ 0 → r ≡ reach_of p t → By r ≡ reach_answer p t
unfolding reach_answer
reach_yes p t k r e z x = ap By x ∙ sym (answer_fine (refusal (reach_cases p t)) (By (reach_of p t)) Refused (sym e ∙ z))

pub pitch_good : (p t : Micrometres) (k : ℕ) → k ≡ refusal (reach_cases p t) → k ≡ 0 → 0 < p.0
pitch_good p t k e z = omega (arith, (settable_out p t (sym e ∙ z)).pitch_low)
