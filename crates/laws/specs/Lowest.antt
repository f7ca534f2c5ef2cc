-- Demand 1, "the lowest that applies unless it sets another order": for reach, plan, check and write no condition with a lower number
-- holds than the one that is answered.
use Rattle.std.specs.Prelude.{◌≡◌, refl, ◌⊎◌, Bool, true, false, ◌&&◌, List, [], ◌∷◌, ℕ, suc, ◌≤◌, leb, length, get_or}
use Rattle.std.proofs.Common.{subst, inl, inr, ⊎_elim, arith, leb-true}
use Rattle.rules.specs.Tools.{Case}
use Rattle.rules.specs.Jobs.{Job}
use Rattle.rules.specs.Calls.{says_reached, says_planned, says_judged, says_written, reach_cases, reach_answer, setting_cases, length_cases, both_cases, stack_cases}
use Rattle.rules.specs.Calls.{plan_cases, plan_answer, judge_cases, judge_answer, write_cases, write_answer}
use Rattle.rules.specs.Demands.{Given, here, later, Applies, this, further}
use Rattle.rules.specs.declared.Micrometres.{Micrometres}
use Rattle.rules.specs.declared.Settings.{Settings}
use Rattle.laws.specs.Tests.{clash, and_l, and_r}
use Rattle.laws.specs.Demand1.{reach_refuses, plan_refuses, write_refuses}
use Rattle.laws.specs.Judgements.{judge_refuses}

-- no number of the table is below k
unfoldable floor : ℕ → List Case → Bool
floor k [] = true
floor k (c ∷ cs) = leb k c.number && floor k cs

-- the numbers of a table rise
unfoldable rising : List Case → Bool
rising [] = true
rising (c ∷ cs) = floor c.number cs && rising cs

-- a table's first case, or its others
applies_out : {c : Case} {cs : List Case} {j : ℕ} → Applies j (c ∷ cs) → ((c.number ≡ j) × (c.applies ≡ true)) ⊎ Applies j cs
applies_out (this t) = inl (refl, t)
applies_out (further a) = inr a

given_out : {c : Case} {cs : List Case} {k : ℕ} → Given k (c ∷ cs) → (c.number ≡ k) ⊎ ((c.applies ≡ false) × Given k cs)
given_out (here t) = inl refl
given_out (later t g) = inr (t, g)

given_none : {k : ℕ} → Given k [] → ⊥
given_none = elim [ ]

applies_none : {k : ℕ} → Applies k [] → ⊥
applies_none = elim [ ]

above_floor : (cs : List Case) (k j : ℕ) → floor k cs ≡ true → Applies j cs → k ≤ j
unfolding floor
above_floor [] k j f a = absurd (applies_none a)
above_floor (c ∷ cs) k j f a =
    ⊎_elim
    (λ (e, t). subst (λ (x : ℕ). k ≤ x) e (leb-true k c.number (and_l (leb k c.number) (floor k cs) f)))
    (λ b. above_floor cs k j (and_r (leb k c.number) (floor k cs) f) b)
    (applies_out a)

lowest : (cs : List Case) (k j : ℕ) → rising cs ≡ true → Given k cs → Applies j cs → k ≤ j
unfolding rising
lowest [] k j r g a = absurd (given_none g)
lowest (c ∷ cs) k j r g a =
    ⊎_elim
    (λ e. ⊎_elim
    (λ (y, t). omega arith)
    (λ b. subst (λ (x : ℕ). x ≤ j) e (above_floor cs c.number j (and_l (floor c.number cs) (rising cs) r) b))
    (applies_out a))
    (λ (n, h). ⊎_elim
    (λ (y, t). clash t n)
    (λ b. lowest cs k j (and_r (floor c.number cs) (rising cs) r) h b)
    (applies_out a))
    (given_out g)

pub reach_lowest : (p t : Micrometres) (k j : ℕ) → says_reached (reach_answer p t) ≡ suc k ∷ [] → Applies j (reach_cases p t) → suc k ≤ j
unfolding reach_cases rising floor
reach_lowest p t k j e a = lowest (reach_cases p t) (suc k) j refl ((reach_refuses p t k).0 e) a

pub plan_lowest : (s : Settings) (part : List ℕ) (x y k j : ℕ) → get_or (says_planned (plan_answer s part x y)) 0 0 ≡ suc k → Applies j (plan_cases s part x y) → suc k ≤ j
unfolding plan_cases stack_cases setting_cases reach_cases length_cases rising floor
plan_lowest s part x y k j e a = lowest (plan_cases s part x y) (suc k) j refl ((plan_refuses s part x y k).0 e) a

pub judge_lowest : (s : Settings) (part sup l : List ℕ) (k j : ℕ) → suc k ≤ 8 → get_or (says_judged (judge_answer s part sup l)) 0 0 ≡ suc k → Applies j (judge_cases s part sup (length l)) → suc k ≤ j
unfolding judge_cases both_cases stack_cases setting_cases reach_cases length_cases rising floor
judge_lowest s part sup l k j h e a = lowest (judge_cases s part sup (length l)) (suc k) j refl ((judge_refuses s part sup l k h).0 e) a

pub write_lowest : (j : Job) (room k i : ℕ) → get_or (says_written (write_answer j room)) 0 0 ≡ suc k → Applies i (write_cases j room) → suc k ≤ i
unfolding write_cases both_cases stack_cases length_cases setting_cases reach_cases rising floor
write_lowest j room k i e a = lowest (write_cases j room) (suc k) i refl ((write_refuses j room k).0 e) a
