-- Demand 1: the first refusal of a table, taken apart and put together; and the table of each call.
use Rattle.std.specs.Prelude.{◌≡◌, refl, ◌⊎◌, ◌↔◌, Bool, true, false, not, ◌&&◌, cond, List, [], ◌∷◌, ◌++◌, map, ℕ, zero, suc, ◌≤◌, leb, eqb, length}
use Rattle.std.proofs.Common.{sym, ap, subst, ◌∙◌, inl, inr, arith, leb-true, eq-eqb}
use Rattle.std.proofs.lemmas.Bool.{not-true}
use Rattle.rules.specs.Tools.{Case, ◌when◌, refusal, answer}
use Rattle.rules.specs.Images.{rows_of, padding_set}
use Rattle.rules.specs.Demands.{Given, here, later, NoneGiven, end, next}
use Rattle.rules.specs.Jobs.{Job}
use Rattle.rules.specs.Calls.{reach_cases, setting_cases, length_cases, both_cases, stack_cases, plan_cases, clean_cases, judge_cases, section_cases, read_cases}
use Rattle.rules.specs.Calls.{posts_cases, copy_cases, write_cases}
use Rattle.rules.specs.Report.{report_cases}
use Rattle.rules.specs.declared.Micrometres.{Micrometres}
use Rattle.rules.specs.declared.Pixels.{Pixels}
use Rattle.rules.specs.declared.Settings.{Settings}
use Rattle.laws.specs.Tests.{split, clash, and_l, and_r}

-- "Given exactly when" ------------------------------------------------------------------------------------------------

given_in : (cs : List Case) (k : ℕ) → refusal cs ≡ suc k → Given (suc k) cs
given_in [] k e = absurd (omega arith)
given_in (c ∷ cs) k e =
    split c.applies
    (λ t. let g : Given c.number (c ∷ cs) = here {b = c.applies} {cs = cs} t in subst (λ (j : ℕ). Given j (c ∷ cs)) (rw t at e) g)
    (λ t. later {j = c.number} {b = c.applies} {cs = cs} t (given_in cs k (rw t at e)))

given_out : {k : ℕ} {cs : List Case} → Given k cs → refusal cs ≡ k
given_out (here t) = rw t
given_out (later t r) = rw t (given_out r)

-- the refusal of any table is k exactly when k's condition holds and no earlier one does
pub given_exactly : (cs : List Case) (k : ℕ) → (refusal cs ≡ suc k) ↔ Given (suc k) cs
given_exactly cs k = (given_in cs k, λ g. given_out g)

-- the numbers of a table, in its order: none is 0, so 0 says that no condition holds
unfoldable pub numbered : List Case → Bool
numbered [] = true
numbered (c ∷ cs) = not (eqb c.number 0) && numbered cs

head_number : (k : ℕ) (b : Bool) → (not (eqb k 0) && b) ≡ true → k ≡ 0 → ⊥
head_number zero b e z = clash e refl
head_number (suc k) b e z = omega arith

none_in : (cs : List Case) → numbered cs ≡ true → refusal cs ≡ 0 → NoneGiven cs
unfolding numbered
none_in [] n e = end
none_in (c ∷ cs) n e =
    split c.applies
    (λ t. absurd (head_number c.number (numbered cs) n (rw t at e)))
    (λ t. next {j = c.number} {b = c.applies} {cs = cs} t (none_in cs (and_r (not (eqb c.number 0)) _ n) (rw t at e)))

none_out : {cs : List Case} → NoneGiven cs → refusal cs ≡ 0
none_out end = refl
none_out (next t r) = rw t (none_out r)

-- there is no refusal exactly when no condition holds
pub none_exactly : (cs : List Case) → numbered cs ≡ true → (refusal cs ≡ 0) ↔ NoneGiven cs
none_exactly cs n = (none_in cs n, λ r. none_out r)

-- an answer made from a table: what no case refuses is answered, and what one refuses is refused with its number
pub answered : {A : Type 0} (cs : List Case) (fine : A) (refused : ℕ → A) →
    ((refusal cs ≡ 0) × (answer (refusal cs) fine refused ≡ fine)) ⊎ ((k : ℕ) × Given (suc k) cs × (answer (refusal cs) fine refused ≡ refused (suc k)))
answered {A} cs fine refused = go (refusal cs) refl
  where
    go : (r : ℕ) → refusal cs ≡ r → ((refusal cs ≡ 0) × (answer r fine refused ≡ fine)) ⊎ ((k : ℕ) × Given (suc k) cs × (answer r fine refused ≡ refused (suc k)))
    go zero e = inl (e, refl)
    go (suc k) e = inr (k, given_in cs k e, refl)

-- Tables in parts -----------------------------------------------------------------------------------------------------

-- the first refusal number of two, 0 being none
abbrev pub or_else : ℕ → ℕ → ℕ
or_else zero b = b
or_else (suc a) b = suc a

pub else_none : (a b : ℕ) → a ≡ 0 → or_else a b ≡ b
else_none zero b e = refl
else_none (suc a) b e = absurd (omega arith)

pub else_some : (a b : ℕ) → (a ≡ 0 → ⊥) → or_else a b ≡ a
else_some zero b n = absurd (n refl)
else_some (suc a) b n = refl

pub else_both : (a b : ℕ) → or_else a b ≡ 0 → (a ≡ 0) × (b ≡ 0)
else_both zero b e = (refl, e)
else_both (suc a) b e = absurd (omega arith)

-- a number that the first of two cannot give, unless it is none, comes from the second
pub else_passes : (a b k : ℕ) → (a ≡ k → a ≡ 0) → or_else a b ≡ k → (a ≡ 0) × (b ≡ k)
else_passes zero b k n e = (refl, e)
else_passes (suc a) b k n e = absurd (let z : suc a ≡ 0 = n e in omega arith)

-- and one that the second cannot give comes from the first
pub else_first : (a b k : ℕ) → (b ≡ k → ⊥) → or_else a b ≡ k → a ≡ k
else_first zero b k n e = absurd (n e)
else_first (suc a) b k n e = e

pub refusal_append : (a b : List Case) → numbered a ≡ true → refusal (a ++ b) ≡ or_else (refusal a) (refusal b)
unfolding numbered
refusal_append [] b n = refl
refusal_append (c ∷ a) b n =
    split c.applies
    (λ t. rw t (sym (else_some c.number (refusal b) (λ z. head_number c.number (numbered a) n z))))
    (λ t. rw t (refusal_append a b (and_r (not (eqb c.number 0)) _ n)))

-- a call that tests one thing after another: where it stops, and where it goes on
pub stops : {r a : ℕ} (b : ℕ) → r ≡ a → (r ≡ 0 → ⊥) → r ≡ or_else a b
stops {r} {a} b e n = e ∙ sym (else_some a b (λ z. n (e ∙ z)))

pub goes_on : {r a b x : ℕ} → r ≡ a → r ≡ 0 → x ≡ b → x ≡ or_else a b
goes_on {r} {a} {b} e z h = h ∙ sym (else_none a b (sym e ∙ z))

-- the same of a table with its own numbers behind another's
module _ (a b : List Case) (n : numbered a ≡ true) where
  pub stops_before : {r : ℕ} → r ≡ refusal a → (r ≡ 0 → ⊥) → r ≡ refusal (a ++ b)
  stops_before e ne = stops (refusal b) e ne ∙ sym (refusal_append a b n)

  pub goes_behind : {r x : ℕ} → r ≡ refusal a → r ≡ 0 → x ≡ refusal b → x ≡ refusal (a ++ b)
  goes_behind e z h = goes_on e z h ∙ sym (refusal_append a b n)

  pub none_both : refusal (a ++ b) ≡ 0 → (refusal a ≡ 0) × (refusal b ≡ 0)
  none_both e = else_both (refusal a) (refusal b) (sym (refusal_append a b n) ∙ e)

-- one case before others, taken apart
pub case_out : (b : Bool) (k x : ℕ) → cond b (suc k) x ≡ 0 → (b ≡ false) × (x ≡ 0)
case_out true k x e = absurd (omega arith)
case_out false k x e = (refl, e)

-- a case before others that do not give its number, and one that gives another
pub case_told : (b : Bool) (k : ℕ) → cond b (suc k) 0 ≡ suc k → b ≡ true
case_told true k e = refl
case_told false k e = absurd (omega arith)

pub case_passes : (b : Bool) (k x j : ℕ) → (k ≡ j → ⊥) → cond b k x ≡ j → (b ≡ false) × (x ≡ j)
case_passes true k x j n e = absurd (n e)
case_passes false k x j n e = (refl, e)

-- no number of the table is over m, so no refusal is
unfoldable pub up_to : ℕ → List Case → Bool
up_to m [] = true
up_to m (c ∷ cs) = leb c.number m && up_to m cs

pub at_most : (m : ℕ) (cs : List Case) → up_to m cs ≡ true → refusal cs ≤ m
unfolding up_to
at_most m [] l = omega arith
at_most m (c ∷ cs) l =
    split c.applies
    (λ t. rw t (leb-true c.number m (and_l (leb c.number m) (up_to m cs) l)))
    (λ t. rw t (at_most m cs (and_r (leb c.number m) (up_to m cs) l)))

-- no case of the table has the number k, so no refusal is k
unfoldable pub lacks : ℕ → List Case → Bool
lacks k [] = true
lacks k (c ∷ cs) = not (eqb c.number k) && lacks k cs

pub never : (k : ℕ) (cs : List Case) → lacks (suc k) cs ≡ true → refusal cs ≡ suc k → ⊥
unfolding lacks
never k [] l e = omega arith
never k (c ∷ cs) l e =
    split c.applies
    (λ t. clash (eq-eqb c.number (suc k) (rw t at e)) (not-true _ (and_l (not (eqb c.number (suc k))) (lacks (suc k) cs) l)))
    (λ t. never k cs (and_r (not (eqb c.number (suc k))) (lacks (suc k) cs) l) (rw t at e))

-- an answer, by its refusal number
pub answer_fine : {A : Type 0} (r : ℕ) (fine : A) (refused : ℕ → A) → r ≡ 0 → answer r fine refused ≡ fine
answer_fine zero fine refused e = refl
answer_fine (suc r) fine refused e = absurd (omega arith)

pub answer_refused : {A : Type 0} (r : ℕ) (fine : A) (refused : ℕ → A) → (r ≡ 0 → ⊥) → answer r fine refused ≡ refused r
answer_refused zero fine refused n = absurd (n refl)
answer_refused (suc r) fine refused n = refl

-- a table carried to its call: r is the number that the call's test found, k that of its table
pub says_no : {A : Type 0} (fine : A) (refused : ℕ → A) {r k : ℕ} → r ≡ k → (r ≡ 0 → ⊥) → refused r ≡ answer k fine refused
says_no fine refused {r} {k} e n = ap refused e ∙ sym (answer_refused k fine refused (λ z. n (e ∙ z)))

pub says_yes : {A : Type 0} (fine : A) (refused : ℕ → A) {r k : ℕ} {x : A} → r ≡ k → r ≡ 0 → x ≡ fine → x ≡ answer k fine refused
says_yes fine refused {r} {k} e z h = h ∙ sym (answer_fine k fine refused (sym e ∙ z))

-- No number of a table is 0 --------------------------------------------------------------------------------------------

pub settings_numbered : (s : Settings) → numbered (setting_cases s) ≡ true
unfolding setting_cases reach_cases numbered
settings_numbered s = refl

pub stack_numbered : (s : Settings) (stored : Bool) (part : List ℕ) (a b : ℕ) → numbered (stack_cases s stored part a b) ≡ true
unfolding stack_cases length_cases setting_cases reach_cases numbered
stack_numbered s stored part a b = refl

pub both_numbered : (s : Settings) (stored : Bool) (part support : List ℕ) (k : ℕ) → numbered (both_cases s stored part support k) ≡ true
unfolding both_cases stack_cases length_cases setting_cases reach_cases numbered
both_numbered s stored part support k = refl

pub read_numbered : (f : List ℕ) → numbered (read_cases f) ≡ true
unfolding read_cases section_cases setting_cases reach_cases numbered
read_numbered f = refl

-- The table of each call: its numbers in their order ------------------------------------------------------------------

abbrev pub numbers : List Case → List ℕ
numbers = map (λ c. c.number)

pub reach_table : (p t : Micrometres) → numbers (reach_cases p t) ≡ 2 ∷ 3 ∷ []
unfolding reach_cases
reach_table p t = refl

pub plan_table : (s : Settings) (part : List ℕ) (a b : ℕ) → numbers (plan_cases s part a b) ≡ 1 ∷ 2 ∷ 3 ∷ 4 ∷ 5 ∷ 6 ∷ 7 ∷ []
unfolding plan_cases stack_cases setting_cases reach_cases length_cases
plan_table s part a b = refl

-- "those of planning, with 18 for c out of range after 3; a wrong length for F comes under 5"
pub clean_table : (s : Settings) (c : Pixels) (part : List ℕ) (x y z : ℕ) → numbers (clean_cases s c part x y z) ≡ 1 ∷ 2 ∷ 3 ∷ 18 ∷ 4 ∷ 5 ∷ 5 ∷ 6 ∷ 7 ∷ []
unfolding clean_cases setting_cases reach_cases
clean_table s c part x y z = refl

-- "Refusals: 1, 2, 3, 20 for a radius or its reach over those limits, 4, 5 for the posts' length, 7"
pub posts_table : (s : Settings) (r : Micrometres) (part : List ℕ) (room : ℕ) → numbers (posts_cases s r part room) ≡ 1 ∷ 2 ∷ 3 ∷ 20 ∷ 4 ∷ 5 ∷ 7 ∷ []
unfolding posts_cases setting_cases reach_cases
posts_table s r part room = refl

pub judge_table : (s : Settings) (part support : List ℕ) (a : ℕ) → numbers (judge_cases s part support a) ≡ 1 ∷ 2 ∷ 3 ∷ 4 ∷ 5 ∷ 6 ∷ 7 ∷ 8 ∷ []
unfolding judge_cases both_cases stack_cases setting_cases reach_cases length_cases
judge_table s part support a = refl

-- checking refuses what planning refuses, and then 8
pub judge_behind_plan : (s : Settings) (part support : List ℕ) (a : ℕ) → judge_cases s part support a ≡ plan_cases s part (length support) a ++ (8 when padding_set s.w (rows_of s) support) ∷ []
unfolding judge_cases plan_cases both_cases
judge_behind_plan s part support a = refl

-- four sections of 12, 13, 12; 1, 2, 3 after the first; then 14, 7, 8
pub read_table : (f : List ℕ) → numbers (read_cases f) ≡ 12 ∷ 13 ∷ 12 ∷ 1 ∷ 2 ∷ 3 ∷ 12 ∷ 13 ∷ 12 ∷ 12 ∷ 13 ∷ 12 ∷ 12 ∷ 13 ∷ 12 ∷ 14 ∷ 7 ∷ 8 ∷ []
unfolding read_cases section_cases setting_cases reach_cases
read_table f = refl

pub copy_table : (f : List ℕ) (room : ℕ) → numbers (copy_cases f room) ≡ numbers (read_cases f) ++ 6 ∷ []
unfolding copy_cases read_cases section_cases setting_cases reach_cases
copy_table f room = refl

pub write_table : (j : Job) (room : ℕ) → numbers (write_cases j room) ≡ 1 ∷ 2 ∷ 3 ∷ 4 ∷ 5 ∷ 6 ∷ 7 ∷ 8 ∷ 15 ∷ 16 ∷ []
unfolding write_cases both_cases stack_cases length_cases setting_cases reach_cases
write_table j room = refl

pub report_table : (f : List ℕ) → numbers (report_cases f) ≡ 17 ∷ numbers (read_cases f) ++ 17 ∷ []
unfolding report_cases read_cases section_cases setting_cases reach_cases
report_table f = refl
