-- Demand 3 of the checking call itself: for which stacks some rings make it accept, that it accepts the planner's own result, and
-- that whatever it accepts holds all planned support.
use Rattle.std.specs.Prelude.{◌≡◌, refl, ◌↔◌, Bool, true, false, not, eqb, get_or}
use Rattle.std.proofs.Common.{sym, ap, ◌∙◌, zero-add, add-zero, mul_assoc, mul-one, pow-suc, arith, eq-eqb, le-ltb}
use mathlib.Core.List.{List, [], ◌∷◌}
use Prim.Native.Nat.{ℕ, zero, suc, ◌+◌, ◌-◌, ◌*◌, ◌/◌, ◌%◌, ◌^◌, ◌≤◌, ◌<◌}
use Rattle.std.proofs.Math.Nat.{mul-mod_left}
use Rattle.std.proofs.Math.Arith.{digits_lt, digits_div, digits_mod}
use Rattle.std.proofs.Math.ListN.{length}
use Rattle.rules.specs.Tools.{refusal, answer, bit, some}
use Rattle.rules.specs.Images.{Stack, row_bytes, pixel, rows_of, stack_bytes, padded, padding_set, byte_of, bytes_of, rings_in, ring_at}
use Rattle.rules.specs.Reach.{bound_of}
use Rattle.rules.specs.Planning.{rings, planned_rings, planned_bytes}
use Rattle.rules.specs.Judging.{verdict, verdict_of}
use Rattle.rules.specs.Calls.{refused, says_planned, says_judged, setting_cases, plan_refusal, plan_answer, plan_support, plan_rings, judge_cases, judge_answer}
use Rattle.rules.specs.Outcomes.{Plans, Judges}
use Rattle.rules.specs.Demands.{Sound, Words}
use Rattle.rules.specs.declared.Settings.{Settings}
use Rattle.rules.specs.declared.Planned.{Planned}
use Rattle.rules.specs.declared.Planned.TheVariants.{Done, Refused as NotPlanned}
use Rattle.rules.specs.declared.Judged.{Judged}
use Rattle.rules.specs.declared.Judged.TheVariants.{Accepted}
use Rattle.laws.specs.Padding.{refused_number}
use Rattle.laws.specs.Tests.{split, clash, not_out, some_out, get_d_each, length_each}
use Rattle.laws.specs.Places.{accepted_in}
use Rattle.laws.specs.StackTables.{Both, plan_exactly, judge_exactly}
use Rattle.laws.specs.Judgements.{says_accepted}
use Rattle.laws.specs.Soundness.{rings_of, accepted_iff, sound_accepted, rings_length}
use Rattle.laws.specs.PixelBytes.{planned_bytes_accepted, planned_bytes_least}
use Rattle.laws.specs.RingsFit.{rings_fit}
use Rattle.laws.specs.Limits.{ranged, area_most}

-- The bytes of a stack have no padding ------------------------------------------------------------------------------------

-- past the end of a row every bit is 0
past_end : (w h : ℕ) (s : Stack) (row j c d : ℕ) → w ≤ 8 * j + c → byte_of w h s row j (d + c) ≡ byte_of w h s row j c * 2 ^ d
unfolding byte_of bit
past_end w h s row j c zero l = rw (zero-add c, mul-one)
past_end w h s row j c (suc d) l =
    let z : suc d + c ≡ suc (d + c) = omega arith in
    rw (z, le-ltb (8 * j + (d + c)) w (omega arith), past_end w h s row j c d l, pow-suc 2 d) (add-zero _ ∙ mul_assoc (byte_of w h s row j c) (2 ^ d) 2)

-- the last byte of a row has its padding clear
row_clear : (w h n : ℕ) (s : Stack) (row : ℕ) → 0 < w → row < n * h →
    get_or (bytes_of w h n s) (row * row_bytes w + (row_bytes w - 1)) 0 % 2 ^ (8 * row_bytes w - w) ≡ 0
unfolding bytes_of row_bytes
row_clear w h n s row lw lr =
    let b : ℕ = (w + 7) / 8 in
    let lj : b - 1 < b = omega arith in
    let d : ℕ = 8 * b - w in
    let c : ℕ = 8 - d in
    let dc : d + c ≡ 8 = omega arith in
    let x : ℕ = row * b + (b - 1) in
    let g : get_or (bytes_of w h n s) x 0 ≡ byte_of w h s row (b - 1) 8 =
    get_d_each 0 (n * h * b) (λ y. byte_of w h s (y / b) (y % b) 8) x 0 (digits_lt lr lj) ∙ rw (zero-add x, digits_div row lj, digits_mod row lj) in
    let e : byte_of w h s row (b - 1) 8 ≡ byte_of w h s row (b - 1) c * 2 ^ d = rw dc at (past_end w h s row (b - 1) c d (omega arith)) in
    rw (g, e) (mul-mod_left (byte_of w h s row (b - 1) c) (2 ^ d))

pub bytes_of_clear : (w h n : ℕ) (s : Stack) → 0 < w → padding_set w (n * h) (bytes_of w h n s) ≡ false
unfolding padded padding_set
bytes_of_clear w h n s lw =
    let T : ℕ → Bool = λ row. not (eqb (get_or (bytes_of w h n s) (row * row_bytes w + (row_bytes w - 1)) 0 % 2 ^ (8 * row_bytes w - w)) 0) in
    split (some (n * h) T)
    (λ t. let (row, lr, u) = some_out (n * h) T t in clash (eq-eqb _ 0 (row_clear w h n s row lw lr)) (not_out _ u))
    (λ t. t)

pub planned_bytes_clear : (w h n : ℕ) (q : ℕ → ℕ) (part : List ℕ) → 0 < w → padding_set w (n * h) (planned_bytes w h n q part) ≡ false
unfolding planned_bytes
planned_bytes_clear w h n q part lw = bytes_of_clear w h n _ lw

pub planned_bytes_length : (w h n : ℕ) (q : ℕ → ℕ) (part : List ℕ) → length (planned_bytes w h n q part) ≡ n * h * row_bytes w
unfolding planned_bytes bytes_of
planned_bytes_length w h n q part = length_each 0 (n * h * row_bytes w) _

pub planned_rings_length : (w h n : ℕ) (q : ℕ → ℕ) (part : List ℕ) → length (planned_rings w h n q part) ≡ (n - 1) * (h * w)
unfolding planned_rings
planned_rings_length w h n q part = rings_length w h n q (pixel w h part)

-- The checker's table, whatever the rings --------------------------------------------------------------------------------------

-- what the checker refuses whatever the rings: its refusal where their number is right
abbrev pub stack_refusal : Settings → List ℕ → List ℕ → ℕ
stack_refusal s part sup = refusal (judge_cases s part sup (rings_in s))

-- a width of at least 1, and at most 65,536 pixels to a plane
small : (s : Settings) → refusal (setting_cases s) ≡ 0 → (0 < s.w) × (s.h * s.w ≤ 65536)
small s e = let r = ranged s e in (r.w_low, area_most s.w s.h r.w_high r.h_high)

-- Demand 3 ------------------------------------------------------------------------------------------------------------------

-- a sound stack is accepted with the planner's rings
accepted_with : (w h n : ℕ) (q : ℕ → ℕ) (part sup : Stack) → Sound w h n q part sup → verdict w h n q part sup (ring_at w h (rings w h n q part)) ≡ Accepted
accepted_with w h n q part sup s = accepted_in w h n q part sup (rings_of w h n q part) (sound_accepted w h n q part sup s)

module _ (s : Settings) (part sup : List ℕ) where
  -- 0 is said exactly when nothing is refused and the verdict is to accept
  accepted_is : (l : List ℕ) → (says_judged (judge_answer s part sup l) ≡ 0 ∷ []) ↔
      (Both s true part sup (length l) × (verdict_of s.w s.h s.n (bound_of s) part sup l ≡ Accepted))
  accepted_is l = (
    (λ e. let (r, v) = (says_accepted s part sup l).0 e in ((judge_exactly s part sup (length l)).0 r, v)),
    (λ (f, v). (says_accepted s part sup l).1 ((judge_exactly s part sup (length l)).1 f, v)),
  )

  -- "Some ring numbers, in the right count, make the checker accept exactly when" the stack is sound, for stacks that pass the
  -- other checks; and for no others do any
  pub accepts_exactly : ((l : List ℕ) × Words l × (says_judged (judge_answer s part sup l) ≡ 0 ∷ []))
      ↔ ((stack_refusal s part sup ≡ 0) × Sound s.w s.h s.n (bound_of s) (pixel s.w s.h part) (pixel s.w s.h sup))
  unfolding verdict_of rings_in
  accepts_exactly = (
    (λ (l, words, e).
        let (f, v) = (accepted_is l).0 e in
        let n : length l ≡ rings_in s = f.stack.lengths.rings_counted in
        (rw n at ((judge_exactly s part sup (length l)).1 f), (accepted_iff s.w s.h s.n (bound_of s) (pixel s.w s.h part) (pixel s.w s.h sup)).0 (l, n, v))),
    (λ (r, sound).
        let L : List ℕ = rings s.w s.h s.n (bound_of s) (pixel s.w s.h part) in
        let f = (judge_exactly s part sup (rings_in s)).0 r in
        let c : length L ≡ rings_in s = rings_length s.w s.h s.n (bound_of s) (pixel s.w s.h part) in (
          L,
          rings_fit s.w s.h s.n (bound_of s) (pixel s.w s.h part) (small s f.stack.settings).1,
          (accepted_is L).1
              (rw c f, accepted_with s.w s.h s.n (bound_of s) (pixel s.w s.h part) (pixel s.w s.h sup) sound),
        )),
  )

-- bytes of a part that planning takes, of the support's length and without padding, are accepted with the planner's rings where the verdict is to accept
pub accepted_as : (s : Settings) (part : List ℕ) (a b : ℕ) → plan_refusal s part a b ≡ 0 → (sup : List ℕ) → length sup ≡ s.n * s.h * row_bytes s.w →
    (0 < s.w → padding_set s.w (s.n * s.h) sup ≡ false) → verdict_of s.w s.h s.n (bound_of s) part sup (planned_rings s.w s.h s.n (bound_of s) part) ≡ Accepted →
    says_judged (judge_answer s part sup (planned_rings s.w s.h s.n (bound_of s) part)) ≡ 0 ∷ []
unfolding rows_of stack_bytes rings_in
accepted_as s part a b e sup long clear accepted =
    let v = (plan_exactly s part a b).0 e in
    (accepted_is s part sup (planned_rings s.w s.h s.n (bound_of s) part)).1 (
      record {
        stack = record {
          settings = v.settings;
          lengths = record { part_long = v.lengths.part_long; support_long = long; rings_counted = planned_rings_length s.w s.h s.n (bound_of s) part };
          part_clear = v.part_clear;
        };
        support_clear = clear (small s v.settings).0;
      },
      accepted,
    )

-- "The planner's own result is accepted"
pub plan_accepted : (s : Settings) (part : List ℕ) (a b : ℕ) → plan_refusal s part a b ≡ 0 →
    says_judged (judge_answer s part (planned_bytes s.w s.h s.n (bound_of s) part) (planned_rings s.w s.h s.n (bound_of s) part)) ≡ 0 ∷ []
plan_accepted s part a b e =
    accepted_as s part a b e (planned_bytes s.w s.h s.n (bound_of s) part) (planned_bytes_length s.w s.h s.n (bound_of s) part)
    (planned_bytes_clear s.w s.h s.n (bound_of s) part) (planned_bytes_accepted s.w s.h s.n (bound_of s) part)

-- the same of the two calls by their contracts: where planning says 0, whatever the lent memory held, checking what it left says 0
pub plan_left_accepted : (s : Settings) (part sup ring : List ℕ) (r : Planned) (sup' ring' : List ℕ) (v : Judged) →
    Plans s part sup ring r sup' ring' → says_planned r ≡ 0 ∷ [] → Judges s part sup' ring' v → says_judged v ≡ 0 ∷ []
unfolding plan_answer plan_support plan_rings
plan_left_accepted s part sup ring r sup' ring' v x e y =
    rw (y.answer, x.support, x.rings) (go (plan_refusal s part (length sup) (length ring)) refl (sym (ap says_planned x.answer) ∙ e))
  where
    go : (r : ℕ) → plan_refusal s part (length sup) (length ring) ≡ r → says_planned (answer r Done (λ k. NotPlanned (refused s part [] k))) ≡ 0 ∷ [] →
        says_judged (judge_answer s part (answer r (planned_bytes s.w s.h s.n (bound_of s) part) (λ k. sup)) (answer r (planned_rings s.w s.h s.n (bound_of s) part) (λ k. ring))) ≡ 0
        ∷ []
    go zero z h = plan_accepted s part (length sup) (length ring) z
    go (suc r) z h = absurd (let y : suc r ≡ 0 = sym (refused_number s part [] (suc r)) ∙ ap (λ (l : List ℕ). get_or l 0 0) h in omega arith)

-- "and every accepted stack contains all of the planned support"
pub plan_least : (s : Settings) (part sup l : List ℕ) → says_judged (judge_answer s part sup l) ≡ 0 ∷ [] →
    (i p : ℕ) → i < s.n → p < s.h * s.w → pixel s.w s.h (planned_bytes s.w s.h s.n (bound_of s) part) i p ≡ true → pixel s.w s.h sup i p ≡ true
plan_least s part sup l e = planned_bytes_least s.w s.h s.n (bound_of s) part sup l ((accepted_is s part sup l).0 e).1
