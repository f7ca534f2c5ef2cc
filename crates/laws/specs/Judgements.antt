-- Demand 1 of the checking call itself: its numbers 1 to 8 exactly when its table gives them, and 9, 10, 11 and 19 at their first place and
-- acceptance exactly when the table gives none. And the verdict against that of before, which told every unheld pixel as 11.
use Rattle.std.proofs.Math.Path.{◌≡◌, refl, sym, ap}
use Rattle.std.proofs.Common.{◌∙◌}
use Rattle.std.specs.Prelude.{◌↔◌, Bool, ◌&&◌, ◌||◌, eqb}
use Rattle.std.proofs.Math.Logic.Iff
use Rattle.std.proofs.Math.Bool.{true, false, cond}
use mathlib.Core.List.{List, [], ◌∷◌}
use Prim.Native.Nat.{ℕ, zero, suc, ◌+◌, ◌-◌, ◌*◌, ◌/◌, ◌%◌, ◌≤◌, ◌<◌}
use Rattle.std.proofs.Math.Numerals.{add-one}
use native.Mathlib.Omega.{arith}
use Rattle.std.proofs.Math.Arith.{digits_lt}
use Rattle.std.proofs.Math.ListN.{length, get_or}
use Rattle.rules.specs.Tools.{Case, refusal, answer, Found, nothing, found}
use Rattle.rules.specs.Images.{Stack, Rings, pixel, ring_at, first_padded}
use Rattle.rules.specs.Reach.{bound_of}
use Rattle.rules.specs.Judging.{overlap, bad_ring, unheld, unheld_number, first_in, place_of, tell, verdict, verdict_of}
use Rattle.rules.specs.Calls.{says_refusal, says_judged, tell_row, refused, reach_cases, setting_cases, length_cases, both_cases, stack_cases, judge_cases, judge_answer}
use Rattle.rules.specs.Demands.{Given, NoneGiven, FirstAt, Tells}
use Rattle.rules.specs.declared.Settings.{Settings}
use Rattle.rules.specs.declared.Place.{Place}
use Rattle.rules.specs.declared.Judged.{Judged}
use Rattle.rules.specs.declared.Refusal.TheVariants.{Number, InRow, AtPixel}
use Rattle.rules.specs.declared.Judged.TheVariants.{Accepted, Refused}
use Rattle.laws.specs.Refusals.{none_exactly, numbered, up_to, at_most, answer_fine}
use Rattle.laws.specs.Tests.{split, and_l}
use Rattle.laws.specs.Padding.{refused_number, number_exactly, tells}
use Rattle.laws.specs.StackTables.{both_seven, both_eight}
use Rattle.laws.specs.Demand1.{told_overlap, told_bad_ring, told_unheld}
use Rattle.laws.specs.Places.{Nowhere, Passed, accepted_out, accepted_in}

-- the only verdicts there are: accepted, or one of four numbers at a pixel
pub data Verdict : Judged → Type 0 where
  accepted : Verdict Accepted
  overlapping : (at : Place) → Verdict (Refused (AtPixel 9 at))
  ring_is_bad : (at : Place) → Verdict (Refused (AtPixel 10 at))
  part_hangs : (at : Place) → Verdict (Refused (AtPixel 11 at))
  support_hangs : (at : Place) → Verdict (Refused (AtPixel 19 at))

hanging : (b : Bool) (at : Place) → Verdict (Refused (AtPixel (cond b 11 19) at))
hanging true at = part_hangs at
hanging false at = support_hangs at

by_finds : (w h : ℕ) (part : Stack) (o b u : Found) → Verdict (tell w h (λ i p. 9) 0 o (tell w h (λ i p. 10) 1 b (tell w h (unheld_number part) 1 u Accepted)))
unfolding tell unheld_number
by_finds w h part (found x) b u = overlapping (place_of w h 0 x)
by_finds w h part nothing (found x) u = ring_is_bad (place_of w h 1 x)
by_finds w h part nothing nothing (found x) = hanging (part (suc (x / (h * w))) (x % (h * w))) (place_of w h 1 x)
by_finds w h part nothing nothing nothing = accepted

pub verdict_is : (w h n : ℕ) (q : ℕ → ℕ) (part sup l : List ℕ) → Verdict (verdict_of w h n q part sup l)
unfolding verdict verdict_of
verdict_is w h n q part sup l = by_finds w h (pixel w h part) _ _ _

-- a verdict says 0 alone, or a number over 8 with a pixel
data Says : List ℕ → Type 0 where
  zero_alone : Says (0 ∷ [])
  with_pixel : (k i r c : ℕ) → 9 ≤ k → Says (k ∷ i ∷ r ∷ c ∷ [])

verdict_says : {v : Judged} → Verdict v → Says (says_judged v)
verdict_says accepted = zero_alone
verdict_says (overlapping at) = with_pixel 9 at.layer at.row at.column (omega arith)
verdict_says (ring_is_bad at) = with_pixel 10 at.layer at.row at.column (omega arith)
verdict_says (part_hangs at) = with_pixel 11 at.layer at.row at.column (omega arith)
verdict_says (support_hangs at) = with_pixel 19 at.layer at.row at.column (omega arith)

-- so it has none of the numbers 1 to 8
no_number : {l : List ℕ} (k : ℕ) → Says l → suc k ≤ 8 → get_or l 0 0 ≡ suc k → ⊥
no_number k zero_alone h e = omega arith
no_number k (with_pixel j i r c g) h e = omega arith

judge_numbered : (s : Settings) (part sup : List ℕ) (k : ℕ) → numbered (judge_cases s part sup k) ≡ true
unfolding judge_cases both_cases stack_cases setting_cases reach_cases length_cases numbered
judge_numbered s part sup k = refl

-- what an answer says is what it is
says_place : (v : Judged) (k i r c : ℕ) → says_judged v ≡ k ∷ i ∷ r ∷ c ∷ [] → v ≡ Refused (AtPixel k (record { layer = i; row = r; column = c }))
says_place Accepted k i r c e = absurd (let z : ◌≡◌ {A = ℕ} 1 4 = ap length e in omega arith)
says_place (Refused (Number j)) k i r c e = absurd (let z : ◌≡◌ {A = ℕ} 1 4 = ap length e in omega arith)
says_place (Refused (InRow j at)) k i r c e = absurd (let z : ◌≡◌ {A = ℕ} 3 4 = ap length e in omega arith)
says_place (Refused (AtPixel j at)) k i r c e =
    let a : j ≡ k = cc in
    let x : at.layer ≡ i = cc in
    let y : at.row ≡ r = cc in
    let z : at.column ≡ c = cc in
    rw (← a, ← x, ← y, ← z)

is_accepted : {v : Judged} → Verdict v → says_judged v ≡ 0 ∷ [] → v ≡ Accepted
is_accepted accepted e = refl
is_accepted (overlapping at) e = absurd (let y : ◌≡◌ {A = ℕ} 4 1 = ap length e in omega arith)
is_accepted (ring_is_bad at) e = absurd (let y : ◌≡◌ {A = ℕ} 4 1 = ap length e in omega arith)
is_accepted (part_hangs at) e = absurd (let y : ◌≡◌ {A = ℕ} 4 1 = ap length e in omega arith)
is_accepted (support_hangs at) e = absurd (let y : ◌≡◌ {A = ℕ} 4 1 = ap length e in omega arith)

module _ (s : Settings) (part sup l : List ℕ) where
  abbrev table : List Case
  table = judge_cases s part sup (length l)

  abbrev found_out : Judged
  found_out = verdict_of s.w s.h s.n (bound_of s) part sup l

  abbrev no : ℕ → Judged
  no k = Refused (refused s part sup k)

  -- a number of the table has at most three parts
  refused_short : (k : ℕ) → length (says_refusal (refused s part sup k)) ≤ 3
  unfolding refused tell_row
  refused_short k =
      split (eqb k 7) (λ t. rw t (go (first_padded s part))) (λ t.
      split (eqb k 8) (λ u. rw (t, u) (go (first_padded s sup))) (λ u. rw (t, u) (omega arith)))
    where
      go : (f : Found) → length (says_refusal (tell_row s.h k f)) ≤ 3
      go nothing = omega arith
      go (found x) = omega arith

  verdict_above : (k : ℕ) → suc k ≤ 8 → get_or (says_judged found_out) 0 0 ≡ suc k → ⊥
  verdict_above k h e = no_number k (verdict_says (verdict_is s.w s.h s.n (bound_of s) part sup l)) h e

  -- 1 to 8 exactly when the table gives them: "the lowest number wins"
  pub judge_refuses : (k : ℕ) → suc k ≤ 8 → (get_or (says_judged (judge_answer s part sup l)) 0 0 ≡ suc k) ↔ Given (suc k) table
  unfolding judge_answer
  judge_refuses k h = number_exactly says_judged found_out Refused (λ j. refl) table s part sup k (verdict_above k h)

  -- and any other number comes with a pixel
  pub judge_with_pixel : (k : ℕ) → 9 ≤ k → get_or (says_judged (judge_answer s part sup l)) 0 0 ≡ k → length (says_judged (judge_answer s part sup l)) ≡ 4
  unfolding judge_answer judge_cases both_cases stack_cases setting_cases reach_cases length_cases up_to
  judge_with_pixel k h e = go (refusal table) (at_most 8 table refl) e
    where
      pixel_said : {m : List ℕ} → Says m → get_or m 0 0 ≡ k → length m ≡ 4
      pixel_said zero_alone z = absurd (omega arith)
      pixel_said (with_pixel j i r c g) z = refl

      go : (x : ℕ) → x ≤ 8 → get_or (says_judged (answer x found_out no)) 0 0 ≡ k → length (says_judged (answer x found_out no)) ≡ 4
      go zero u z = pixel_said (verdict_says (verdict_is s.w s.h s.n (bound_of s) part sup l)) z
      go (suc x) u z = absurd (omega (arith, refused_number s part sup (suc x)))

  pub judge_tells : Tells (says_judged (judge_answer s part sup l)) table s part sup
  unfolding judge_answer judge_cases
  judge_tells =
      tells says_judged found_out Refused (λ j. refl) table s part sup (verdict_above 6 (omega arith)) (verdict_above 7 (omega arith))
      (λ e. (both_seven s true part sup (length l) e).set)
      (λ e. (both_eight s true part sup (length l) e).set)

  -- 0 is said exactly when nothing is refused and the verdict is to accept
  pub says_accepted : (says_judged (judge_answer s part sup l) ≡ 0 ∷ []) ↔ ((refusal table ≡ 0) × (found_out ≡ Accepted))
  unfolding judge_answer
  says_accepted = ((λ e. go (refusal table) refl e), (λ (z, v). ap says_judged (answer_fine (refusal table) found_out no z ∙ v)))
    where
      go : (x : ℕ) → refusal table ≡ x → says_judged (answer x found_out no) ≡ 0 ∷ [] → (refusal table ≡ 0) × (found_out ≡ Accepted)
      go zero z e = (z, is_accepted (verdict_is s.w s.h s.n (bound_of s) part sup l) e)
      go (suc x) z e = absurd (let y : suc x ≡ 0 = sym (refused_number s part sup (suc x)) ∙ ap (λ (m : List ℕ). get_or m 0 0) e in omega arith)

  -- a pixel is told exactly when nothing is refused and the searches find it
  judge_finds : (k i r c : ℕ) → (says_judged (judge_answer s part sup l) ≡ k ∷ i ∷ r ∷ c ∷ []) ↔
      (NoneGiven table × (found_out ≡ Refused (AtPixel k (record { layer = i; row = r; column = c }))))
  unfolding judge_answer
  judge_finds k i r c = (
    (λ e.
        let (z, v) = go (refusal table) refl e in
        ((none_exactly table (judge_numbered s part sup (length l))).0 z, says_place found_out k i r c v)),
    (λ (n, v).
        let z : refusal table ≡ 0 = (none_exactly table (judge_numbered s part sup (length l))).1 n in
        ap says_judged (answer_fine (refusal table) found_out no z ∙ v)),
  )
    where
      go : (x : ℕ) → refusal table ≡ x → says_judged (answer x found_out no) ≡ k ∷ i ∷ r ∷ c ∷ [] →
          (refusal table ≡ 0) × (says_judged found_out ≡ k ∷ i ∷ r ∷ c ∷ [])
      go zero z e = (z, e)
      go (suc x) z e = absurd (let y : length (says_refusal (refused s part sup (suc x))) ≡ 4 = ap length e in omega (arith, refused_short (suc x)))

  abbrev P : Stack
  P = pixel s.w s.h part

  abbrev T : Stack
  T = pixel s.w s.h sup

  abbrev overlaps : Stack
  overlaps = overlap P T

  abbrev bad_rings : Stack
  bad_rings = bad_ring s.w s.h (bound_of s) P (ring_at s.w s.h l)

  abbrev unheld_ones : Stack
  unheld_ones = unheld P T (ring_at s.w s.h l)

  -- 9: the first pixel in both T and P
  pub judge_overlap : (i r c : ℕ) → (says_judged (judge_answer s part sup l) ≡ 9 ∷ i ∷ r ∷ c ∷ []) ↔
      (NoneGiven table × FirstAt s.w s.h s.n 0 overlaps (record { layer = i; row = r; column = c }))
  unfolding verdict_of
  judge_overlap i r c =
      Iff.trans (judge_finds 9 i r c) (Iff.and Iff.rfl (
      told_overlap s.w s.h s.n (bound_of s) P T (ring_at s.w s.h l) (record { layer = i; row = r; column = c })))

  -- 10: the first bad ring, where no pixel overlaps
  pub judge_bad_ring : (i r c : ℕ) → (says_judged (judge_answer s part sup l) ≡ 10 ∷ i ∷ r ∷ c ∷ []) ↔
      (NoneGiven table × (Nowhere s.w s.h s.n overlaps × FirstAt s.w s.h (s.n - 1) 1 bad_rings (record { layer = i; row = r; column = c })))
  unfolding verdict_of
  judge_bad_ring i r c =
      Iff.trans (judge_finds 10 i r c) (Iff.and Iff.rfl (
      told_bad_ring s.w s.h s.n (bound_of s) P T (ring_at s.w s.h l) (record { layer = i; row = r; column = c })))

  -- 11 and 19: the first unheld pixel, where no pixel overlaps and no ring is bad, and the number is read off there
  pub judge_unheld : (k i r c : ℕ) → (9 ≡ k → ⊥) → (10 ≡ k → ⊥) → (says_judged (judge_answer s part sup l) ≡ k ∷ i ∷ r ∷ c ∷ []) ↔
      (NoneGiven table
      × (Nowhere s.w s.h s.n overlaps × Nowhere s.w s.h (s.n - 1) bad_rings × FirstAt s.w s.h (s.n - 1) 1 unheld_ones (record { layer = i; row = r; column = c })
      × (cond (P i (r * s.w + c)) 11 19 ≡ k)))
  unfolding verdict_of
  judge_unheld k i r c n9 n10 =
      Iff.trans (judge_finds k i r c) (Iff.and Iff.rfl (
      told_unheld s.w s.h s.n (bound_of s) P T (ring_at s.w s.h l) k (record { layer = i; row = r; column = c }) n9 n10))

  -- "11 only for a part pixel"
  pub judge_part_hangs : (i r c : ℕ) → (says_judged (judge_answer s part sup l) ≡ 11 ∷ i ∷ r ∷ c ∷ []) ↔
      (NoneGiven table
      × (Nowhere s.w s.h s.n overlaps × Nowhere s.w s.h (s.n - 1) bad_rings × FirstAt s.w s.h (s.n - 1) 1 unheld_ones (record { layer = i; row = r; column = c })
      × (P i (r * s.w + c) ≡ true)))
  judge_part_hangs i r c =
      let t = judge_unheld 11 i r c (λ z. omega arith) (λ z. omega arith) in (
        (λ e. let (n, (o, b, a, k)) = t.0 e in (n, (o, b, a, is_eleven (P i (r * s.w + c)) k))),
        (λ (n, (o, b, a, k)). t.1 (n, (o, b, a, ap (λ (x : Bool). cond x 11 19) k))),
      )
    where
      is_eleven : (b : Bool) → ◌≡◌ {A = ℕ} (cond b 11 19) 11 → b ≡ true
      is_eleven true k = refl
      is_eleven false k = absurd (omega arith)

  -- an unheld pixel that is not part is support
  hanging_support : (i r c : ℕ) → FirstAt s.w s.h (s.n - 1) 1 unheld_ones (record { layer = i; row = r; column = c }) → (P i (r * s.w + c) || T i (r * s.w + c)) ≡ true
  unfolding unheld
  hanging_support i r c a =
      let p : ℕ = a.r * s.w + a.c in
      let e : (P (suc a.i) p || T (suc a.i) p) ≡ true = and_l _ _ (and_l _ _ a.passes) in
      let x : i ≡ suc a.i = ap (λ (z : Place). z.layer) a.told ∙ add-one a.i in
      let y : r * s.w + c ≡ p = ap (λ (z : Place). z.row * s.w + z.column) a.told in
      rw (x, y) e

  -- "and 19 for a support pixel"
  pub judge_support_hangs : (i r c : ℕ) → (says_judged (judge_answer s part sup l) ≡ 19 ∷ i ∷ r ∷ c ∷ []) ↔
      (NoneGiven table
      × (Nowhere s.w s.h s.n overlaps × Nowhere s.w s.h (s.n - 1) bad_rings × FirstAt s.w s.h (s.n - 1) 1 unheld_ones (record { layer = i; row = r; column = c })
      × (T i (r * s.w + c) ≡ true)))
  unfolding overlap
  judge_support_hangs i r c =
      let t = judge_unheld 19 i r c (λ z. omega arith) (λ z. omega arith) in (
        (λ e.
            let (n, (o, b, a, k)) = t.0 e in
            (n, (o, b, a, only_support (P i (r * s.w + c)) (T i (r * s.w + c)) k (hanging_support i r c a)))),
        (λ (n, (o, b, a, k)).
            let (li, lr, lc) = a.inside in
            let x : i ≡ a.i + 1 = ap (λ (z : Place). z.layer) a.told in
            let y : r * s.w + c ≡ a.r * s.w + a.c = ap (λ (z : Place). z.row * s.w + z.column) a.told in
            let p : r * s.w + c < s.h * s.w = rw y (digits_lt lr lc) in
            let f : (T i (r * s.w + c) && P i (r * s.w + c)) ≡ false = o i (r * s.w + c) (omega arith) p in
            t.1 (n, (o, b, a, ap (λ (v : Bool). cond v 11 19) (rw k at f)))),
      )
    where
      only_support : (b d : Bool) → ◌≡◌ {A = ℕ} (cond b 11 19) 19 → (b || d) ≡ true → d ≡ true
      only_support true d k e = absurd (omega arith)
      only_support false d k e = e

  -- 0: accepted, exactly when nothing is refused and nothing is found
  pub judge_accepts : (says_judged (judge_answer s part sup l) ≡ 0 ∷ []) ↔
      (NoneGiven table × Passed s.w s.h s.n (bound_of s) P T (ring_at s.w s.h l))
  unfolding verdict_of
  judge_accepts = (
    (λ e.
        let (z, v) = says_accepted.0 e in
        ((none_exactly table (judge_numbered s part sup (length l))).0 z, accepted_out s.w s.h s.n (bound_of s) P T (ring_at s.w s.h l) v)),
    (λ (n, p).
        let z : refusal table ≡ 0 = (none_exactly table (judge_numbered s part sup (length l))).1 n in
        says_accepted.1 (z, accepted_in s.w s.h s.n (bound_of s) P T (ring_at s.w s.h l) p)),
  )

-- "19 shares the order position of 11": the verdict of before, in which every unheld pixel was 11, is the verdict with 19 read as 11 ------------------

abbrev pub verdict_before : ℕ → ℕ → ℕ → (ℕ → ℕ) → Stack → Stack → Rings → Judged
verdict_before w h n q part sup ring =
    tell w h (λ i p. 9) 0 (first_in w h n (overlap part sup)) (
    tell w h (λ i p. 10) 1 (first_in w h (n - 1) (bad_ring w h q part ring)) (
    tell w h (λ i p. 11) 1 (first_in w h (n - 1) (unheld part sup ring)) Accepted))

abbrev pub read_as11 : Judged → Judged
read_as11 Accepted = Accepted
read_as11 (Refused (Number k)) = Refused (Number k)
read_as11 (Refused (InRow k at)) = Refused (InRow k at)
read_as11 (Refused (AtPixel k at)) = Refused (AtPixel (cond (eqb k 19) 11 k) at)

pub verdict_before_lem : (w h n : ℕ) (q : ℕ → ℕ) (part sup : Stack) (ring : Rings) → read_as11 (verdict w h n q part sup ring) ≡ verdict_before w h n q part sup ring
unfolding verdict tell unheld_number
verdict_before_lem w h n q part sup ring = go (first_in w h n (overlap part sup)) (first_in w h (n - 1) (bad_ring w h q part ring)) (first_in w h (n - 1) (unheld part sup ring))
  where
    number : (b : Bool) (at : Place) → read_as11 (Refused (AtPixel (cond b 11 19) at)) ≡ Refused (AtPixel 11 at)
    number true at = refl
    number false at = refl

    go : (o b u : Found) → read_as11 (tell w h (λ i p. 9) 0 o (tell w h (λ i p. 10) 1 b (tell w h (unheld_number part) 1 u Accepted)))
        ≡ tell w h (λ i p. 9) 0 o (tell w h (λ i p. 10) 1 b (tell w h (λ i p. 11) 1 u Accepted))
    go (found x) b u = refl
    go nothing (found x) u = refl
    go nothing nothing (found x) = number (part (suc (x / (h * w))) (x % (h * w))) (place_of w h 1 x)
    go nothing nothing nothing = refl
