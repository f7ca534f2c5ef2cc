-- The tables of a stack, numbers 1 to 7 and 1 to 8, and those of cleaning and posts: what is known where they refuse nothing, and that no more is needed.
use Rattle.std.specs.Prelude.{◌≡◌, ◌⊎◌, ◌↔◌, Bool, ◌&&◌, ◌||◌, ℕ, ◌/◌, ◌≤◌, ◌<◌, eqb, ltb}
use Rattle.std.proofs.Math.Path.{refl, ap}
use Rattle.std.proofs.Common.{sym, ◌∙◌, arith}
use Rattle.std.proofs.Math.Logic.{inl, inr, ⊎_elim}
use Rattle.std.proofs.Math.Bool.{true, false, not, cond}
use mathlib.Core.List.{List, [], ◌∷◌, ◌++◌}
use Rattle.std.proofs.Math.Dec.{leb}
use Rattle.std.proofs.Math.ListN.{length}
use borrow.Author.Tests.{eq-eqb, ne_eqb, eqb-true, not-false, le-ltb, lt-ltb, ltb-true, ltb-false, leb-false, lt-leb}
use Rattle.rules.specs.Tools.{some, Case, ◌when◌, refusal}
use Rattle.rules.specs.Images.{within, sized, rows_of, stack_bytes, rings_in, padding_set}
use Rattle.rules.specs.Reach.{settable, reach_of, most_reach}
use Rattle.rules.specs.Calls.{reach_cases, setting_cases, length_cases, stack_cases, both_cases, plan_cases, plan_refusal, clean_cases, clean_refusal, judge_cases}
use Rattle.rules.specs.Calls.{posts_cases, posts_refusal}
use Rattle.rules.specs.Cleaning.{most_gap}
use Rattle.rules.specs.declared.Micrometres.{Micrometres}
use Rattle.rules.specs.declared.Settings.{Settings}
use Rattle.rules.specs.declared.Pixels.{Pixels}
use Rattle.laws.specs.Tests.{split, clash, none_of, or_l, or_r, or_out, and_l, and_false, not_in, not_out}
use Rattle.laws.specs.Refusals.{numbered, lacks, never, or_else, else_both, else_none, else_some, else_passes, else_first, refusal_append, case_out, case_told, case_passes}
use Rattle.laws.specs.Refusals.{settings_numbered, stack_numbered, none_both}

-- the lengths of part, support and rings are right
pub record Lengths (s : Settings) (stored : Bool) (part sup k : ℕ) : Type 0 where
  pub part_long : part ≡ stack_bytes s
  pub support_long : sup ≡ cond stored (stack_bytes s) 0
  pub rings_counted : k ≡ cond stored (rings_in s) 0

module _ (s : Settings) (stored : Bool) (part sup k : ℕ) where
  pub lengths_out : refusal (length_cases s stored part sup k) ≡ 0 → Lengths s stored part sup k
  unfolding length_cases
  lengths_out e =
      let (a, e₁) = case_out (not (eqb part (stack_bytes s))) 3 _ e in
      let (b, e₂) = case_out (not (eqb sup (cond stored (stack_bytes s) 0))) 4 _ e₁ in
      let (d, e₃) = case_out (not (eqb k (cond stored (rings_in s) 0))) 5 _ e₂ in
      record { part_long = eqb-true _ _ (not-false _ a); support_long = eqb-true _ _ (not-false _ b); rings_counted = eqb-true _ _ (not-false _ d) }

  pub lengths_in : Lengths s stored part sup k → refusal (length_cases s stored part sup k) ≡ 0
  unfolding length_cases
  lengths_in v = rw (eq-eqb _ _ v.part_long, eq-eqb _ _ v.support_long, eq-eqb _ _ v.rings_counted)

-- nothing of 1 to 7 is refused
pub record Stacked (s : Settings) (stored : Bool) (part : List ℕ) (sup k : ℕ) : Type 0 where
  pub settings : refusal (setting_cases s) ≡ 0
  pub lengths : Lengths s stored (length part) sup k
  pub part_clear : padding_set s.w (rows_of s) part ≡ false

module _ (s : Settings) (stored : Bool) (part : List ℕ) (sup k : ℕ) where
  -- settings, lengths and padding, in this order
  pub stack_parts : refusal (stack_cases s stored part sup k)
      ≡ or_else (refusal (setting_cases s)) (or_else (refusal (length_cases s stored (length part) sup k)) (cond (padding_set s.w (rows_of s) part) 7 0))
  unfolding stack_cases length_cases setting_cases reach_cases numbered
  stack_parts =
      let ls : List Case = length_cases s stored (length part) sup k in
      let pad : List Case = (7 when padding_set s.w (rows_of s) part) ∷ [] in
      refusal_append (setting_cases s) (ls ++ pad) refl ∙ ap (or_else (refusal (setting_cases s))) (refusal_append ls pad refl)

  stack_out : refusal (stack_cases s stored part sup k) ≡ 0 → Stacked s stored part sup k
  stack_out e =
      let (a, e₁) = else_both (refusal (setting_cases s)) _ (sym stack_parts ∙ e) in
      let (b, e₂) = else_both (refusal (length_cases s stored (length part) sup k)) _ e₁ in
      record { settings = a; lengths = lengths_out s stored (length part) sup k b; part_clear = (case_out (padding_set s.w (rows_of s) part) 6 0 e₂).0 }

  stack_in : Stacked s stored part sup k → refusal (stack_cases s stored part sup k) ≡ 0
  stack_in v = stack_parts ∙ rw (v.settings, lengths_in s stored (length part) sup k v.lengths, v.part_clear)

  pub stack_exactly : (refusal (stack_cases s stored part sup k) ≡ 0) ↔ Stacked s stored part sup k
  stack_exactly = (stack_out, stack_in)

-- nothing of 1 to 8 is
pub record Both (s : Settings) (stored : Bool) (part sup : List ℕ) (k : ℕ) : Type 0 where
  pub stack : Stacked s stored part (length sup) k
  pub support_clear : padding_set s.w (cond stored (rows_of s) 0) sup ≡ false

module _ (s : Settings) (stored : Bool) (part sup : List ℕ) (k : ℕ) where
  abbrev pad : List Case
  pad = (8 when padding_set s.w (cond stored (rows_of s) 0) sup) ∷ []

  both_out : refusal (both_cases s stored part sup k) ≡ 0 → Both s stored part sup k
  unfolding both_cases
  both_out e =
      let (a, b) = none_both (stack_cases s stored part (length sup) k) pad (stack_numbered s stored part (length sup) k) e in
      record { stack = stack_out s stored part (length sup) k a; support_clear = (case_out (padding_set s.w (cond stored (rows_of s) 0) sup) 7 0 b).0 }

  both_in : Both s stored part sup k → refusal (both_cases s stored part sup k) ≡ 0
  unfolding both_cases
  both_in v =
      refusal_append (stack_cases s stored part (length sup) k) pad (stack_numbered s stored part (length sup) k)
      ∙ rw (stack_in s stored part (length sup) k v.stack, v.support_clear)

  pub both_exactly : (refusal (both_cases s stored part sup k) ≡ 0) ↔ Both s stored part sup k
  both_exactly = (both_out, both_in)

-- a stack in which padding is all that is wrong, told as 7 or as 8
pub record Padded (s : Settings) (l : List ℕ) : Type 0 where
  pub settings : refusal (setting_cases s) ≡ 0
  pub long : length l ≡ stack_bytes s
  pub set : padding_set s.w (rows_of s) l ≡ true

pub stack_seven : (s : Settings) (stored : Bool) (part : List ℕ) (sup k : ℕ) → refusal (stack_cases s stored part sup k) ≡ 7 → Padded s part
unfolding length_cases setting_cases reach_cases lacks
stack_seven s stored part sup k e =
    let (a, e₁) = else_passes (refusal (setting_cases s)) _ 7 (λ z. absurd (never 6 (setting_cases s) refl z)) (sym (stack_parts s stored part sup k) ∙ e) in
    let (b, e₂) = else_passes (refusal (length_cases s stored (length part) sup k)) _ 7 (λ z. absurd (never 6 (length_cases s stored (length part) sup k) refl z)) e₁ in
    record { settings = a; long = (lengths_out s stored (length part) sup k b).part_long; set = case_told _ 6 e₂ }

module _ (s : Settings) (stored : Bool) (part sup : List ℕ) (k : ℕ) where
  both_parts : refusal (both_cases s stored part sup k) ≡ or_else (refusal (stack_cases s stored part (length sup) k)) (refusal (pad s stored part sup k))
  unfolding both_cases
  both_parts = refusal_append (stack_cases s stored part (length sup) k) (pad s stored part sup k) (stack_numbered s stored part (length sup) k)

  pub both_seven : refusal (both_cases s stored part sup k) ≡ 7 → Padded s part
  unfolding lacks
  both_seven e = stack_seven s stored part (length sup) k (else_first _ (refusal (pad s stored part sup k)) 7 (λ z. never 6 (pad s stored part sup k) refl z) (sym both_parts ∙ e))

  pub both_eight : refusal (both_cases s stored part sup k) ≡ 8 → Padded s sup
  unfolding stack_cases length_cases setting_cases reach_cases lacks padding_set some
  both_eight e =
      let cs : List Case = stack_cases s stored part (length sup) k in
      let (a, b) = else_passes (refusal cs) _ 8 (λ z. absurd (never 7 cs refl z)) (sym both_parts ∙ e) in
      let v = (stack_exactly s stored part (length sup) k).0 a in
      by_stored stored v.settings v.lengths.support_long (case_told _ 7 b)
    where
      by_stored : (b : Bool) → refusal (setting_cases s) ≡ 0 → length sup ≡ cond b (stack_bytes s) 0 → padding_set s.w (cond b (rows_of s) 0) sup ≡ true → Padded s sup
      by_stored true a l p = record { settings = a; long = l; set = p }
      by_stored false a l p = clash p refl

-- planning and checking
pub plan_exactly : (s : Settings) (part : List ℕ) (a b : ℕ) → (plan_refusal s part a b ≡ 0) ↔ Stacked s true part a b
unfolding plan_refusal plan_cases
plan_exactly s part a b = stack_exactly s true part a b

pub judge_exactly : (s : Settings) (part sup : List ℕ) (k : ℕ) → (refusal (judge_cases s part sup k) ≡ 0) ↔ Both s true part sup k
unfolding judge_cases
judge_exactly s part sup k = both_exactly s true part sup k

-- Cleaning: planning's table with its own numbers between
module _ (s : Settings) (c : Pixels) (part : List ℕ) (sup k clean : ℕ) where
  -- 18 and what comes after it
  abbrev behind : ℕ
  behind =
      refusal ((18 when ltb most_gap c.0)
      ∷ (4 when not (eqb (length part) (stack_bytes s)))
      ∷ (5 when not (eqb sup (stack_bytes s)))
      ∷ (5 when not (eqb clean (stack_bytes s)))
      ∷ (6 when not (eqb k (rings_in s)))
      ∷ (7 when padding_set s.w (rows_of s) part)
      ∷ [])

  clean_parts : clean_refusal s c part sup k clean ≡ or_else (refusal (setting_cases s)) behind
  unfolding clean_refusal clean_cases
  clean_parts = refusal_append (setting_cases s) _ (settings_numbered s)

  -- "Refusals: those of planning", where c is in range and the cleaned support has its length
  pub clean_as_plan : c.0 ≤ most_gap → clean ≡ stack_bytes s → clean_refusal s c part sup k clean ≡ plan_refusal s part sup k
  unfolding plan_refusal plan_cases stack_cases length_cases setting_cases reach_cases
  clean_as_plan l e = clean_parts ∙ rw (le-ltb most_gap c.0 l, eq-eqb clean (stack_bytes s) e)
      (sym (refusal_append (setting_cases s) (length_cases s true (length part) sup k ++ (7 when padding_set s.w (rows_of s) part) ∷ []) (settings_numbered s)))

  -- nothing is refused exactly where planning refuses nothing, c is in range and the cleaned support has its length
  pub clean_exactly : (clean_refusal s c part sup k clean ≡ 0) ↔ ((plan_refusal s part sup k ≡ 0) × (c.0 ≤ most_gap) × (clean ≡ stack_bytes s))
  clean_exactly = (
    (λ e.
        let (a, e₁) = else_both (refusal (setting_cases s)) behind (sym clean_parts ∙ e) in
        let (g, e₂) = case_out (ltb most_gap c.0) 17 _ e₁ in
        let (b, e₃) = case_out (not (eqb (length part) (stack_bytes s))) 3 _ e₂ in
        let (d, e₄) = case_out (not (eqb sup (stack_bytes s))) 4 _ e₃ in
        let (f, e₅) = case_out (not (eqb clean (stack_bytes s))) 4 _ e₄ in
        let l : c.0 ≤ most_gap = ltb-false most_gap c.0 g in
        let z : clean ≡ stack_bytes s = eqb-true _ _ (not-false _ f) in
        (sym (clean_as_plan l z) ∙ e, l, z)),
    (λ (e, l, z). clean_as_plan l z ∙ e),
  )

  pub clean_seven : clean_refusal s c part sup k clean ≡ 7 → Padded s part
  unfolding setting_cases reach_cases lacks
  clean_seven e =
      let (a, e₁) = else_passes (refusal (setting_cases s)) behind 7 (λ z. absurd (never 6 (setting_cases s) refl z)) (sym clean_parts ∙ e) in
      let (g, e₂) = case_passes (ltb most_gap c.0) 18 _ 7 (λ z. omega arith) e₁ in
      let (b, e₃) = case_passes (not (eqb (length part) (stack_bytes s))) 4 _ 7 (λ z. omega arith) e₂ in
      let (d, e₄) = case_passes (not (eqb sup (stack_bytes s))) 5 _ 7 (λ z. omega arith) e₃ in
      let (f, e₅) = case_passes (not (eqb clean (stack_bytes s))) 5 _ 7 (λ z. omega arith) e₄ in
      let (h, e₆) = case_passes (not (eqb k (rings_in s))) 6 _ 7 (λ z. omega arith) e₅ in
      record { settings = a; long = eqb-true _ _ (not-false _ b); set = case_told _ 6 e₆ }

  -- a test of the numbers in turn: settings, c, the length of the part and that of the cleaned support
  pub clean_settings : (refusal (setting_cases s) ≡ 0 → ⊥) → clean_refusal s c part sup k clean ≡ refusal (setting_cases s)
  clean_settings n = clean_parts ∙ else_some (refusal (setting_cases s)) behind n

  pub clean_gap : refusal (setting_cases s) ≡ 0 → most_gap < c.0 → clean_refusal s c part sup k clean ≡ 18
  clean_gap e l = clean_parts ∙ else_none (refusal (setting_cases s)) behind e ∙ rw (lt-ltb most_gap c.0 l)

  pub clean_part : refusal (setting_cases s) ≡ 0 → c.0 ≤ most_gap → (length part ≡ stack_bytes s → ⊥) → clean_refusal s c part sup k clean ≡ 4
  clean_part e l n = clean_parts ∙ else_none (refusal (setting_cases s)) behind e ∙ rw (le-ltb most_gap c.0 l, ne_eqb (length part) (stack_bytes s) n)

  pub clean_length : refusal (setting_cases s) ≡ 0 → c.0 ≤ most_gap → length part ≡ stack_bytes s → (clean ≡ stack_bytes s → ⊥) → clean_refusal s c part sup k clean ≡ 5
  clean_length e l p n =
      clean_parts
      ∙ else_none (refusal (setting_cases s)) behind e
      ∙ rw (le-ltb most_gap c.0 l, eq-eqb (length part) (stack_bytes s) p, ne_eqb clean (stack_bytes s) n) (split (eqb sup (stack_bytes s)) (λ t. rw t) (λ t. rw t))

-- Posts: no rings are lent, and 20 is given where the rules of the overhang refuse the radius
pub record Postable (s : Settings) (r : Micrometres) (part : List ℕ) (room : ℕ) : Type 0 where
  pub settings : refusal (setting_cases s) ≡ 0
  pub radius : refusal (reach_cases s.pitch r) ≡ 0
  pub part_long : length part ≡ stack_bytes s
  pub posts_long : room ≡ stack_bytes s
  pub part_clear : padding_set s.w (rows_of s) part ≡ false

module _ (s : Settings) (r : Micrometres) (part : List ℕ) (room : ℕ) where
  abbrev over : Bool
  over = not (settable s.pitch r) || ltb most_reach (reach_of s.pitch r).0

  -- 20 and what comes after it
  abbrev after_settings : ℕ
  after_settings =
      refusal ((20 when over)
      ∷ (4 when not (eqb (length part) (stack_bytes s)))
      ∷ (5 when not (eqb room (stack_bytes s)))
      ∷ (7 when padding_set s.w (rows_of s) part)
      ∷ [])

  posts_parts : posts_refusal s r part room ≡ or_else (refusal (setting_cases s)) after_settings
  unfolding posts_refusal posts_cases
  posts_parts = refusal_append (setting_cases s) _ (settings_numbered s)

  -- "a radius .. under the overhang's own limits and reach rule": 20 stands for the 2 and the 3 of an overhang
  not_over : refusal (reach_cases s.pitch r) ≡ 0 → over ≡ false
  unfolding reach_cases
  not_over e =
      let (a, e₁) = case_out (not (settable s.pitch r)) 1 _ e in
      let (b, e₂) = case_out (ltb most_reach (reach_of s.pitch r).0) 2 _ e₁ in
      rw (a, b)

  radius_fine : over ≡ false → refusal (reach_cases s.pitch r) ≡ 0
  unfolding reach_cases
  radius_fine e = let (a, b) = none_of (not (settable s.pitch r)) _ e in rw (a, b)

  -- a test of the numbers in turn: settings, radius, the length of the part, that of the posts, padding
  pub posts_settings : (refusal (setting_cases s) ≡ 0 → ⊥) → posts_refusal s r part room ≡ refusal (setting_cases s)
  posts_settings n = posts_parts ∙ else_some (refusal (setting_cases s)) after_settings n

  module _ (e : refusal (setting_cases s) ≡ 0) where
    posts_behind : posts_refusal s r part room ≡ after_settings
    posts_behind = posts_parts ∙ else_none (refusal (setting_cases s)) after_settings e

    pub posts_radius : (refusal (reach_cases s.pitch r) ≡ 0 → ⊥) → posts_refusal s r part room ≡ 20
    posts_radius n = posts_behind ∙ split over (λ t. rw t) (λ f. absurd (n (radius_fine f)))

    module _ (f : refusal (reach_cases s.pitch r) ≡ 0) where
      pub posts_part : (length part ≡ stack_bytes s → ⊥) → posts_refusal s r part room ≡ 4
      posts_part n = posts_behind ∙ rw (not_over f, ne_eqb (length part) (stack_bytes s) n)

      pub posts_length : length part ≡ stack_bytes s → (room ≡ stack_bytes s → ⊥) → posts_refusal s r part room ≡ 5
      posts_length p n = posts_behind ∙ rw (not_over f, eq-eqb (length part) (stack_bytes s) p, ne_eqb room (stack_bytes s) n)

      pub posts_rest : length part ≡ stack_bytes s → room ≡ stack_bytes s → posts_refusal s r part room ≡ refusal ((7 when padding_set s.w (rows_of s) part) ∷ [])
      posts_rest p l = posts_behind ∙ rw (not_over f, eq-eqb (length part) (stack_bytes s) p, eq-eqb room (stack_bytes s) l)

  -- nothing is refused exactly where settings and radius are in range, both lengths are right and no padding is set
  pub posts_exactly : (posts_refusal s r part room ≡ 0) ↔ Postable s r part room
  posts_exactly = (
    (λ e.
        let (a, e₁) = else_both (refusal (setting_cases s)) after_settings (sym posts_parts ∙ e) in
        let (o, e₂) = case_out over 19 _ e₁ in
        let (b, e₃) = case_out (not (eqb (length part) (stack_bytes s))) 3 _ e₂ in
        let (d, e₄) = case_out (not (eqb room (stack_bytes s))) 4 _ e₃ in
        let (z, e₅) = case_out (padding_set s.w (rows_of s) part) 6 _ e₄ in
        record { settings = a; radius = radius_fine o; part_long = eqb-true _ _ (not-false _ b); posts_long = eqb-true _ _ (not-false _ d); part_clear = z }),
    (λ v. posts_rest v.settings v.radius v.part_long v.posts_long ∙ rw v.part_clear),
  )

  pub posts_seven : posts_refusal s r part room ≡ 7 → Padded s part
  unfolding setting_cases reach_cases lacks
  posts_seven e =
      let (a, e₁) = else_passes (refusal (setting_cases s)) after_settings 7 (λ z. absurd (never 6 (setting_cases s) refl z)) (sym posts_parts ∙ e) in
      let (o, e₂) = case_passes over 20 _ 7 (λ z. omega arith) e₁ in
      let (b, e₃) = case_passes (not (eqb (length part) (stack_bytes s))) 4 _ 7 (λ z. omega arith) e₂ in
      let (d, e₄) = case_passes (not (eqb room (stack_bytes s))) 5 _ 7 (λ z. omega arith) e₃ in
      record { settings = a; long = eqb-true _ _ (not-false _ b); set = case_told _ 6 e₄ }

  -- 20 is given exactly where the settings are fine and the radius is over 10,000 micrometres or 32 whole pixels
  pub posts_radius_exactly : (posts_refusal s r part room ≡ 20) ↔ ((refusal (setting_cases s) ≡ 0) × ((10000 < r.0) ⊎ (32 < r.0 / s.pitch.0)))
  unfolding setting_cases reach_cases lacks settable reach_of
  posts_radius_exactly = (
    (λ e.
        let (a, e₁) = else_passes (refusal (setting_cases s)) after_settings 20 (λ z. absurd (never 19 (setting_cases s) refl z)) (sym posts_parts ∙ e) in
        let fine : settable s.pitch s.overhang ≡ true = not-false _ (case_out (not (settable s.pitch s.overhang)) 1 _ (case_out (not (sized s)) 0 _ a).1).0 in
        let in_range : within 10 1000 s.pitch.0 ≡ true = and_l (within 10 1000 s.pitch.0) _ fine in (
          a,
          split over
              (λ t. ⊎_elim
              (λ u. inl (leb-false r.0 10000 (rw in_range at (not_out (within 10 1000 s.pitch.0 && leb r.0 10000) u))))
              (λ u. inr (ltb-true most_reach (r.0 / s.pitch.0) u))
              (or_out (not (settable s.pitch r)) _ t))
              (λ f. absurd (never 19 behind_radius refl (rw f at e₁))),
        )),
    (λ (a, u). posts_behind a ∙ rw (⊎_elim
        (λ l. or_l (not (settable s.pitch r)) _ (not_in (settable s.pitch r) (rw (lt-leb r.0 10000 l) (and_false (within 10 1000 s.pitch.0)))))
        (λ l. or_r (not (settable s.pitch r)) _ (lt-ltb most_reach (r.0 / s.pitch.0) l)) u)),
  )
    where
      behind_radius : List Case
      behind_radius = (4 when not (eqb (length part) (stack_bytes s))) ∷ (5 when not (eqb room (stack_bytes s))) ∷ (7 when padding_set s.w (rows_of s) part) ∷ []
