-- Laws of the call: what is known where nothing is refused, and what it answers and leaves.
use Rattle.std.specs.Prelude.{◌≡◌, refl, ℕ, ◌*◌, ◌≤◌, length}
use Rattle.std.proofs.Common.{sym, ◌∙◌, arith}
use Rattle.std.proofs.Math.Path.{ap}
use mathlib.Core.List.{List, []}
use Rattle.rules.specs.Calls.{refused, posts_refusal, posts_answer, posts_posts}
use Rattle.rules.specs.Images.{row_bytes, rows_of, stack_bytes}
use Rattle.rules.specs.Outcomes.{Posts}
use Rattle.rules.specs.Posts.{posts_bytes}
use Rattle.rules.specs.Reach.{bound_of, bound_by}
use Rattle.rules.specs.declared.Bound.{Bound}
use Rattle.rules.specs.declared.Micrometres.{Micrometres}
use Rattle.rules.specs.declared.Planned.TheVariants.{Done, Refused}
use Rattle.rules.specs.declared.Refusal.{Refusal}
use Rattle.rules.specs.declared.Settings.{Settings}
use Rattle.laws.specs.Limits.{Settable, settable_out, Ranged, ranged}
use Rattle.laws.specs.Refusals.{says_no, says_yes}
use Rattle.laws.specs.StackTables.{Padded, posts_exactly, posts_seven}
use Rattle.posts.specs.Stacks.{Lent}

-- the rows of a part of the right length are there
pub rows_fit : (s : Settings) (part : List ℕ) (k : ℕ) → length part ≡ stack_bytes s → k ≡ rows_of s → k * row_bytes s.w ≤ length part
unfolding stack_bytes
rows_fit s part k e ek = rw ek (omega (arith, e))

module _ (s : Settings) (r : Micrometres) (part posts : List ℕ) (k : ℕ) (ek : k ≡ posts_refusal s r part (length posts)) where
  -- not refused: what is then known
  module _ (z : k ≡ 0) where
    pub range : Ranged s
    range = ranged s ((posts_exactly s r part (length posts)).0 (sym ek ∙ z)).settings

    pub radius_fine : Settable s.pitch r
    radius_fine = settable_out s.pitch r ((posts_exactly s r part (length posts)).0 (sym ek ∙ z)).radius

    pub lent : Lent s.w s.h s.n part posts
    unfolding stack_bytes rows_of
    lent = let v = (posts_exactly s r part (length posts)).0 (sym ek ∙ z) in record { part_long = v.part_long; clean = v.part_clear; posts_long = v.posts_long }

    -- the posts of the part
    pub posts_done : (q : ℕ) → bound_of s ≡ (λ (i : ℕ). q) → (b : Bound) → b ≡ bound_by s.pitch r → (posts' : List ℕ)
        → posts' ≡ posts_bytes s.w s.h s.n (λ i. q) b.0 part → Posts s r part posts Done posts'
    unfolding posts_answer posts_posts
    posts_done q eq b eb posts' e = record {
      answer = says_yes Done (λ j. Refused (refused s part [] j)) ek z refl;
      posts = says_yes _ (λ j. posts) ek z (rw (eq, ← eb) e);
    }

  -- a number of 7 is that of padding
  pub seven : k ≡ 7 → Padded s part
  seven e = posts_seven s r part (length posts) (sym ek ∙ e)

  -- refused: the lent memory as it was
  pub refuses : (k ≡ 0 → ⊥) → (j : Refusal) → j ≡ refused s part [] k → Posts s r part posts (Refused j) posts
  unfolding posts_answer posts_posts
  refuses ne j ej = record { answer = ap Refused ej ∙ says_no Done (λ i. Refused (refused s part [] i)) ek ne; posts = says_no _ (λ i. posts) ek ne }
