-- Runs of bytes in a buffer: single stores as a run, and one run after another.
use Rattle.std.specs.Prelude.{◌≡◌, set}
use Rattle.std.proofs.Math.Path.{sym, ap}
use Rattle.std.proofs.Common.{◌∙◌, add-zero, add-suc, add-one, arith, take-append-drop, take_at, drop_at}
use mathlib.Core.List.{List, [], ◌∷◌, ◌++◌, append_assoc, append-nil}
use Prim.Native.Nat.{ℕ, suc, ◌+◌, ◌≤◌}
use Rattle.std.proofs.Math.ListN.{length, take, drop, length-append, length-drop}
use Rattle.std.proofs.lemmas.List.Edits.{sets-eq}
use Rattle.std.proofs.Math.Seq.{length-take-le, drop-drop}
use Rattle.rules.specs.Jobs.{over}

-- stores at `at`, `at` + 1, .. are a run
pub stores1 : (d : List ℕ) (at a : ℕ) → at + 1 ≤ length d → set d at a ≡ over d at (a ∷ [])
unfolding over
stores1 d at a h = sets-eq (a ∷ []) d at h

pub stores2 : (d : List ℕ) (at a b : ℕ) → at + 2 ≤ length d → set (set d at a) (at + 1) b ≡ over d at (a ∷ b ∷ [])
unfolding over
stores2 d at a b h = rw add-one (sets-eq (a ∷ b ∷ []) d at h)

pub stores4 : (d : List ℕ) (at a b c e : ℕ) → at + 4 ≤ length d →
    set (set (set (set d at a) (at + 1) b) (at + 2) c) (at + 3) e ≡ over d at (a ∷ b ∷ c ∷ e ∷ [])
unfolding over
stores4 d at a b c e h =
    let h1 : at + 1 ≡ suc at = add-one at in
    let h2 : at + 2 ≡ suc (suc at) = add-suc at 1 ∙ ap suc h1 in
    let h3 : at + 3 ≡ suc (suc (suc at)) = add-suc at 2 ∙ ap suc h2 in
    rw (h1, h2, h3) (sets-eq (a ∷ b ∷ c ∷ e ∷ []) d at h)

module _ (d : List ℕ) (at : ℕ) (xs : List ℕ) (fits : at + length xs ≤ length d) where
  head_length : length (take at d ++ xs) ≡ at + length xs
  head_length = simp (length-append, length-take-le at d (omega arith))

  pub length_over : length (over d at xs) ≡ length d
  unfolding over
  length_over = simp (length-append, length-drop, length-take-le at d (omega arith)) (omega arith)

  -- one run after another is one run
  over_over : (ys : List ℕ) → over (over d at xs) (at + length xs) ys ≡ over d at (xs ++ ys)
  unfolding over
  over_over ys =
      let p : List ℕ = take at d ++ xs in
      let q : List ℕ = drop (at + length xs) d in
      let k : at + length xs + length ys ≡ at + length (xs ++ ys) = simp length-append (omega arith) in
      let e : drop (at + length xs + length ys) (p ++ q) ≡ drop (at + length (xs ++ ys)) d =
      sym (drop-drop (length ys) (at + length xs) (p ++ q))
      ∙ ap (drop (length ys)) (drop_at p q (at + length xs) head_length)
      ∙ drop-drop (length ys) (at + length xs) d
      ∙ ap (λ (n : ℕ). drop n d) k in
      rw (take_at p q (at + length xs) head_length, e) (simp append_assoc)

-- a run that is written where another ends
pub after : (d l m xs ys : List ℕ) (at n : ℕ) → l ≡ over d at xs → at + length xs ≡ n → n ≤ length d → m ≡ over l n ys → m ≡ over d at (xs ++ ys)
after d l m xs ys at n e h k g =
    g ∙ ap (λ (z : List ℕ). over z n ys) e ∙ ap (λ (z : ℕ). over (over d at xs) z ys) (sym h) ∙ over_over d at xs (omega arith) ys

pub over_none : (d : List ℕ) (at : ℕ) → d ≡ over d at []
unfolding over
over_none d at = rw (add-zero, append-nil, take-append-drop)
