-- The lines of the report as runs of bytes, one piece after another; the first line and that of a layer from their four numbers.
use Rattle.std.specs.Prelude.{◌≡◌, ℕ, ◌+◌, ◌<◌, ◌≤◌, length, set}
use Rattle.std.proofs.Common.{sym, subst, ◌∙◌, arith}
use Rattle.std.proofs.Math.Path.{ap}
use mathlib.Core.List.{List, [], ◌∷◌, ◌++◌, append-nil, append_assoc}
use Rattle.std.proofs.Math.ListN.{length-append}
use Rattle.rules.specs.Jobs.{over}
use Rattle.rules.specs.Reach.{reach_of}
use Rattle.rules.specs.Report.{decimal, spaced, newline, all_spaced, refused_line, job_line}
use Rattle.rules.specs.Calls.{says_refusal}
use Rattle.rules.specs.declared.Settings.{Settings}
use Rattle.rules.specs.declared.Place.{Place}
use Rattle.rules.specs.declared.RowPlace.{RowPlace}
use Rattle.rules.specs.declared.Refusal.{Refusal}
use Rattle.rules.specs.declared.Refusal.TheVariants.{Number, InRow, AtPixel}
use Rattle.rules.specs.declared.Pixels.{Pixels}
use Rattle.laws.specs.Runs.{stores1, length_over, after}
use Rattle.laws.specs.ReportLaws.{decimal_length}

-- layer, part pixels, support pixels, excused pixels
unfoldable pub line_of : ℕ → ℕ → ℕ → ℕ → List ℕ
line_of i a b c = decimal i ++ spaced a ++ spaced b ++ spaced c ++ newline

-- l is `out` with the text xs from `at` on, which ends at r
pub record Wrote (out : List ℕ) (at : ℕ) (l : List ℕ) (r : ℕ) (xs : List ℕ) : Type 0 where
  pub ends : r ≡ at + length xs
  pub holds : l ≡ over out at xs
  pub fits : at + length xs ≤ length out

infixl 20 ◌then◌
module _ {out : List ℕ} {at : ℕ} {l : List ℕ} {r : ℕ} {xs : List ℕ} (w : Wrote out at l r xs) where
  pub wrote_long : length l ≡ length out
  wrote_long = ap length w.holds ∙ length_over out at xs w.fits

  -- the next piece, written where this one ends: its own room is all the room that is asked
  pub ◌then◌ : {m : List ℕ} {k : ℕ} {ys : List ℕ} → Wrote l r m k ys → Wrote out at m k (xs ++ ys)
  ◌then◌ {m} {k} {ys} v =
      let z = length-append xs ys in
      record {
        ends = omega (arith, w.ends, v.ends);
        holds = after out l m xs ys at r w.holds (sym w.ends) (omega (arith, w.ends, w.fits)) v.holds;
        fits = omega (arith, w.ends, v.fits, wrote_long);
      }

pub wrote_byte : (out : List ℕ) (at b : ℕ) → at + 1 ≤ length out → Wrote out at (set out at b) (at + 1) (b ∷ [])
wrote_byte out at b h = record { ends = omega arith; holds = stores1 out at b h; fits = h }

-- a text at the front of a buffer, by its other name
pub wrote_front : {out l : List ℕ} {r : ℕ} {xs ys : List ℕ} → Wrote out 0 l r xs → xs ≡ ys → (r ≡ length ys) × (l ≡ over out 0 ys)
wrote_front {out} {l} {r} w e = let v = subst (Wrote out 0 l r) e w in (omega (arith, v.ends), v.holds)

pub spaced_length : (x : ℕ) → x < 100000 → length (spaced x) ≤ 6
unfolding spaced
spaced_length x h = omega (arith, decimal_length x h)

pub line_length : (i a b c : ℕ) → i < 100000 → a < 100000 → b < 100000 → c < 100000 → length (line_of i a b c) ≤ 24
unfolding line_of
line_length i a b c hi ha hb hc =
    simp length-append (omega (arith, decimal_length i hi, spaced_length a ha, spaced_length b hb, spaced_length c hc))

abbrev job_word : List ℕ
job_word = 106 ∷ 111 ∷ 98 ∷ []

abbrev reach_word : List ℕ
reach_word = 32 ∷ 114 ∷ 101 ∷ 97 ∷ 99 ∷ 104 ∷ []

-- the first line from its four numbers
unfoldable pub job_of : ℕ → ℕ → ℕ → ℕ → List ℕ
job_of w h n x = job_word ++ spaced w ++ spaced h ++ spaced n ++ reach_word ++ spaced x ++ newline

module _ (s : Settings) (p : Pixels) (e : p ≡ reach_of s.pitch s.overhang) where
  pub job_is : job_of s.w s.h s.n p.0 ≡ job_line s
  unfolding job_of job_line
  job_is =
      rw e
      (ap (λ (l : List ℕ). l ++ newline) (append_assoc (job_word ++ spaced s.w ++ spaced s.h ++ spaced s.n) reach_word (spaced (reach_of s.pitch s.overhang).0)))

  pub job_long : length (job_line s) ≡ 10 + length (spaced s.w) + length (spaced s.h) + length (spaced s.n) + length (spaced p.0)
  unfolding job_of
  job_long = rw (← job_is) (simp length-append (omega arith))

pub refused_long : (said : List ℕ) → length (refused_line said) ≡ 8 + length (all_spaced said)
unfolding refused_line
refused_long said = simp length-append (omega arith)

pub two_end : {out : List ℕ} {at : ℕ} {l : List ℕ} {r : ℕ} (x y : ℕ) → Wrote out at l r (spaced x ++ spaced y) → r ≡ at + (length (spaced x) + length (spaced y))
two_end x y w = omega (arith, w.ends, length-append (spaced x) (spaced y))

-- What a refusal says, one piece after another, and the room that it asks; j is its number as the code has it
module _ (v : Refusal) (k j : ℕ) (w : j ≡ k) where
  pub number_room : v ≡ Number k → length (all_spaced (says_refusal v)) ≡ length (spaced j)
  unfolding all_spaced
  number_room e = rw (e, w, append-nil (spaced k))

  pub row_room : (at : RowPlace) → v ≡ InRow k at → length (all_spaced (says_refusal v)) ≡ length (spaced j) + (length (spaced at.layer) + length (spaced at.row))
  unfolding all_spaced
  row_room at e = rw (e, w) (simp length-append (omega arith))

  pub pixel_room : (at : Place) → v ≡ AtPixel k at →
      length (all_spaced (says_refusal v)) ≡ length (spaced j) + (length (spaced at.layer) + length (spaced at.row)) + length (spaced at.column)
  unfolding all_spaced
  pixel_room at e = rw (e, w) (simp length-append (omega arith))

  module _ {out : List ℕ} {at : ℕ} {l : List ℕ} {r : ℕ} where
    pub number_said : v ≡ Number k → Wrote out at l r (spaced j) → Wrote out at l r (all_spaced (says_refusal v))
    unfolding all_spaced
    number_said e x = rw e (subst (Wrote out at l r) (rw (w, append-nil (spaced k))) x)

    pub row_said : (p : RowPlace) → v ≡ InRow k p → Wrote out at l r (spaced j ++ (spaced p.layer ++ spaced p.row)) → Wrote out at l r (all_spaced (says_refusal v))
    unfolding all_spaced
    row_said p e x = rw e (subst (Wrote out at l r) (rw (w, append-nil (spaced p.row))) x)

    pub pixel_said : (p : Place) → v ≡ AtPixel k p → Wrote out at l r (spaced j ++ (spaced p.layer ++ spaced p.row) ++ spaced p.column) → Wrote out at l r (all_spaced (says_refusal v))
    unfolding all_spaced
    pixel_said p e x =
        let a : (spaced k ++ (spaced p.layer ++ spaced p.row)) ++ spaced p.column ≡ spaced k ++ (spaced p.layer ++ (spaced p.row ++ spaced p.column)) =
        append_assoc (spaced k) (spaced p.layer ++ spaced p.row) (spaced p.column)
        ∙ ap (λ (y : List ℕ). spaced k ++ y) (append_assoc (spaced p.layer) (spaced p.row) (spaced p.column)) in
        rw e (subst (Wrote out at l r) (rw (w, append-nil (spaced p.column)) a) x)
