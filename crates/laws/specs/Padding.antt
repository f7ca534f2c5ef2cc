-- The first row whose padding is set, and what a refusal of a table tells: 7 and 8 their first row, and any other number nothing else.
use Rattle.std.proofs.Math.Path.{◌≡◌, refl, ap, subst}
use Rattle.std.proofs.Common.{sym, ◌∙◌, mul-one, mod-lt, zero-mul, zero-add, one-add, arith}
use Rattle.std.specs.Prelude.{◌↔◌, true, false, ℕ, zero, suc, ◌+◌, ◌-◌, ◌*◌, ◌/◌, ◌%◌, ◌^◌, ◌≤◌, ◌<◌, eqb, get_or}
use Rattle.std.proofs.Math.Logic.{⊎_elim}
use mathlib.Core.List.{List, [], ◌∷◌}
use Rattle.std.proofs.Math.Nat.{div-add-mod', zero-mod, mod-one}
use Rattle.std.proofs.lemmas.Nat.{mod-pow-add}
use Rattle.std.proofs.Math.Arith.{digits_lt, digits_div, digits_mod}
use Rattle.std.proofs.Math.ListN.{length}
use borrow.Author.Tests.{eq-eqb, ne_eqb, eqb-true, eqb-false}
use Rattle.rules.specs.Tools.{Found, nothing, found, first, Case, refusal, answer}
use Rattle.rules.specs.Images.{row_bytes, bit_at, rows_of, padded, padding_set, first_padded}
use Rattle.rules.specs.Calls.{says_refusal, says_planned, tell_row, refused}
use Rattle.rules.specs.Demands.{Given, FirstRow, Tells}
use Rattle.rules.specs.declared.Settings.{Settings}
use Rattle.rules.specs.declared.Refusal.{Refusal}
use Rattle.rules.specs.declared.Refusal.TheVariants.{Number}
use Rattle.rules.specs.declared.Planned.TheVariants.{Done, Refused as NotPlanned}
use Rattle.laws.specs.Tests.{split, clash, some_out}
use Rattle.laws.specs.Refusals.{given_exactly}
use Rattle.laws.specs.BytePixels.{low_zero}
use Rattle.laws.specs.Places.{First, none_is, one_is, first_is, first_unique, digits_in, number_of, earlier_less, less_earlier}

-- What padding is ----------------------------------------------------------------------------------------------------------------

-- a number whose low bits are not all 0 has one that is set
low_some : (x p : ℕ) → (x % 2 ^ p ≡ 0 → ⊥) → (d : ℕ) × (d < p) × (x / 2 ^ d % 2 ≡ 1)
low_some x zero n = absurd (n (mod-one x))
low_some x (suc p) n =
    split (eqb (x / 2 ^ p % 2) 1)
    (λ t. (p, omega arith, eqb-true (x / 2 ^ p % 2) 1 t))
    (λ t.
    let z : x / 2 ^ p % 2 ≡ 0 = omega (arith, let l : x / 2 ^ p % 2 < 2 = mod-lt (x / 2 ^ p) (omega arith) in l, eqb-false (x / 2 ^ p % 2) 1 t) in
    let e : x % 2 ^ (1 + p) ≡ x / 2 ^ p % 2 ^ 1 * 2 ^ p + x % 2 ^ p = mod-pow-add x 1 p in
    let f : x % 2 ^ suc p ≡ x % 2 ^ p = ap (λ (k : ℕ). x % 2 ^ k) (sym (one-add p)) ∙ e ∙ rw (z, zero-mul (2 ^ p), zero-add (x % 2 ^ p)) in
    let (d, l, b) = low_some x p (λ y. n (f ∙ y)) in
    (d, omega arith, b))

-- Rule 1.4: a row has padding set exactly where a bit of it is set that stands behind its last column
pub padded_exactly : (w : ℕ) (l : List ℕ) (row : ℕ) → 0 < w →
    (padded w l row ≡ true) ↔ ((c : ℕ) × (w ≤ c) × (c < row_bytes w * 8) × (bit_at (get_or l (row * row_bytes w + c / 8) 0) (c % 8) ≡ true))
unfolding padded row_bytes bit_at
padded_exactly w l row lw = (
  (λ e.
      let (d, ld, b) = low_some x pad (λ z. clash e (rw (eq-eqb (x % 2 ^ pad) 0 z))) in
      let c : ℕ = row_bytes w * 8 - 1 - d in
      let q : c / 8 ≡ row_bytes w - 1 = omega arith in
      let m : 7 - c % 8 ≡ d = omega arith in
      (c, omega arith, omega arith, rw (q, m) (eq-eqb (x / 2 ^ d % 2) 1 b))),
  (λ (c, lc, hc, b).
      let q : c / 8 ≡ row_bytes w - 1 = omega arith in
      let d : ℕ = 7 - c % 8 in
      let f : ℕ = pad - suc d in
      let s : suc f + d ≡ pad = omega arith in
      let b1 : x / 2 ^ d % 2 ≡ 1 = eqb-true (x / 2 ^ d % 2) 1 (rw q at b) in
      split (eqb (x % 2 ^ pad) 0)
      (λ t. absurd (let z : x / 2 ^ d % 2 ≡ 0 = low_zero x d f (rw s (eqb-true (x % 2 ^ pad) 0 t)) in omega arith))
      (λ t. rw t)),
)
  where
    x : ℕ
    x = get_or l (row * row_bytes w + (row_bytes w - 1)) 0

    pad : ℕ
    pad = 8 * row_bytes w - w

-- The first row ---------------------------------------------------------------------------------------------------------------

-- a row as a number is a place of one column
row_number : (h i r : ℕ) → number_of 1 h i r 0 ≡ i * h + r
row_number h i r = rw (mul-one h, mul-one r) (omega arith)

module _ (s : Settings) (l : List ℕ) where
  abbrev w : ℕ
  w = s.w

  abbrev h : ℕ
  h = s.h

  found_row : (x : ℕ) → First 0 (rows_of s) (padded w l) (found x) → FirstRow w h s.n l (x / h) (x % h)
  unfolding rows_of
  found_row x (one_is a b t g) =
      let (li, lr) = digits_in x s.n h (omega arith) in
      let nx : x / h * h + x % h ≡ x = div-add-mod' x h in
      record {
        inside = (li, lr);
        bad = ap (padded w l) nx ∙ t;
        none_earlier = λ j k lj lk e.
            g (j * h + k) (omega arith)
            (let m = earlier_less 1 h j k 0 (x / h) (x % h) 0 lk (omega arith) e in omega (arith, m, row_number h j k, row_number h (x / h) (x % h)));
      }

  row_found : (i r : ℕ) → FirstRow w h s.n l i r → First 0 (rows_of s) (padded w l) (found (i * h + r))
  unfolding rows_of
  row_found i r a =
      let (li, lr) = a.inside in
      let lx : i * h + r < s.n * h = digits_lt li lr in
      one_is {x = i * h + r} (omega arith) (omega arith) a.bad (λ y _ ly.
      let (lj, lk) = digits_in y s.n h (omega arith) in
      let ny : y / h * h + y % h ≡ y = div-add-mod' y h in
      let e = less_earlier 1 h (y / h) (y % h) 0 i r 0 lr (omega arith) (omega (arith, row_number h (y / h) (y % h), row_number h i r)) in
      ap (padded w l) (sym ny) ∙ a.none_earlier (y / h) (y % h) lj lk e)

  -- where some row has padding set there is a first
  pub padding_first : padding_set w (rows_of s) l ≡ true → (i : ℕ) × (r : ℕ) × FirstRow w h s.n l i r
  unfolding padding_set
  padding_first e = go (first 0 (rows_of s) (padded w l)) (first_is 0 (rows_of s) (padded w l))
    where
      go : (f : Found) → First 0 (rows_of s) (padded w l) f → (i : ℕ) × (r : ℕ) × FirstRow w h s.n l i r
      go nothing (none_is g) = let (x, b, t) = some_out (rows_of s) (padded w l) e in clash t (g x (omega arith) (omega arith))
      go (found x) o = (x / h, x % h, found_row x o)

  -- the row that is told is that first one
  pub row_told : (k j i r : ℕ) → (says_refusal (tell_row h k (first_padded s l)) ≡ j ∷ i ∷ r ∷ []) ↔ ((k ≡ j) × FirstRow w h s.n l i r)
  unfolding tell_row first_padded
  row_told k j i r = (
    (λ e. go (first 0 (rows_of s) (padded w l)) (first_is 0 (rows_of s) (padded w l)) e),
    (λ (e, a).
        let lr = a.inside.1 in
        let o = first_unique 0 (rows_of s) (padded w l) (first 0 (rows_of s) (padded w l)) (found (i * h + r)) (first_is 0 (rows_of s) (padded w l)) (row_found i r a) in
        rw (o, e, digits_div i lr, digits_mod i lr)),
  )
    where
      go : (f : Found) → First 0 (rows_of s) (padded w l) f → says_refusal (tell_row h k f) ≡ j ∷ i ∷ r ∷ [] → (k ≡ j) × FirstRow w h s.n l i r
      go nothing o e = absurd (let z : ◌≡◌ {A = ℕ} 1 3 = ap length e in omega arith)
      go (found x) o e =
          let a : k ≡ j = cc in
          let b : x / h ≡ i = cc in
          let c : x % h ≡ r = cc in
          (a, subst (λ (y : ℕ). FirstRow w h s.n l i y) c (subst (λ (y : ℕ). FirstRow w h s.n l y (x % h)) b (found_row x o)))

-- What a refusal says -----------------------------------------------------------------------------------------------------------

number_told : (h k : ℕ) (f : Found) → get_or (says_refusal (tell_row h k f)) 0 0 ≡ k
unfolding tell_row
number_told h k nothing = refl
number_told h k (found x) = refl

module _ (s : Settings) (part sup : List ℕ) where
  -- its number first
  pub refused_number : (k : ℕ) → get_or (says_refusal (refused s part sup k)) 0 0 ≡ k
  unfolding refused
  refused_number k =
      split (eqb k 7) (λ t. rw t (number_told s.h k (first_padded s part))) (λ t.
      split (eqb k 8) (λ u. rw (t, u) (number_told s.h k (first_padded s sup))) (λ u. rw (t, u)))

  -- what says 0 of a stack that is planned, cleaned or given posts has refused nothing
  pub said_none : (k : ℕ) → says_planned (answer k Done (λ j. NotPlanned (refused s part sup j))) ≡ 0 ∷ [] → k ≡ 0
  said_none zero e = refl
  said_none (suc k) e = sym (refused_number (suc k)) ∙ ap (λ (l : List ℕ). get_or l 0 0) e

  -- 7 with the part's row, 8 with the support's, and no other with that of the support
  pub refused_seven : (k : ℕ) → k ≡ 7 → refused s part sup k ≡ tell_row s.h k (first_padded s part)
  unfolding refused
  refused_seven k e = rw e

  pub refused_eight : (k : ℕ) → k ≡ 8 → refused s part sup k ≡ tell_row s.h k (first_padded s sup)
  unfolding refused
  refused_eight k e = rw e

  pub refused_by_part : (k : ℕ) → (k ≡ 8 → ⊥) → refused s part sup k ≡ refused s part [] k
  unfolding refused
  refused_by_part k n = rw (ne_eqb k 8 n)

  -- and nothing else where it is neither 7 nor 8
  pub refused_alone : (k : ℕ) → (k ≡ 7 → ⊥) → (k ≡ 8 → ⊥) → refused s part sup k ≡ Number k
  unfolding refused
  refused_alone k a b = rw (ne_eqb k 7 a, ne_eqb k 8 b)

-- without support, no number but 7 tells a place: memory that is empty has no padding
pub refused_by_number : (s : Settings) (part : List ℕ) (k : ℕ) → (k ≡ 7 → ⊥) → refused s part [] k ≡ Number k
unfolding refused first_padded tell_row padded
refused_by_number s part k n = rw (ne_eqb k 7 n) (split (eqb k 8) (λ t. rw (t, none) refl) (λ t. rw t))
  where
    clear : (x : ℕ) → padded s.w [] x ≡ false
    clear x = rw (zero-mod (2 ^ (8 * row_bytes s.w - s.w)))

    none : first 0 (rows_of s) (padded s.w []) ≡ nothing
    none = first_unique 0 (rows_of s) (padded s.w []) (first 0 (rows_of s) (padded s.w [])) nothing (first_is 0 (rows_of s) (padded s.w [])) (none_is (λ x a b. clear x))

-- A call that answers by a table: it says what the refusal says where the table refuses, and else what `fine` says
module _ {A : Type 0} (says : A → List ℕ) (fine : A) (no : Refusal → A) (r : (j : Refusal) → says (no j) ≡ says_refusal j) (cs : List Case) (s : Settings) (part sup : List ℕ) where
  abbrev said : ℕ → List ℕ
  said x = says (answer x fine (λ k. no (refused s part sup k)))

  -- a number that is not said where nothing is refused is that of the table
  pub number_exactly : (k : ℕ) → (get_or (says fine) 0 0 ≡ suc k → ⊥) → (get_or (said (refusal cs)) 0 0 ≡ suc k) ↔ Given (suc k) cs
  number_exactly k n = (
    (λ e. (given_exactly cs k).0 (go (refusal cs) e)),
    (λ g.
        let z : refusal cs ≡ suc k = (given_exactly cs k).1 g in
        ap (λ (x : ℕ). get_or (said x) 0 0) z ∙ ap (λ (l : List ℕ). get_or l 0 0) (r (refused s part sup (suc k))) ∙ refused_number s part sup (suc k)),
  )
    where
      go : (x : ℕ) → get_or (said x) 0 0 ≡ suc k → x ≡ suc k
      go zero e = absurd (n e)
      go (suc x) e = sym (refused_number s part sup (suc x)) ∙ sym (ap (λ (l : List ℕ). get_or l 0 0) (r (refused s part sup (suc x)))) ∙ e

  refused_says : (k : ℕ) → Given (suc k) cs → said (refusal cs) ≡ says_refusal (refused s part sup (suc k))
  refused_says k g = ap said ((given_exactly cs k).1 g) ∙ r (refused s part sup (suc k))

  -- nothing but the number is said where it is neither 7 nor 8
  alone : (k : ℕ) → Given (suc k) cs → (suc k ≡ 7 → ⊥) → (suc k ≡ 8 → ⊥) → said (refusal cs) ≡ suc k ∷ []
  alone k g a b = refused_says k g ∙ ap says_refusal (refused_alone s part sup (suc k) a b)

  -- a number that tells the first row of a stack says it
  row_exactly : (k : ℕ) (l : List ℕ) → (get_or (says fine) 0 0 ≡ suc k → ⊥) → refused s part sup (suc k) ≡ tell_row s.h (suc k) (first_padded s l) →
      (i j : ℕ) → (said (refusal cs) ≡ suc k ∷ i ∷ j ∷ []) ↔ (Given (suc k) cs × FirstRow s.w s.h s.n l i j)
  row_exactly k l n z i j = (
    (λ e.
        let g = (number_exactly k n).0 (ap (λ (x : List ℕ). get_or x 0 0) e) in
        (g, ((row_told s l (suc k) (suc k) i j).0 (sym (refused_says k g ∙ ap says_refusal z) ∙ e)).1)),
    (λ (g, a). refused_says k g ∙ ap says_refusal z ∙ (row_told s l (suc k) (suc k) i j).1 (refl, a)),
  )

  -- "its number, its place where the table says so, and nothing else": 7 says the first row of the part whose padding is set, and 8 that of the support
  pub tells : (get_or (says fine) 0 0 ≡ 7 → ⊥) → (get_or (says fine) 0 0 ≡ 8 → ⊥) →
      (refusal cs ≡ 7 → padding_set s.w (rows_of s) part ≡ true) → (refusal cs ≡ 8 → padding_set s.w (rows_of s) sup ≡ true) → Tells (said (refusal cs)) cs s part sup
  unfolding refused
  tells n7 n8 p7 p8 =
      let seven = row_exactly 6 part n7 refl in
      let eight = row_exactly 7 sup n8 refl in
      record {
        alone = alone;
        part_row = seven;
        support_row = eight;
        with_row = ⊎_elim
            (λ g. let (i, j, a) = padding_first s part (p7 ((given_exactly cs 6).1 g)) in ap length ((seven i j).1 (g, a)))
            (λ g. let (i, j, a) = padding_first s sup (p8 ((given_exactly cs 7).1 g)) in ap length ((eight i j).1 (g, a)));
      }
