-- Roots and discs: the floor-root rule, and what a half-width says of distances.
use Rattle.std.specs.Prelude.{◌≡◌, refl, Bool, true, List, ◌++◌, ℕ, zero, suc, ◌+◌, ◌-◌, ◌*◌, ◌≤◌, ◌<◌, leb, ltb, length, get_or, set, replicate}
use Rattle.std.proofs.Common.{sym, subst, ◌∙◌, mul-le-mul, suc-mul, mul-suc, arith, length-set, get_or-set_same, get_or-set_other, get_or-append-add, leb-true, leb-false, le-leb, ltb-true, ltb-false}
use Rattle.std.proofs.lemmas.List.{length-replicate, get_or-replicate}
use Rattle.std.proofs.Math.ListN.{get_or-append}
use Rattle.std.proofs.Math.Decide.{dec_le, ℕ_discrete}
use Rattle.rules.specs.Tools.{largest, joined_up}
use Rattle.rules.specs.Reach.{square, root, half_width, most_reach, most_bound, most_rows}
use Rattle.laws.specs.Tests.{split, clash}

-- The floor-root rule -------------------------------------------------------------------------------------------------

largest_passes : (n : ℕ) (f : ℕ → Bool) → f 0 ≡ true → f (largest n f) ≡ true
unfolding largest
largest_passes zero f z = z
largest_passes (suc n) f z = split (f (suc n)) (λ t. rw t t) (λ t. rw t (largest_passes n f z))

largest_most : (n : ℕ) (f : ℕ → Bool) (x : ℕ) → x ≤ n → f x ≡ true → x ≤ largest n f
unfolding largest
largest_most zero f x h e = h
largest_most (suc n) f x h e =
    split (f (suc n)) (λ t. rw t h)
    (λ t. split (leb x n) (λ l. rw t (largest_most n f x (leb-true x n l) e))
    (λ l. let z : x ≡ suc n = omega (arith, leb-false x n l) in clash (rw z at e) t))

pub square_mono : (a b : ℕ) → a ≤ b → square a ≤ square b
unfolding square
square_mono a b l = mul-le-mul l l

pub square_grows : (a : ℕ) → a ≤ square a
unfolding square
square_grows zero = omega arith
square_grows (suc a) =
    let p : 1 * suc a ≤ suc a * suc a = mul-le-mul (omega arith) (omega arith) in
    omega arith

square_none : (m : ℕ) → square 0 ≤ m
unfolding square
square_none m = omega arith

pub root_low : (m : ℕ) → square (root m) ≤ m
unfolding root
root_low m = leb-true _ _ (largest_passes m (λ r. leb (square r) m) (le-leb (square 0) m (square_none m)))

pub root_most : (m r : ℕ) → square r ≤ m → r ≤ root m
unfolding root
root_most m r h = largest_most m (λ r. leb (square r) m) r (omega (arith, square_grows r)) (le-leb _ _ h)

pub root_high : (m : ℕ) → m < square (suc (root m))
root_high m =
    split (leb (square (suc (root m))) m)
    (λ t. absurd (omega (arith, root_most m (suc (root m)) (leb-true _ _ t))))
    (λ t. leb-false _ _ t)

pub root_is : (m r : ℕ) → square r ≤ m → m < square (suc r) → r ≡ root m
root_is m r low high =
    split (leb (suc r) (root m))
    (λ t. absurd (omega (arith, square_mono (suc r) (root m) (leb-true _ _ t), root_low m)))
    (λ t. omega (arith, leb-false (suc r) (root m) t, root_most m r low))

pub root_small : (m : ℕ) → m ≤ most_bound → root m ≤ most_reach
unfolding square
root_small m h =
    split (leb 33 (root m))
    (λ t. absurd (omega (arith, square_mono 33 (root m) (leb-true _ _ t), root_low m)))
    (λ t. omega (arith, leb-false 33 (root m) t))

-- Half-widths -----------------------------------------------------------------------------------------------------------

-- the columns within `side` of the middle, and no others, are at squared distance at most q, in a row d away
pub record HalfWidth (q d side : ℕ) : Type 0 where
  pub inside : (e : ℕ) → e ≤ side → d * d + e * e ≤ q
  pub outside : (e : ℕ) → side < e → q < d * d + e * e

pub half_width_lem : (q d : ℕ) → d * d ≤ q → HalfWidth q d (half_width q d)
unfolding half_width square
half_width_lem q d h = record {
  inside = λ e l. omega (arith, square_mono e (root (q - d * d)) l, root_low (q - d * d));
  outside = λ e l. omega (arith, square_mono (suc (root (q - d * d))) e l, root_high (q - d * d));
}

pub half_small : (q d : ℕ) → q ≤ most_bound → half_width q d ≤ most_reach
unfolding half_width
half_small q d m = root_small (q - square d) (omega arith)

-- the half-widths of a disc, from the middle row on
pub record Halves (q : ℕ) (l : List ℕ) : Type 0 where
  pub long : length l ≡ most_rows
  pub half : (d : ℕ) → d * d ≤ q → HalfWidth q d (get_or l d 0)
  pub last : get_or l 0 0 ≤ most_reach

-- filled in up to row d
pub record HalvesTo (q d : ℕ) (l : List ℕ) : Type 0 where
  pub long : length l ≡ most_rows
  pub half : (e : ℕ) → e < d → e * e ≤ q → get_or l e 0 ≡ half_width q e

pub halves_none : (q : ℕ) (l : List ℕ) → length l ≡ most_rows → HalvesTo q 0 l
halves_none q l e = record { long = e; half = λ d x. absurd (omega arith) }

pub halves_more : (q d v : ℕ) (l : List ℕ) → d < most_rows → v ≡ half_width q d → HalvesTo q d l → HalvesTo q (d + 1) (set l d v)
halves_more q d v l ld is H = record {
  long = length-set l d v ∙ H.long;
  half = λ e x y. elim (ℕ_discrete e d) [
    | yes z ↦ subst (λ (n : ℕ). get_or (set l d v) n 0 ≡ half_width q n) (sym z) (get_or-set_same l d v 0 (omega (arith, H.long)) ∙ is)
    | no z ↦ get_or-set_other l d e v 0 z ∙ H.half e (omega arith) y
  ];
}

pub halves_all : (q d : ℕ) (l : List ℕ) → q ≤ most_bound → q < d * d → 0 < d → HalvesTo q d l → Halves q l
halves_all q d l m h p H = record {
  long = H.long;
  half = λ e y. subst (HalfWidth q e) (sym (H.half e (below e y) y)) (half_width_lem q e y);
  last = rw (H.half 0 p (omega arith)) (half_small q 0 m);
}
  where
    below : (e : ℕ) → e * e ≤ q → e < d
    below e y = elim (dec_le d e) [ yes a ↦ absurd (omega (arith, mul-le-mul a a)) | no a ↦ omega arith ]

pub square_small : (q d : ℕ) → q ≤ most_bound → d * d ≤ q → d < most_rows
square_small q d h e = elim (dec_le most_rows d) [ yes a ↦ absurd (omega (arith, mul-le-mul a a)) | no a ↦ omega arith ]

pub some_row : (q d : ℕ) → q < d * d → 0 < d
some_row q zero h = absurd (omega arith)
some_row q (suc d) h = omega arith

-- The roots in order are runs: 0 once, 1 three times, r as often as 2 * r + 1 -------------------------------------------------------

abbrev pub root_run : ℕ → List ℕ
root_run r = replicate (2 * r + 1) r

pub root_runs : (n a m k : ℕ) → m ≡ a * a + k → m < (a + n) * (a + n) → get_or (joined_up a n root_run) k 0 ≡ root m
unfolding joined_up square
root_runs zero a m k e h = let z : a + 0 ≡ a = omega arith in absurd (omega (arith, rw z at h))
root_runs (suc n) a m k e h =
    let len : length (root_run a) ≡ 2 * a + 1 = length-replicate (2 * a + 1) a in
    split (ltb k (2 * a + 1))
    (λ t.
    let l : k < 2 * a + 1 = ltb-true k (2 * a + 1) t in
    get_or-append (root_run a) (joined_up (suc a) n root_run) 0 k (omega arith)
    ∙ get_or-replicate (2 * a + 1) k a 0 l
    ∙ root_is m a (omega arith) (omega (arith, one_more a)))
    (λ t.
    let l : 2 * a + 1 ≤ k = ltb-false k (2 * a + 1) t in
    let z : length (root_run a) + (k - (2 * a + 1)) ≡ k = omega arith in
    let y : a + suc n ≡ suc a + n = omega arith in
    subst (λ (x : ℕ). get_or (root_run a ++ joined_up (suc a) n root_run) x 0 ≡ root m) z
    (get_or-append-add (root_run a) (joined_up (suc a) n root_run) (k - (2 * a + 1)) 0
    ∙ root_runs n (suc a) m (k - (2 * a + 1)) (omega (arith, one_more a)) (rw y at h)))
  where
    one_more : (a : ℕ) → suc a * suc a ≡ a * a + (2 * a + 1)
    one_more a = omega (arith, suc-mul a (suc a), mul-suc a a)

-- the table of the roots of 0 to 1,088: 33 runs
abbrev pub root_table : List ℕ
root_table = joined_up 0 33 root_run

pub table_rule : (m : ℕ) → m ≤ most_bound → get_or root_table m 0 ≡ root m
table_rule m h = root_runs 33 0 m m (omega arith) (omega arith)

-- a list that is the table
pub record Roots (l : List ℕ) : Type 0 where
  pub long : length l ≡ suc most_bound
  pub roots : (m : ℕ) → m ≤ most_bound → get_or l m 0 ≡ root m

pub table_roots : Roots root_table
unfolding joined_up
table_roots = record { long = refl; roots = table_rule }
