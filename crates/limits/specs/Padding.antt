-- The first row whose padding is set.
use Rattle.std.specs.Prelude.{◌≡◌, true, false, List, ℕ, suc, ◌≤◌, ◌<◌, eqb, leb}
use Rattle.std.proofs.Common.{subst, arith}
use borrow.Author.Tests.{eqb-true, eqb-false, leb-true, leb-false}
use Rattle.rules.specs.Tools.{found, first}
use Rattle.rules.specs.Images.{padded, padding_set}
use Rattle.laws.specs.Tests.{split, clash, some_in, some_out}
use Rattle.laws.specs.Places.{one_is, first_is, first_unique}

-- no row before r has padding set, and r has where it is one of the k rows
pub record PaddingRow (w k : ℕ) (s : List ℕ) (r : ℕ) : Type 0 where
  pub most : r ≤ k
  pub before : padding_set w r s ≡ false
  pub there : r < k → padding_set w (suc r) s ≡ true

-- so it tells whether any has
module _ (w k : ℕ) (s : List ℕ) (r : ℕ) (v : PaddingRow w k s r) where
  pub row_some : r < k → padding_set w k s ≡ true
  unfolding padding_set
  row_some l =
      let (x, b, e) = some_out (suc r) (padded w s) (v.there l) in
      some_in k (padded w s) x (omega arith) e

  pub row_none : k ≤ r → padding_set w k s ≡ false
  row_none l = subst (λ (x : ℕ). padding_set w x s ≡ false) (omega (arith, v.most)) v.before

  none_before : (y : ℕ) → y < r → padded w s y ≡ false
  unfolding padding_set
  none_before y l = split (padded w s y) (λ t. clash (some_in r (padded w s) y l t) v.before) (λ t. t)

  set_here : r < k → padded w s r ≡ true
  unfolding padding_set
  set_here l =
      let (x, b, e) = some_out (suc r) (padded w s) (v.there l) in
      split (eqb x r) (λ t. rw (← eqb-true x r t) e) (λ t. clash e (none_before x (omega (arith, eqb-false x r t))))

  -- and it is the first, where one has
  pub row_first : padding_set w k s ≡ true → first 0 k (padded w s) ≡ found r
  row_first e =
      split (leb k r)
      (λ t. clash e (row_none (leb-true k r t)))
      (λ t.
      let l : r < k = omega (arith, leb-false k r t) in
      first_unique 0 k (padded w s) (first 0 k (padded w s)) (found r) (first_is 0 k (padded w s)) (one_is {x = r} (omega arith) (omega arith) (set_here l) (λ y a b. none_before y b)))
