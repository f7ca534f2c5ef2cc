use mathlib.Core.Path.{ap}
use mathlib.Core.Bool.{not}
use borrow.Author.Tests.{eqb-true, eq-eqb, not-false}
use Rattle.laws.specs.Tests.{clash}
use Rattle.words.specs.RowLaws.{rows_zero}
use Rattle.words.specs.SingleLaws.{rows_some}
use Rattle.words.proofs.rows.any_words.Goals as goal

pub returns : goal.returns
returns c = record {
  none = λ e. rows_zero _ _ _ _ (eqb-true _ _ (not-false _ e));
  some = λ e. rows_some _ _ _ _ c.ranges.a.fits c.ranges.b.fits c.ranges.c.fits c.ranges.d.fits (λ z. clash e (ap not (eq-eqb _ 0 z)));
}
