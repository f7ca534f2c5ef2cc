use mathlib.Core.Path.{◌∙◌}
use lib.ListN.{length-set}
use native.Mathlib.Omega.{arith}
use Rattle.rules.specs.Report.{spaced}
use Rattle.lines.specs.Lines.{◌then◌, wrote_byte}
use borrow.Author.Rules.{rules}
use Rattle.lines.proofs.put_spaced.Goals as goal

pub bounds-out-at : goal.bounds-out-at
unfolding spaced
bounds-out-at c = search rules

pub overflow_add-at : goal.overflow_add-at
unfolding spaced
overflow_add-at c = search rules

pub put_decimal-requires : goal.put_decimal-requires
unfolding spaced
put_decimal-requires c = simp length-set (omega arith)

pub shape_of-out : goal.shape_of-out
unfolding spaced
shape_of-out c = c.put_decimal.auto.out ∙ length-set c.args.out.now c.args.at 32

pub returns : goal.returns
unfolding spaced
returns c = wrote_byte c.args.out.now c.args.at 32 (omega (arith, c.requires)) then c.put_decimal.ensures
