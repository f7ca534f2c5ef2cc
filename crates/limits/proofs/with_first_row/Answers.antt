use mathlib.Core.Path.{refl}
use mathlib.Core.Bool.{true}
use Rattle.laws.specs.Limits.{ranged}
use Rattle.limits.proofs.Lengths.{rows_fit}
use Rattle.limits.proofs.Padding.{row_is}
use Rattle.limits.proofs.with_first_row.Goals as goal

pub padding_row-row-requires : goal.padding_row-row-requires
padding_row-row-requires c = let r = ranged c.args.s c.requires.settings in
    (r.w_low, (r.w_high, rows_fit c.args.s true _ _ _ c.requires.long refl c.rows_of.ensures.0))

pub nonzero_div-result : goal.nonzero_div-result
nonzero_div-result c = (ranged c.args.s c.requires.settings).h_low

pub nonzero_rem-result : goal.nonzero_rem-result
nonzero_rem-result c = (ranged c.args.s c.requires.settings).h_low

pub returns : goal.returns
returns c = row_is c.args.s c.args.stack.now c.args.k _ _ c.rows_of.ensures.0 c.padding_row-row.ensures c.requires.set
