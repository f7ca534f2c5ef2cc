use Rattle.laws.specs.ReportLaws.{decimal_length}
use Rattle.lines.specs.Lines.{spaced_length}
use Rattle.lines.specs.Whole.{in_range, part_layer, support_layer, pair_rings_lem, counted_from}
use native.Mathlib.Omega.{arith}
use Rattle.lines.proofs.counted_line.Goals as goal

pub filled-a-requires : goal.filled-a-requires
filled-a-requires c = part_layer c.requires.0 c.requires.1.0

pub filled-b-requires : goal.filled-b-requires
filled-b-requires c = support_layer c.requires.0 c.requires.1.0

pub excused_above-c-requires : goal.excused_above-c-requires
excused_above-c-requires c = (c.requires.1.0, pair_rings_lem c.requires.0 c.args.i)

pub layer_line-requires : goal.layer_line-requires
layer_line-requires c = let hn = (in_range c.requires.0).n_high in
    omega (
      arith,
      decimal_length c.args.i (omega arith),
      spaced_length c.filled-a.result (omega arith),
      spaced_length c.filled-b.result (omega arith),
      spaced_length c.excused_above-c.result (omega arith),
    )

pub returns : goal.returns
returns c = let hn = (in_range c.requires.0).n_high in
    counted_from _ _ _ (omega arith) c.filled-a.ensures c.filled-b.ensures c.excused_above-c.ensures c.layer_line.ensures
