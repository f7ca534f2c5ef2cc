use mathlib.Core.Path.{sym, ◌∙◌}
use lib.Seq.{length-take-le}
use Rattle.laws.specs.Limits.{ranged}
use Rattle.lines.specs.Printed.{seventeen_short, refused_printed, plan_fits, text_no_room, text_lines}
use native.Mathlib.Omega.{arith}
use Rattle.lines.proofs.output.job_text.Goals as goal

pub ring_count-count-requires : goal.ring_count-count-requires
ring_count-count-requires c = let r = ranged c.args.s c.requires.0.settings in (r.n_low, (r.n_high, (r.h_high, r.w_high)))

pub refused_line-requires : goal.refused_line-requires
refused_line-requires c = omega (arith, seventeen_short, c.requires.1.text)

pub returns-then-count-gt32768 : goal.returns-then-count-gt32768
returns-then-count-gt32768 c = let args = c.args in
    text_no_room args.s args.part.now c.ring_count-count.result c.refused_line.result c.refused_line.new.out args.out.now c.ring_count-count.ensures c.if-count-gt32768.true
    (refused_printed _ c.refused_line.result c.refused_line.new.out args.out.now seventeen_short c.refused_line.ensures)

pub slice_bounds-planned_lines-end-2 : goal.slice_bounds-planned_lines-end-2
slice_bounds-planned_lines-end-2 c = sym (length-take-le _ c.args.support.now (omega (arith, c.requires.0.fits, c.requires.1.support)))

pub slice_bounds-planned_lines-end-4 : goal.slice_bounds-planned_lines-end-4
slice_bounds-planned_lines-end-4 c = sym (length-take-le _ c.args.rings.now (omega (arith, c.if-count-gt32768.false, c.requires.1.rings)))

pub planned_lines-requires : goal.planned_lines-requires
planned_lines-requires c = let args = c.args in let pre = c.requires in (
  plan_fits args.s args.part.now _ _ pre.0 (length-take-le _ args.support.now (omega (arith, pre.0.fits, pre.1.support)))
      (length-take-le _ args.rings.now (omega (arith, c.if-count-gt32768.false, pre.1.rings)) ∙ c.ring_count-count.ensures),
  (pre.0, pre.1.text),
)

pub returns : goal.returns
returns c = text_lines c.args.s c.args.part.now c.ring_count-count.result c.planned_lines.result c.planned_lines.new.out c.args.out.now c.ring_count-count.ensures
    c.if-count-gt32768.false c.planned_lines.ensures
