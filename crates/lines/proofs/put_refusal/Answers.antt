use native.Mathlib.Omega.{arith}
use Rattle.lines.specs.Lines.{◌then◌, wrote_long, two_end, number_room, row_room, pixel_room, number_said, row_said, pixel_said}
use Rattle.lines.proofs.put_refusal.Goals as goal

pub put_spaced-requires : goal.put_spaced-requires
put_spaced-requires c = omega (arith, c.requires, number_room _ _ _ c.wide.ensures.0 c.in-Number.is)

pub put_spaced-number-requires : goal.put_spaced-number-requires
put_spaced-number-requires c = omega (arith, c.requires, row_room _ _ _ c.wide-in-InRow.ensures.0 _ c.in-InRow.is)

pub put_two-requires : goal.put_two-requires
put_two-requires c = let w = c.put_spaced-number.ensures in
    omega (arith, c.requires, w.ends, wrote_long w, row_room _ _ _ c.wide-in-InRow.ensures.0 _ c.in-InRow.is)

pub put_spaced-number-requires-in-AtPixel : goal.put_spaced-number-requires-in-AtPixel
put_spaced-number-requires-in-AtPixel c = omega (arith, c.requires, pixel_room _ _ _ c.wide-in-AtPixel.ensures.0 _ c.in-AtPixel.is)

pub put_two-row-requires : goal.put_two-row-requires
put_two-row-requires c = let w = c.put_spaced-number-in-AtPixel.ensures in
    omega (arith, c.requires, w.ends, wrote_long w, pixel_room _ _ _ c.wide-in-AtPixel.ensures.0 _ c.in-AtPixel.is)

pub put_spaced-requires-in-AtPixel : goal.put_spaced-requires-in-AtPixel
put_spaced-requires-in-AtPixel c = let w = c.put_spaced-number-in-AtPixel.ensures in
    let u = c.put_two-row.ensures in
    omega (arith, c.requires, w.ends, wrote_long w, two_end _ _ u, wrote_long u, pixel_room _ _ _ c.wide-in-AtPixel.ensures.0 _ c.in-AtPixel.is)

pub returns-in-Number : goal.returns-in-Number
returns-in-Number c = number_said _ _ _ c.wide.ensures.0 c.in-Number.is c.put_spaced.ensures

pub returns-in-InRow : goal.returns-in-InRow
returns-in-InRow c = row_said _ _ _ c.wide-in-InRow.ensures.0 _ c.in-InRow.is (c.put_spaced-number.ensures then c.put_two.ensures)

pub returns-in-AtPixel : goal.returns-in-AtPixel
returns-in-AtPixel c = pixel_said _ _ _ c.wide-in-AtPixel.ensures.0 _ c.in-AtPixel.is (c.put_spaced-number-in-AtPixel.ensures then c.put_two-row.ensures then c.put_spaced-in-AtPixel.ensures)
