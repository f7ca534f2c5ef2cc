use Rattle.sweeps.specs.MarkLaws.{cleared, cleared_less}
use Rattle.sweeps.proofs.marks.clear_bit.Goals as goal

pub returns : goal.returns
returns c = let pre = c.requires in record {
  cleared = cleared _ _ _ _ pre.0 (c.slice_known-1.given _).fits pre.1 c.bit.ensures;
  falls = cleared_less _ _ _ _ pre.0 (c.slice_known-1.given _).fits pre.1
      c.bit.ensures;
}
