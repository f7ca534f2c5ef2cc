use Rattle.std.proofs.Common.{◌≡◌, true, ◌&&◌, refl, sym, ◌∙◌, arith}
use Rattle.laws.specs.Tests.{clash}
use Rattle.quick.specs.Stacks.{pair_bytes, pair_clean, pair_count, fine_more}
use Rattle.quick.proofs.stack.pairs.Goals as goal
use Rattle.quick.proofs.stack.pairs.Goals.{then-s, else-s}

pub slice_bounds-pair-end : goal.slice_bounds-pair-end
slice_bounds-pair-end c = omega (arith, pair_bytes c.loop-i.i c.requires.fits c.row_bytes.ensures refl refl (omega arith))

pub slice_bounds-pair-end-in-loop-i : goal.slice_bounds-pair-end-in-loop-i
slice_bounds-pair-end-in-loop-i c = omega (arith, pair_bytes c.loop-i.i c.requires.fits c.row_bytes.ensures refl refl (omega arith))

pub pair-s-requires-clause-fits : goal.pair-s-requires-clause-fits
pair-s-requires-clause-fits c = let i = c.loop-i.i in let f = c.requires.fits in (
  (f.sized, c.requires.scratch.1),
  (pair_clean i f c.row_bytes.ensures refl refl (omega arith), pair_count i f c.row_bytes.ensures refl refl (omega arith)),
)

pub loop-i-preserved : goal.loop-i-preserved
loop-i-preserved c = let i = c.loop-i.i in let s = c.pair-s in
    let both : (s.result.rings && s.result.held) ≡ true
    = elim c.if-s.branch [ then-s w ↦ rw w.if-s.true (sym w.value-is ∙ c.if-not-s.false) | else-s w ↦ clash c.if-not-s.false (w.value-is ∙ w.if-s.false) ] in
    λ y l. fine_more i c.requires.fits c.row_bytes.ensures refl refl (omega arith) c.args.q.0 s.result s.ensures.good s.ensures.held both c.loop-i.invariant y (omega arith)
