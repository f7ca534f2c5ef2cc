use mathlib.Core.Path.{refl}
use native.Mathlib.Omega.{arith}
use Rattle.rules.specs.Tools.{some}
use Rattle.rules.specs.Images.{row_bytes, padding_set}
use Rattle.limits.proofs.Padding.{last_in, pad_hit, pad_more, pad_none, pad_whole}
use Rattle.limits.proofs.padding_row.Goals as goal

pub overflow_sub-pad : goal.overflow_sub-pad
unfolding row_bytes
overflow_sub-pad c = omega (arith, c.row_bytes-rb.ensures.0)

pub returns-then-pad-eq0 : goal.returns-then-pad-eq0
returns-then-pad-eq0 c = let A = c.args in pad_whole A.w A.k A.s.now c.row_bytes-rb.result _ c.row_bytes-rb.ensures.0 refl c.if-pad-eq0.true

pub pad_mask-mask-requires : goal.pad_mask-mask-requires
unfolding row_bytes
pad_mask-mask-requires c = omega (arith, c.row_bytes-rb.ensures.0)

pub overflow_sub-last : goal.overflow_sub-last
unfolding row_bytes
overflow_sub-last c = omega (arith, c.row_bytes-rb.ensures.0)

pub loop-row-init : goal.loop-row-init
unfolding padding_set some
loop-row-init c = (omega arith, refl)

pub overflow_mul-row : goal.overflow_mul-row
overflow_mul-row c = let A = c.args in
    let rb = c.row_bytes-rb in
    let L = c.loop-row in
    let P = c.requires in
    let in-s = last_in A.w A.k L.row rb.result _ _ P.0 rb.ensures.0 refl c.loop-row-test.true P.1.1 in
    omega (arith, in-s)

pub overflow_add-row : goal.overflow_add-row
overflow_add-row c = let A = c.args in
    let rb = c.row_bytes-rb in
    let L = c.loop-row in
    let P = c.requires in
    let here = last_in A.w A.k L.row rb.result _ _ P.0 rb.ensures.0 refl c.loop-row-test.true P.1.1 in
    omega (arith, here)

pub bounds-s-row : goal.bounds-s-row
bounds-s-row c = let A = c.args in
    let rb = c.row_bytes-rb in
    let L = c.loop-row in
    let P = c.requires in
    last_in A.w A.k L.row rb.result _ _ P.0 rb.ensures.0 refl c.loop-row-test.true P.1.1

pub returns-then-s-row-ne0 : goal.returns-then-s-row-ne0
returns-then-s-row-ne0 c = let A = c.args in
    let rb = c.row_bytes-rb in
    let L = c.loop-row in
    let m = c.pad_mask-mask in
    pad_hit A.w A.s.now L.row _ rb.result m.result rb.ensures.0 refl m.ensures A.k c.loop-row-test.true L.invariant.1 c.if-s-row-ne0.true

pub loop-row-preserved : goal.loop-row-preserved
loop-row-preserved c = let A = c.args in
    let rb = c.row_bytes-rb in
    let L = c.loop-row in
    let m = c.pad_mask-mask in
    (omega arith, pad_more A.w A.s.now L.row _ rb.result m.result rb.ensures.0 refl m.ensures L.invariant.1 c.if-s-row-ne0.false)

pub returns : goal.returns
returns c = let A = c.args in
    let L = c.loop-row in
    pad_none A.w A.k A.s.now L.row c.loop-row-test.false L.invariant.0 L.invariant.1
