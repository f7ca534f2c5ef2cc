use Rattle.clean.specs.CallLaws.{lent, bare_top, seven, refuses, plan_seven, refuses_too, known, support_is, clean_size, cleans}
use native.Mathlib.Omega.{arith}
use Rattle.clean.proofs.clean.Goals as goal

pub with_part_row-requires : goal.with_part_row-requires
with_part_row-requires c = let A = c.args in
    seven A.s A.c A.part.now A.support.now A.rings.now A.clean.now _ c.refusal-k.ensures

pub returns-then-k-ne0 : goal.returns-then-k-ne0
returns-then-k-ne0 c = let A = c.args in
    refuses A.s A.c A.part.now A.support.now A.rings.now A.clean.now _ c.refusal-k.ensures c.if-k-ne0.true _ c.with_part_row.ensures

pub with_part_row-requires-then-m-ne0 : goal.with_part_row-requires-then-m-ne0
with_part_row-requires-then-m-ne0 c = let A = c.args in
    plan_seven A.s A.c A.part.now A.support.now A.rings.now A.clean.now _ c.refusal-k.ensures c.if-k-ne0.false _ _ _ c.fill-m.ensures

pub returns-then-m-ne0 : goal.returns-then-m-ne0
returns-then-m-ne0 c = let A = c.args in
    refuses_too A.s A.c A.part.now A.support.now A.rings.now A.clean.now _ c.refusal-k.ensures c.if-k-ne0.false _ _ _ c.fill-m.ensures c.if-m-ne0.true _ c.with_part_row-then-m-ne0.ensures

pub row_bytes-rb-requires : goal.row_bytes-rb-requires
row_bytes-rb-requires c = let A = c.args in
    (known A.s A.c A.part.now A.support.now A.rings.now A.clean.now _ c.refusal-k.ensures c.if-k-ne0.false _ _ _ c.fill-m.ensures c.if-m-ne0.false).range.w_high

pub stack-requires : goal.stack-requires
stack-requires c = let A = c.args in
    let E = c.refusal-k.ensures in
    let z = c.if-k-ne0.false in
    let P = c.fill-m.ensures in
    let d = c.if-m-ne0.false in
    let K = known A.s A.c A.part.now A.support.now A.rings.now A.clean.now _ E z _ _ _ P d in
    let R = K.range in
    let e = support_is A.s A.c A.part.now A.support.now A.rings.now A.clean.now _ E z _ _ _ P d in record {
      sized = (
        record { sizes = record { w_min = omega (arith, R.w_low); w_max = R.w_high; h_min = omega (arith, R.h_low); h_max = R.h_high }; bytes = c.row_bytes-rb.ensures.0 },
        omega (arith, R.n_low),
        E.gap z,
      );
      lent = (
        lent A.s.w A.s.h A.s.n _ A.part.now _ A.clean.now (omega (arith, R.w_low)) e K.part_length
            (clean_size A.s A.c A.part.now A.support.now A.rings.now A.clean.now _ E z),
        bare_top A.s.w A.s.h A.s.n _ A.part.now _ A.clean.now (omega (arith, R.w_low)) e (omega (arith, R.n_low)),
      );
    }

pub returns : goal.returns
returns c = let A = c.args in
    let E = c.refusal-k.ensures in
    let z = c.if-k-ne0.false in
    let P = c.fill-m.ensures in
    let d = c.if-m-ne0.false in
    let K = known A.s A.c A.part.now A.support.now A.rings.now A.clean.now _ E z _ _ _ P d in
    cleans A.s A.c A.part.now A.support.now A.rings.now A.clean.now _ E z _ _ _ P d (omega (arith, K.range.h_low)) _ c.stack.ensures
