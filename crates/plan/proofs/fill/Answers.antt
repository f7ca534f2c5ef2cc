use mathlib.Core.Path.{◌∙◌, refl, sym}
use lib.ListN.{length}
use Rattle.laws.specs.Tests.{clash}
use Rattle.plan.specs.CallLaws.{planable, refuses, plans}
use native.Mathlib.Omega.{arith}
use Rattle.plan.proofs.fill.Goals as goal

pub returns-then-k-ne0 : goal.returns-then-k-ne0
returns-then-k-ne0 c = let A = c.args in refuses A.s A.part.now A.support.now A.rings.now _ c.stack_refusal-k.ensures c.if-k-ne0.true

pub bound_of-q-requires : goal.bound_of-q-requires
bound_of-q-requires c = let A = c.args in
    (planable A.s A.part.now (length A.support.now) (length A.rings.now) (sym c.stack_refusal-k.ensures ∙ c.if-k-ne0.false)).range

pub row_bytes-rb-requires : goal.row_bytes-rb-requires
row_bytes-rb-requires c = let A = c.args in
    (planable A.s A.part.now (length A.support.now) (length A.rings.now) (sym c.stack_refusal-k.ensures ∙ c.if-k-ne0.false)).range.w_high

pub stack-requires : goal.stack-requires
stack-requires c = let A = c.args in
    let z = sym c.stack_refusal-k.ensures ∙ c.if-k-ne0.false in
    let Q = planable A.s A.part.now (length A.support.now) (length A.rings.now) z in
    let R = Q.range in record {
      sized = (
        record { sizes = record { w_min = omega (arith, R.w_low); w_max = R.w_high; h_min = omega (arith, R.h_low); h_max = R.h_high }; bytes = c.row_bytes-rb.ensures.0 },
        c.bound_of-q.ensures.1,
        omega (arith, R.n_low),
      );
      buffers = record { part_long = Q.part_length; clean = Q.clean; support_long = Q.support_length; rings_long = Q.rings_counted; bare = λ k p lp. clash refl k };
    }

pub returns : goal.returns
returns c = let A = c.args in
    let k = c.stack_refusal-k.ensures in
    let z = c.if-k-ne0.false in
    plans A.s A.part.now A.support.now A.rings.now _ k z c.bound_of-q.result.0 c.bound_of-q.ensures.0 c.stack.new.support c.stack.new.rings c.stack.ensures.support_planned (c.stack.ensures.rings_planned.0 refl)
