use Rattle.std.proofs.Common.{ap, arith, get_or, List, ℕ}
use Rattle.leans.specs.Joined.{upto_alike, upto_told}
use Rattle.leans.proofs.words64.eights.Goals as goal

pub loop-b-preserved-then-alike : goal.loop-b-preserved-then-alike
loop-b-preserved-then-alike c = let a = c.args in let l = c.loop-b in
    upto_alike a.w a.h a.rings.now a.r a.x a.free a.first l.got l.most l.b _ (omega arith) (ap (λ (s : List ℕ). get_or s l.b 0) c.to_be_bytes-bytes.ensures)
    (c.alike.ensures c.if-alike.true) l.invariant

pub loop-b-preserved : goal.loop-b-preserved
loop-b-preserved c = let a = c.args in let l = c.loop-b in
    upto_told a.w a.h a.rings.now a.r a.x a.free a.first l.b c.min-end.result c.in_ok-t.t c.in_ok-t.ensures (omega arith) (λ k h lw. omega arith) (omega arith) l.got l.most
    c.patched-got.result c.patched-got.ensures l.invariant
