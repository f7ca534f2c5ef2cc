use Rattle.std.proofs.Common.{◌≡◌, ℕ, ◌+◌, ◌*◌, ap, sym, ◌∙◌, arith, get_or}
use Rattle.leans.specs.BitLaws.{one_alone}
use Rattle.leans.specs.Joined.{tells_start, tells_none, tells_some}
use Rattle.leans.proofs.steps.pixels.Goals as goal
use Rattle.leans.proofs.steps.pixels.Goals.{then-v-ne0+else-not-good, else-v-ne0}

pub loop-k-init : goal.loop-k-init
loop-k-init c = let a = c.args in tells_start a.w a.h a.rings.now a.r a.x a.from a.free a.first

pub loop-k-preserved : goal.loop-k-preserved
loop-k-preserved c = let a = c.args in let l = c.loop-k in
    let e : get_or a.rings.now (a.r * a.w + a.x + l.k) 0 ≡ get_or a.rings.now (a.r * a.w + (a.x + l.k)) 0 = ap (λ (p : ℕ). get_or a.rings.now p 0) (omega arith) in
    elim c.if-v-ne0.branch [
      | then-v-ne0+else-not-good w ↦ rw (w.got-is, w.most-is) (tells_some a.w a.h a.rings.now a.r a.x a.from l.k a.free a.first l.got l.most (omega arith) l.invariant w.bit-got.result _
          (λ j h. one_alone w.bit-got.result l.k j (w.bit-got.ensures 0) h) e (omega arith) (omega arith) (w.good.ensures w.if-not-good.false))
      | else-v-ne0 w ↦ rw (w.got-is, w.most-is) (tells_none a.w a.h a.rings.now a.r a.x a.from l.k a.free a.first l.got l.most (omega arith) l.invariant (sym e ∙ w.if-v-ne0.false))
    ]
