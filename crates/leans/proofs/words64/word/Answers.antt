use Rattle.std.proofs.Common.{ℕ, ap, sym, ◌∙◌, arith, get_or}
use Rattle.leans.specs.Joined.{quiet_told, if_then_some}
use Rattle.leans.proofs.words64.word.Goals as goal

pub returns-then-free-eq0 : goal.returns-then-free-eq0
returns-then-free-eq0 c = let a = c.args in
    if_then_some c.none.result _ _ _ c.then_some.ensures (λ e. quiet_told a.w a.h a.rings.now a.r a.x a.free a.first (λ k b lw.
    sym (ap (λ (p : ℕ). get_or a.rings.now p 0) (omega arith)) ∙ c.none.ensures e k (omega arith)))
