use Rattle.std.proofs.Common.{sym, ◌∙◌}
use Rattle.places.specs.Rows.{gather_more}
use Rattle.places.specs.BitLaws.{no_bit}
use Rattle.quick.specs.Sureness.{NoShadow, NoneHangs}
use Rattle.quick.proofs.looks.look.Goals as goal

pub loop-j-preserved : goal.loop-j-preserved
loop-j-preserved c = let a = c.args in let l = c.loop-j in (
  gather_more (NoShadow a.low.now a.up.now) l.j l.shade _ l.invariant.0 (λ e k k8. sym (c.shadow-shade.ensures k k8) ∙ no_bit _ k e),
  gather_more (NoneHangs a.low.now a.below.now a.above.now) l.j l.hung _ l.invariant.1 (λ e k k8. sym (c.hanging-hung.ensures k k8) ∙ no_bit _ k e),
)
