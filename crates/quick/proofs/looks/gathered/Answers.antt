use Rattle.std.proofs.Common.{sym, ◌∙◌, ◌+◌}
use Rattle.places.specs.Rows.{gather_more}
use Rattle.places.specs.BitLaws.{no_bit}
use Rattle.quick.specs.Sureness.{NoShadow}
use Rattle.quick.proofs.looks.gathered.Goals as goal

pub loop-j-preserved : goal.loop-j-preserved
loop-j-preserved c = let a = c.args in let l = c.loop-j in
    gather_more (λ j. NoShadow a.low.now a.up.now (a.a + j)) l.j l.shade _ l.invariant (λ e k k8. sym (c.shadow-shade.ensures k k8) ∙ no_bit _ k e)
