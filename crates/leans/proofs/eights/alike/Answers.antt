use Rattle.std.proofs.Common.{◌≡◌, ◌+◌, ◌*◌, ◌∙◌, arith, get_or}
use Rattle.words.specs.OneLaws.{ones_at}
use Rattle.leans.specs.Joined.{xor_same}
use Rattle.places.specs.Rows.{gather_more}
use Rattle.rules.specs.Images.{bit_at}
use Rattle.rules.specs.Tools.{bit}
use Rattle.leans.proofs.eights.alike.Goals as goal

pub loop-k-preserved : goal.loop-k-preserved
loop-k-preserved c = let a = c.args in let k = c.loop-k.k in
    gather_more (λ j. get_or a.rings.now (a.x + j) 0 ≡ bit (bit_at a.m j)) k c.loop-k.all _ c.loop-k.invariant
    (λ e. xor_same _ _ e ∙ ones_at a.ones.now c.requires.1 a.m (c.from-at.result * 8) k (omega arith) (omega arith) (omega arith))
