use Rattle.words.specs.OneLaws.{digit_one, digit_none}
use Rattle.words.proofs.ones.digit.Goals as goal

pub returns-then-set : goal.returns-then-set
returns-then-set c = digit_one _ _ c.set.ensures c.if-set.true

pub returns-else-set : goal.returns-else-set
returns-else-set c = digit_none _ _ c.set.ensures c.if-set.false
