use Rattle.chains.specs.Amiss.{amiss_here}
use Rattle.chains.proofs.pixels.amiss.Goals as goal

pub returns-then-ringed : goal.returns-then-ringed
unfolding amiss_here
returns-then-ringed c = λ q e. rw c.if-ringed.true (c.bad.ensures q e)

pub returns-else-ringed : goal.returns-else-ringed
unfolding amiss_here
returns-else-ringed c = λ q e. rw c.if-ringed.false c.unheld.ensures
