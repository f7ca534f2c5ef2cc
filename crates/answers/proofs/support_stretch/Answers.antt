use Rattle.answers.proofs.support_stretch.Goals as goal

pub returns-then-l : goal.returns-then-l
returns-then-l c = rw c.if-l.true c.stretch.ensures
