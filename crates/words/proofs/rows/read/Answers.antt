use Rattle.words.proofs.rows.read.Goals as goal

pub returns-then-n-eq32 : goal.returns-then-n-eq32
returns-then-n-eq32 c = λ k. rw c.if-n-eq32.true (c.whole.ensures k)
