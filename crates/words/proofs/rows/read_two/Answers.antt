use Rattle.words.proofs.rows.read_two.Goals as goal

pub returns-then-n-eq32 : goal.returns-then-n-eq32
returns-then-n-eq32 c = λ k. rw c.if-n-eq32.true (c.whole-l.ensures k, c.whole-u.ensures k)

pub returns : goal.returns
returns c = λ k. (c.read_short-l.ensures k, c.read_short-u.ensures k)
