use Rattle.quick.specs.RowsOfPair.{four_words}
use Rattle.quick.proofs.rows.row.Goals as goal

pub returns-then-n-eq32 : goal.returns-then-n-eq32
returns-then-n-eq32 c = rw c.if-n-eq32.true (λ k. four_words c.args.s.now c.args.a _ _ _ _ c.word.ensures c.word-then-n-eq32.ensures c.word-then-n-eq32-2.ensures c.word-then-n-eq32-3.ensures k)
