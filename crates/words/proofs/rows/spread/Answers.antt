use Rattle.words.specs.RowLaws.{spread_word}
use Rattle.words.proofs.rows.spread.Goals as goal

pub returns : goal.returns
returns c = λ a f. spread_word c.args.l c.args.m c.args.n c.args.s a f c.requires.0 c.requires.1
