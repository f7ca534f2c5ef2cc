use Rattle.pair.proofs.begin.Goals as goal

pub returns-else-wanted : goal.returns-else-wanted
returns-else-wanted c = c.requires c.if-wanted.false
