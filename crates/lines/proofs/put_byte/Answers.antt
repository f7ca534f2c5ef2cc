use Rattle.lines.specs.Lines.{wrote_byte}
use Rattle.lines.proofs.put_byte.Goals as goal

pub returns : goal.returns
returns c = wrote_byte c.args.out.now c.args.at c.args.b c.requires
