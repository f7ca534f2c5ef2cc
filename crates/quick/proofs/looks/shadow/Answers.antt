use Rattle.image.specs.Bits.{bit_and_lem, bit_not}
use Rattle.rules.specs.Images.{bit_at}
use mathlib.Core.Path.{ap, ◌∙◌}
use mathlib.Core.Bool.{Bool, ◌&&◌}
use borrow.Author.Rules.{rules}
use Rattle.quick.proofs.looks.shadow.Goals as goal

pub returns : goal.returns
returns c = λ k l. bit_and_lem c.args.up _ k ∙ ap (λ (b : Bool). bit_at c.args.up k && b) (bit_not c.args.low k (search rules) l)
