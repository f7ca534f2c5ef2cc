use Rattle.image.specs.Bits.{bit_and_lem, bit_or_lem, bit_not}
use lib.Bits.{or_lt}
use Rattle.rules.specs.Images.{bit_at}
use mathlib.Core.Path.{ap, ◌∙◌}
use mathlib.Core.Bool.{Bool, not, ◌&&◌}
use borrow.Author.Rules.{rules}
use Rattle.quick.proofs.looks.hanging.Goals as goal

pub returns : goal.returns
returns c = λ k l. bit_and_lem c.args.above _ k ∙ ap (λ (b : Bool). bit_at c.args.above k && b)
    (bit_not _ k (or_lt 8 c.args.low c.args.below (search rules) (search rules)) l ∙ ap not (bit_or_lem c.args.low c.args.below k))
