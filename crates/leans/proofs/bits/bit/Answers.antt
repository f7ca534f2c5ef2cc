use Rattle.words.specs.Words.{bit_of_word, place}
use Rattle.leans.proofs.bits.bit.Goals as goal

pub returns : goal.returns
unfolding bit_of_word place
returns c = c.digit.ensures
