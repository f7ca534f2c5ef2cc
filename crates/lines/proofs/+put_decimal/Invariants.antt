-- A number ends where its digits do: those of its tenth, written by the call of itself, and one more. The measure is the number.
use Rattle.lines.proofs.+put_decimal.Given as goal

abbrev pub decreases-put_decimal : goal.decreases-put_decimal
decreases-put_decimal l = l.x
