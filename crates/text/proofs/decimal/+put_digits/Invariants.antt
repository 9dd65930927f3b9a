-- No digit, one digit, or the digits of a tenth and one more.
use Rattle.text.proofs.decimal.+put_digits.Given as goal

abbrev pub decreases-put_digits : goal.decreases-put_digits
decreases-put_digits l = l.left
