-- `put_digits` meets its contract, by recursion on k: all digits but the last, and the last.
use Rattle.figures.proofs.numbers.+put_digits.Given as goal

abbrev pub decreases-put_digits : goal.decreases-put_digits
decreases-put_digits l = l.k
