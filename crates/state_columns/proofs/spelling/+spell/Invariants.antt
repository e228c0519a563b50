-- `spelling::spell` meets its contract, by recursion on the bytes before `end`.
use Rattle.state_columns.proofs.spelling.+spell.Given as goal

abbrev pub decreases-spell : goal.decreases-spell
decreases-spell l = l.end
