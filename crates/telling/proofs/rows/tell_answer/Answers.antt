-- `tell_answer` meets its contract.
use mathlib.Core.Path.{ap, sym}
use Rattle.telling.specs.Handing.{told_answer}
use borrow.Author.Rules.{rules}
use Rattle.telling.proofs.rows.tell_answer.Goals as goal

pub number_of-answer-requires : goal.number_of-answer-requires
unfolding told_answer
number_of-answer-requires c = search rules

pub returns-in-Ok : goal.returns-in-Ok
unfolding told_answer
returns-in-Ok c = rw c.number_of-answer.ensures (ap told_answer (sym c.in-Ok.is))

pub returns-in-Err : goal.returns-in-Err
unfolding told_answer
returns-in-Err c = ap told_answer (sym c.in-Err.is)
