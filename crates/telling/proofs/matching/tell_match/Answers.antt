-- `tell_match` meets its contract.
use mathlib.Core.Path.{ap, sym}
use Rattle.telling.specs.Matching.{told_match}
use borrow.Author.Rules.{rules}
use Rattle.telling.proofs.matching.tell_match.Goals as goal

pub number_of-answer-requires : goal.number_of-answer-requires
unfolding told_match
number_of-answer-requires c = search rules

pub given_of-given-requires : goal.given_of-given-requires
unfolding told_match
given_of-given-requires c = search rules

pub time_of-began-requires : goal.time_of-began-requires
unfolding told_match
time_of-began-requires c = search rules

pub returns-in-Ok : goal.returns-in-Ok
unfolding told_match
returns-in-Ok c =
    rw (c.number_of-answer.ensures, c.given_of-given.ensures, c.time_of-began.ensures)
    (ap told_match (sym c.in-Ok.is))

pub returns-in-Err : goal.returns-in-Err
unfolding told_match
returns-in-Err c = ap told_match (sym c.in-Err.is)
