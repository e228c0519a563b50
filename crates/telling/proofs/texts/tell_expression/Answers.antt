-- `tell_expression` meets its contract.
use Rattle.telling.specs.Handing.{told_expression}
use Rattle.telling.proofs.texts.tell_expression.Goals as goal

pub returns-in-Ok : goal.returns-in-Ok
unfolding told_expression
returns-in-Ok c = rw c.in-Ok.is

pub returns-in-Err : goal.returns-in-Err
unfolding told_expression
returns-in-Err c = rw c.in-Err.is
