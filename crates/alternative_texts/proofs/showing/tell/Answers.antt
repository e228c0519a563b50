-- `tell` meets its contract.
use Rattle.alternative_texts.proofs.Telling.{told, untold}
use Rattle.alternative_texts.proofs.showing.tell.Goals as goal

pub returns-in-Ok : goal.returns-in-Ok
returns-in-Ok c = told c.requires c.write_expression-o.ensures c.in-Ok.is

pub returns-in-Err : goal.returns-in-Err
returns-in-Err c = untold c.requires c.write_expression-o.ensures c.in-Err.is c.lay_dots.ensures
