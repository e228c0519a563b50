-- `write_expression` meets its contract: the names are checked, then the tree.
use Rattle.writer.proofs.Calls.{refused_names, names_passed}
use Rattle.writer.proofs.write_expression.Goals as goal

pub write_tree-requires : goal.write_tree-requires
write_tree-requires c = names_passed _ c.check_names-checked.ensures c.in-Ok.is

pub returns-in-Err : goal.returns-in-Err
returns-in-Err c = refused_names _ c.check_names-checked.ensures c.in-Err.is
