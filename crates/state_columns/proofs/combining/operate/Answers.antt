-- `combining::operate` meets its contract.
use borrow.Author.Rules.{rules}
use Rattle.state_columns.proofs.Stating.{table_states, operated_stated}
use Rattle.state_columns.proofs.combining.operate.Goals as goal

pub look-requires : goal.look-requires
look-requires c = record {
  states = table_states c.args.b c.put_operator.ensures (search rules);
  two = c.requires.two;
}

pub returns : goal.returns
returns c =
    operated_stated c.args.b c.put_operator.ensures (search rules) c.requires.two
    c.look.ensures
