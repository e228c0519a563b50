-- `combining::chosen_of` meets its contract.
use Rattle.state_columns.proofs.combining.chosen_of.Goals as goal

pub returns : goal.returns
returns c = rw (c.settle-v.ensures.is, c.settle-w.ensures.is) at c.choose.ensures
