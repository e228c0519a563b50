-- `pass_rows` meets its contract.
use Rattle.record_checks.proofs.ManyRows.{onward_then}
use Rattle.record_checks.proofs.rows.pass_rows.Goals as goal

pub pass_marked-requires : goal.pass_marked-requires
pass_marked-requires c = c.pass_marked-t.ensures.stands

pub returns : goal.returns
returns c = onward_then c.pass_marked-t.ensures c.pass_marked.ensures
