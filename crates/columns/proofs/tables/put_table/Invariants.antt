-- `tables::put_table` meets its contract. The loop's invariant: the entries so far are written.
use Rattle.basics.specs.Words.{listed}
use Rattle.basics.proofs.Stores.{Writing}
use Rattle.columns.specs.Columns.{table_at}
use Rattle.columns.proofs.tables.put_table.Given as goal

abbrev pub invariant-loop-q : goal.invariant-loop-q
invariant-loop-q l = Writing l.initial.tables l.base (listed 0 64 (table_at l.k)) l.tables l.q
