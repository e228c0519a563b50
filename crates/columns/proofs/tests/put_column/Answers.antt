-- `tests::put_column` meets its contract.
use native.Mathlib.Omega.{arith}
use Rattle.columns.proofs.Asking.{end_some, name_asked, place_there, name_column}
use Rattle.columns.proofs.tests.put_column.Goals as goal

pub overflow_sub-b : goal.overflow_sub-b
overflow_sub-b c = end_some c.requires

pub bounds-tree-end : goal.bounds-tree-end
bounds-tree-end c = omega (arith, end_some c.requires, c.requires.ends.within)

pub overflow_mul-place : goal.overflow_mul-place
overflow_mul-place c = omega (arith, place_there c.requires c.if-b-lt32.true, c.well_formed)

pub overflow_add-place : goal.overflow_add-place
overflow_add-place c = omega (arith, place_there c.requires c.if-b-lt32.true, c.well_formed)

pub ask_name-requires : goal.ask_name-requires
ask_name-requires c = name_asked c.requires c.if-b-lt32.true

pub returns-then-b-lt32 : goal.returns-then-b-lt32
returns-then-b-lt32 c = name_column c.requires _ c.if-b-lt32.true c.ask_name.ensures
