-- `row_time` meets its contract.
use native.Mathlib.Omega.{arith}
use Rattle.text_rows.proofs.RowChecks.{timed}
use Rattle.text_rows.proofs.rows.row_time.Goals as goal

pub find_word-s-requires : goal.find_word-s-requires
find_word-s-requires c = c.requires.within

pub slice_bounds-time_of-count : goal.slice_bounds-time_of-count
slice_bounds-time_of-count c = omega (arith, c.find_word-s.ensures.run.low)

pub slice_bounds-time_of-start : goal.slice_bounds-time_of-start
slice_bounds-time_of-start c = omega (arith, c.find_word-s.ensures.run.low)

pub slice_bounds-time_of-end : goal.slice_bounds-time_of-end
slice_bounds-time_of-end c = omega (arith, c.find_word-s.ensures.run.within)

pub returns : goal.returns
returns c = timed _ c.requires c.find_word-s.ensures c.time_of.ensures
