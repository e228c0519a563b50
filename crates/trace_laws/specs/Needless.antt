-- Document 02, "Longer times": a row marked `RL` whose time would fit behind `RW`.
--   needless       1 for such a row, by the bytes of its time and by the time, else 0
--   needless_rows   how many of the first rows behind k names of a file are such
use Rattle.std.specs.Prelude.{ℕ, zero, suc, ◌+◌, ◌&&◌, List, eqb, ltb, if◌then◌else◌}
use Rattle.trace_format.specs.Records.{width_in, time_in}

unfoldable pub needless : ℕ → ℕ → ℕ
needless width time = if eqb width 8 && ltb time 4294967296 then 1 else 0

unfoldable pub needless_rows : List ℕ → ℕ → ℕ → ℕ
needless_rows file k zero = 0
needless_rows file k (suc r) = needless_rows file k r + needless (width_in file k r) (time_in file k r)
