-- What the first pass over a file comes to. Main name: Checked.
use Rattle.std.specs.Prelude.{Err, Ok}
use Rattle.std.specs.Prelude.{ℕ, List}
use Rattle.alf.specs.Refusals.{Bare}
use Rattle.trace_reader.specs.Reading.{Reading}
use Rattle.trace_reader.specs.Reading.{Accepted, FileRefused}

unfoldable pub Checked : List ℕ → Reading → Type 0
Checked file (Ok s) = Accepted file s.names s.rows
Checked file (Err r) = FileRefused file r.number r.place × Bare r
