-- The line of the table for a pattern's text: with its totals, or with its refusal.
--   line_of       the line
--   TableLine    what the call comes to
--   Tabled       what the function inside asks
use Rattle.std.specs.Prelude.{Err, Ok}
use Rattle.std.specs.Prelude.{ℕ, ◌≤◌, ◌≡◌, List}
use Rattle.matcher.specs.declared.tables.Total.{Total}
use Rattle.matching_calls.specs.Matching.{Counting}
use Rattle.table_lines.specs.Table.{pattern_line, refused_line}
use Rattle.figures.specs.Delivering.{Delivers}
use Rattle.jobs.specs.declared.table.Line.{Line}
use Rattle.jobs.specs.Counting.{CountsText}
use Rattle.alf.specs.declared.Rules.{Rules}

-- the line of a text, on a trace of n rows, by what is counted
unfoldable pub line_of : List ℕ → ℕ → Counting → List ℕ
line_of text n (Ok t) = pattern_line text t.yes t.unknown t.no n
line_of text n (Err r) = refused_line text r.number r.place

-- the totals of the text, and their line in the lent buffer
pub record TableLine (ρ : Rules) (names : List ℕ) (n : ℕ) (states text out out' : List ℕ) (r : Line) : Type 0 where
  pub counts : CountsText ρ names n states text r.counted
  pub writes : Delivers (line_of text n r.counted) out out' r.written

-- what is counted is counted on at most 65,535 rows
pub record Tabled (n : ℕ) (c : Counting) : Type 0 where
  pub few : (t : Total) → c ≡ Ok t → n ≤ 65535
