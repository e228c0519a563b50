-- The library for C hands on: what it tells is a result that the call's contract allows, in numbers. Number 0 is done,
-- another is document 01's number of the refusal.
--   Hands, sort_of_lem     a result that is handed on; a sort by its number
--   told, told_expression, told_trace, told_changes, told_answer     what is told of each kind of result
use Rattle.std.specs.Prelude.{Result, replicate, Err, Ok}
use Rattle.std.specs.Prelude.{Bool, true, false, ◌≡◌}
use Rattle.alf.specs.declared.Sort.{Sort}
use Rattle.alf.specs.declared.Sort.TheVariants as the_sort
use Rattle.basics.specs.Refusing.{Outcome}
use Rattle.basics.specs.declared.Refusal.{Refusal}
use Rattle.reader.specs.declared.Read.{Read}
use Rattle.trace_reader.specs.Reading.{Reading}
use Rattle.changes.specs.Call.{RowChanges}
use Rattle.alf.specs.Answers.{number_of}
use Rattle.row_calls.specs.Written as rows
use Rattle.telling.specs.declared.Told.{Told}
use Rattle.telling.specs.declared.Expression.{Expression}
use Rattle.telling.specs.declared.Trace.{Trace}
use Rattle.telling.specs.declared.Changed.{Changed}
use Rattle.telling.specs.declared.Answered.{Answered}

-- a result that is allowed, as it is told
pub record Hands {A B : Type 0} (allowed : A → Type 0) (tell : A → B) (r : B) : Type 0 where
  pub result : A
  pub is_allowed : allowed result
  pub is_told : r ≡ tell result

unfoldable pub sort_of_lem : Bool → Sort
sort_of_lem true = the_sort.Vector
sort_of_lem false = the_sort.Boolean

unfoldable pub told : Outcome → Told
told (Ok n) = record { number = 0; place = 0; count = n }
told (Err r) = record { number = r.number; place = r.place; count = 0 }

-- the refusal is 0 at 0 where the text is not refused, and there is no tree where it is
unfoldable pub told_expression : Result Read Refusal → Expression
told_expression (Ok r) = record { number = 0; place = 0; extent = 0; len = r.len; tree = r.tree }
told_expression (Err r) =
    record { number = r.number; place = r.place; extent = r.extent; len = 0; tree = replicate 256 0 }

unfoldable pub told_trace : Reading → Trace
told_trace (Ok s) = record { number = 0; place = 0; names = s.names; rows = s.rows }
told_trace (Err r) = record { number = r.number; place = r.place; names = 0; rows = 0 }

unfoldable pub told_changes : RowChanges → Changed
told_changes (Ok c) = record { number = 0; place = 0; mask = c.mask; many = c.many }
told_changes (Err r) = record { number = r.number; place = r.place; mask = 0; many = 0 }

unfoldable pub told_answer : rows.Answering → Answered
told_answer (Ok a) = record { number = 0; place = 0; answer = number_of a }
told_answer (Err r) = record { number = r.number; place = r.place; answer = 0 }
