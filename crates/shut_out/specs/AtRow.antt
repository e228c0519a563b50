-- What no call answers at a row of table T: as written, by alternatives, or in a list of all rows.
--   NeverAt      a pattern, some rules, a row, and the answer that is not given there
use Rattle.std.specs.Prelude.{Ok}
use Rattle.std.specs.Prelude.{ℕ, ◌≡◌, List, get_or}
use Rattle.alf.specs.declared.Rules.{Rules}
use Rattle.alf.specs.declared.Answer.{Answer}
use Rattle.alf.specs.Beginnings.{Began}
use Rattle.alf.specs.Expressions.{Vector}
use Rattle.alf.specs.Answers.{number_of}
use Rattle.alf.specs.TableT.{names, rows, times, states}
use Rattle.row_calls.specs.Written.{RowAnswer}
use Rattle.matching_calls.specs.Matching.{RowMatch, AllMatched}
use Rattle.shut_out.specs.Asked.{asked}

pub record NeverAt (ρ : Rules) (p : Vector) (i : ℕ) (a : Answer) : Type 0 where
  pub row_answer_lem : RowAnswer ρ names rows (asked p) states i (Ok a) → ⊥
  pub match_row_lem : (t : ℕ) (b : Began)
      → RowMatch ρ names rows (asked p) times states i (Ok (record { answer = a; tries = t; began = b })) → ⊥
  pub match_all : (answers tried given began answers' tried' given' began' : List ℕ) (k : ℕ)
      → AllMatched ρ names rows (asked p) times states answers tried given began answers' tried' given' began' (Ok k)
      → get_or answers' i 0 ≡ number_of a → ⊥
