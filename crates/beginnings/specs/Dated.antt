-- A row's answer, the number tried, and the time where its match began, as documents 01 and 02 define them.
--   Dates          what some alternatives tell at a row of a trace with times
--   flags_on, times_on     the flag and the time at each row, as lists have them
use Rattle.std.specs.Prelude.{ℕ, ◌≡◌, List}
use Rattle.alf.specs.declared.Answer.{Answer}
use Rattle.alf.specs.Beginnings.{Began}
use Rattle.alf.specs.Expressions.{Boolean}
use Rattle.alf.specs.Alternatives.{Alternative}
use Rattle.alf.specs.Beginnings as beginnings
use Rattle.alf.specs.Beginnings.{is_given, time_of_lem}
use Rattle.matcher.specs.Answers.{Matches}

pub record Dates (st : Boolean → ℕ → ℕ) (times : List ℕ) (xs : List Alternative) (row : ℕ) (answer : Answer) (tried : ℕ)
    (began : Began) : Type 0 where
  pub matches : Matches st xs row answer tried
  pub since : began ≡ beginnings.began st times xs row

abbrev pub flags_on : (Boolean → ℕ → ℕ) → List ℕ → List Alternative → ℕ → ℕ
flags_on st times xs row = is_given (beginnings.began st times xs row)

abbrev pub times_on : (Boolean → ℕ → ℕ) → List ℕ → List Alternative → ℕ → ℕ
times_on st times xs row = time_of_lem (beginnings.began st times xs row)
