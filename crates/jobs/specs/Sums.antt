-- The sums of a table's columns over its patterns, exact: a sum that would be 2^64 or more is told, and not made.
--   word                                  2^64, what a sum stays below
--   yes_of, unknown_of, no_of, pattern_of     what a pattern adds; a refused one adds nothing
--   no_sums, grown, fit, added_to           one pattern more, step by step
--   added_all                              some patterns, one after the other; once full, it stays full
--   sums_of                                the sums over the list of all patterns
--   Modest                                a pattern's totals, each of at most 65,534 rows
--   CountedOn                             what is counted of some text on a trace
-- That added_all comes to sums_of, and what full means, are laws.
use Rattle.std.specs.Prelude.{Err, Ok}
use Rattle.std.specs.Prelude.{None, Option, Some}
use Rattle.std.specs.Prelude.{ℕ, ◌+◌, ◌-◌, ◌^◌, ◌≤◌, Bool, ◌&&◌, List, [], ◌∷◌, ltb, if◌then◌else◌}
use Rattle.basics.specs.Words.{sum_of}
use Rattle.matcher.specs.declared.tables.Total.{Total}
use Rattle.matching_calls.specs.Matching.{Counting}
use Rattle.table_lines.specs.declared.lines.Sums.{Sums}
use Rattle.jobs.specs.Counting.{CountsText}
use Rattle.alf.specs.declared.Rules.{Rules}

-- the sums with one pattern more, or none: a sum would be 2^64 or more
abbrev pub Adding : Type 0
Adding = Option Sums

-- the first number that a sum cannot hold
abbrev pub word : ℕ
word = 2 ^ 64

-- no pattern yet, on a trace of n rows
unfoldable pub no_sums : ℕ → Sums
no_sums n = record { yes = 0; unknown = 0; no = 0; patterns = 0; events = n - 1 }

-- with the totals of one pattern more
unfoldable pub grown : Sums → Total → Sums
grown s t =
    record {
      yes = s.yes + t.yes;
      unknown = s.unknown + t.unknown;
      no = s.no + t.no;
      patterns = s.patterns + 1;
      events = s.events;
    }

-- each of the four sums is below 2^64
unfoldable pub fit : Sums → Bool
fit s = ltb s.yes word && (ltb s.unknown word && (ltb s.no word && ltb s.patterns word))

-- one pattern more; a refused one adds nothing
unfoldable pub added_to : Sums → Counting → Adding
added_to s (Ok t) = if fit (grown s t) then Some (grown s t) else None
added_to s (Err r) = Some s

-- some patterns, one after the other; once full, it stays full
unfoldable pub added_all : Adding → List Counting → Adding
added_all a [] = a
added_all (Some s) (c ∷ cs) = added_all (added_to s c) cs
added_all None (c ∷ cs) = None

-- what a pattern adds to each column
unfoldable pub yes_of : Counting → ℕ
yes_of (Ok t) = t.yes
yes_of (Err r) = 0

unfoldable pub unknown_of : Counting → ℕ
unknown_of (Ok t) = t.unknown
unknown_of (Err r) = 0

unfoldable pub no_of : Counting → ℕ
no_of (Ok t) = t.no
no_of (Err r) = 0

unfoldable pub pattern_of : Counting → ℕ
pattern_of (Ok t) = 1
pattern_of (Err r) = 0

-- the sums over a list
unfoldable pub sums_of : ℕ → List Counting → Sums
sums_of n cs =
    record {
      yes = sum_of yes_of cs;
      unknown = sum_of unknown_of cs;
      no = sum_of no_of cs;
      patterns = sum_of pattern_of cs;
      events = n - 1;
    }

-- each of a pattern's totals is of at most 65,534 rows
pub record Modest (c : Counting) : Type 0 where
  pub yeses : yes_of c ≤ 65534
  pub unknowns : unknown_of c ≤ 65534
  pub noes : no_of c ≤ 65534

-- what is counted of some text on a trace
pub record CountedOn (ρ : Rules) (names : List ℕ) (n : ℕ) (states : List ℕ) (c : Counting) : Type 0 where
  pub text : List ℕ
  pub counts : CountsText ρ names n states text c
