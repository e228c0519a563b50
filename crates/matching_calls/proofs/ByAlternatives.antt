-- The lists of an accepted tree stand for its alternatives, so what is matched by the lists is what document 01
-- defines for the tree's expression.
--   answers_on_lem                    the answers by alternatives are those on windows
--   xs                            the alternatives that the lists stand for
--   numbers_on, steps_are         their answers at the rows, and K
--   tree_date, tree_matches, tree_dated     a row with its time
--   tree_marks, tree_fills        all rows with their times
--   tree_totals
--   longest_steps                 the longest alternative has K steps
use mathlib.Core.Path.{◌≡◌, ap, sym, ◌∙◌, fun_ext}
use mathlib.Core.List.{List}
use Prim.Native.Nat.{ℕ}
use native.Mathlib.Omega.{arith}
use lib.ListN.{length}
use Rattle.alf.specs.declared.Rules.{Rules}
use Rattle.alf.specs.declared.Answer.{Answer}
use Rattle.alf.specs.Beginnings.{Began}
use Rattle.basics.specs.Words.{listed, greatest_of}
use Rattle.alf.specs.Values.{state_at}
use Rattle.alf.specs.Alternatives.{Alternative, alternatives, tries, steps_of, answer_of}
use Rattle.alf.specs.Beginnings.{began}
use Rattle.alf.proofs.RowsAreAlternatives.{same_answer}
use Rattle.alternatives.specs.Listed.{alternatives_listed}
use Rattle.matcher.specs.Answers.{Matches}
use Rattle.matcher.specs.Tables.{Filled, TotalsOf}
use Rattle.basics.proofs.Listed.{listed_whole, listed_length}
use Rattle.beginnings.specs.Times.{DateAsked, Dating, MarksAsked, Marks}
use Rattle.beginnings.specs.Dated.{Dates, flags_on, times_on}
use Rattle.beginnings.proofs.ByTries.{date_asked, dated, marks_took, marked_flags, marked_times}
use Rattle.beginnings.proofs.Counts.{counted}
use Rattle.matcher.proofs.Agreement.{matches_windows, totals_windows}
use Rattle.alternatives.specs.InMemory.{longest_of}
use Rattle.alternatives.proofs.Longest.{longest_is}
use Rattle.alternatives.specs.declared.lists.Lists.{Lists}
use Rattle.rewriting.specs.Lists.{StandFor}
use Rattle.matching_calls.specs.Matching.{expression, answers_on, MatchesTree, FillsTree, TotalsTree}
use Rattle.matching_calls.specs.Matching.{TreeRow, TreeLists}

pub answers_on_lem : (ρ : Rules) (names : ℕ) (tree states : List ℕ)
    → answer_of (state_at ρ names states) (alternatives (expression ρ tree names)) ≡ answers_on ρ names tree states
answers_on_lem ρ names tree states =
    fun_ext (λ i. sym (same_answer (state_at ρ names states) (expression ρ tree names) i))

module _ {ρ : Rules} {names : ℕ} {tree : List ℕ} {ls : Lists} (h : StandFor ρ tree names ls) where
  abbrev pub xs : List Alternative
  xs =
      alternatives_listed tree names ls

  pub tree_dated : {times states : List ℕ} {row t : ℕ} {answer : Answer} {b : Began}
      → Dates (state_at ρ names states) times xs row answer t b
      → MatchesTree ρ names tree times states row answer t b
  tree_dated {times} {states} {row} d =
      let m = d.matches in
      record {
        is = matches_windows (state_at ρ names states) (expression ρ tree names) h.stands m;
        count = m.count ∙ ap (λ (ys : List Alternative). tries (state_at ρ names states) ys row) h.stands;
        start = d.since ∙ ap (λ (ys : List Alternative). began (state_at ρ names states) times ys row) h.stands;
      }

  -- a row that is matched may be dated, and is dated then
  module _ {times states : List ℕ} {row t : ℕ} {answer : Answer} (l : TreeRow ρ names tree times states row)
      (m : Matches (state_at ρ names states) xs row answer t) where
    pub tree_date : DateAsked times ls.steps.now row answer t
    tree_date = date_asked (state_at ρ names states) times (counted h.shape) m l.timed

    pub tree_matches : {answer' : Answer} {t' : ℕ} {b : Began}
        → Dating times ls.steps.now row answer t answer' t' b
        → MatchesTree ρ names tree times states row answer' t' b
    tree_matches d = tree_dated (dated (state_at ρ names states) times (counted h.shape) m d)

  pub numbers_on : (states : List ℕ) → answer_of (state_at ρ names states) xs ≡ answers_on ρ names tree states
  numbers_on states =
      ap (λ (ys : List Alternative). answer_of (state_at ρ names states) ys) h.stands ∙ answers_on_lem ρ names tree states

  -- rows that are matched may be marked, and are marked then
  module _ {times states answers tried answers' tried' given began' : List ℕ} {n : ℕ}
      (l : TreeLists ρ names n tree times states answers tried given began')
      (f : Filled (state_at ρ names states) xs n answers tried answers' tried') where
    answers_are : answers' ≡ listed 0 n (answer_of (state_at ρ names states) xs)
    answers_are = f.answered ∙ listed_whole n _ answers l.lent.answers_all

    tried_are : tried' ≡ listed 0 n (tries (state_at ρ names states) xs)
    tried_are = f.counted ∙ listed_whole n _ tried l.lent.tried_all

    pub tree_marks : MarksAsked times ls.steps.now n answers' tried' given began'
    tree_marks =
        record {
          few = l.asked.rows.few;
          times_all = omega (arith, l.lent.times_all);
          answers_all = omega (arith, ap length answers_are, listed_length 0 n (answer_of (state_at ρ names states) xs));
          tried_all = omega (arith, ap length tried_are, listed_length 0 n (tries (state_at ρ names states) xs));
          given_room = l.lent.given_all;
          began_room = l.lent.began_all;
          took = marks_took (state_at ρ names states) times (counted h.shape) answers_are tried_are;
        }

    pub tree_fills : {given' began'' : List ℕ}
        → Marks times ls.steps.now n answers' tried' given' began''
        → FillsTree ρ names n tree times states answers' tried' given' began''
    tree_fills m =
        let st = state_at ρ names states in
        let s = counted h.shape in
        record {
          answers = answers_are ∙ ap (λ (g : ℕ → ℕ). listed 0 n g) (numbers_on states);
          counts = tried_are ∙ ap (λ (ys : List Alternative). listed 0 n (tries st ys)) h.stands;
          flags =
              marked_flags st times s answers_are tried_are m
              ∙ ap (λ (ys : List Alternative). listed 0 n (flags_on st times ys)) h.stands;
          stamps =
              marked_times st times s answers_are tried_are m
              ∙ ap (λ (ys : List Alternative). listed 0 n (times_on st times ys)) h.stands;
        }

  pub tree_totals : (states : List ℕ) {n y f u : ℕ} → TotalsOf (state_at ρ names states) xs n y f u
      → TotalsTree ρ names n tree states y f u
  tree_totals states t = totals_windows (state_at ρ names states) (expression ρ tree names) h.stands t

  pub steps_are : longest_of xs ≡ steps_of (expression ρ tree names)
  unfolding steps_of
  steps_are = ap longest_of h.stands

  pub longest_steps : greatest_of (λ n. n) ls.steps.now ≡ steps_of (expression ρ tree names)
  longest_steps = longest_is h.shape ∙ steps_are
