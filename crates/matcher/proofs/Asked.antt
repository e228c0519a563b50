-- What is asked of a whole is asked of its parts, and each part's answer goes on to the whole's: what the loops of
-- matching need at each turn.
--   within_le          a row before a row
--   test_asked, asking_next               a step's tests
--   step_asked, stepping_next             an alternative's steps
use mathlib.Core.Path.{◌≡◌, sym}
use mathlib.Core.List.{List}
use Prim.Native.Nat.{ℕ, ◌+◌, ◌-◌, ◌<◌, ◌≤◌, min}
use native.Mathlib.Nat.{mul-le-mul_right}
use native.Mathlib.Omega.{arith}
use lib.ListN.{length, get_or}
use Rattle.alf.specs.declared.Rules.{Rules}
use Rattle.alf.specs.Values.{state_at}
use Rattle.alf.specs.Alternatives.{Test, test_at, step_at, at_row}
use Rattle.alf.proofs.RowsAreAlternatives.{row_off}
use Rattle.evaluator.specs.Rows.{Within}
use Rattle.alternatives.specs.InMemory.{test_of, tests_of, step_in, alternative_in}
use Rattle.matcher.specs.Answers.{TestAsked, StepAsked, AlternativeAsked}
use Rattle.alternatives.proofs.Cuts.{test_at_lem, tests_length}
use Rattle.matcher.proofs.Matching.{Asking, asking_more, alternative_length}
use Rattle.matcher.proofs.Matching.{Stepping, stepping_first, stepping_more, stepping_fits}

pub within_le : {states : List ℕ} {names row : ℕ} (r : ℕ) → Within states names row → r ≤ row
    → Within states names r
within_le {states} {names} {row} r w h =
    record {
      some = w.some;
      most = w.most;
      few = omega (arith, w.few);
      room = omega (arith, w.room, mul-le-mul_right names h);
      codes = w.codes;
    }

module _ {tree : List ℕ} {names : ℕ} {states edges operands : List ℕ} {t n a : ℕ}
    (asked : StepAsked tree names states edges operands t n a) where
  pub test_asked : (i : ℕ) → i < n → TestAsked tree names states (get_or operands (t + i) 0) a
  test_asked i l =
      record { ends = asked.known.boolean (t + i) (omega (arith, asked.there)); rows = asked.rows }

  pub asking_next : (ρ : Rules) {least i : ℕ}
      → Asking (state_at ρ names states) (tests_of tree names edges operands) t n a least i
      → i < n → (r : ℕ)
      → r ≡ test_at (state_at ρ names states) a (test_of tree names (get_or edges (t + i) 0) (get_or operands (t + i) 0))
      → Asking (state_at ρ names states) (tests_of tree names edges operands) t n a (min least r) (i + 1)
  asking_next ρ {least} {i} g l r e =
      let d = test_of tree names 0 0 in
      let h = tests_length tree names edges operands asked.known.enough in
      let k = test_at_lem tree names edges operands (t + i) d (omega (arith, asked.there)) asked.known.enough in
      rw (e, ← k) (asking_more d g l (omega (arith, asked.there)))

module _ {tree : List ℕ} {names : ℕ} {states tests edges operands : List ℕ} {s n t row : ℕ}
    (asked : AlternativeAsked tree names states tests edges operands s n t row) where
  abbrev all : List Test
  all = tests_of tree names edges operands

  whole : length all ≡ length edges
  whole = tests_length tree names edges operands asked.known.enough

  pub longer_no : (ρ : Rules) → row < n → 0 ≡ at_row (state_at ρ names states) row (alternative_in tests all s t n)
  longer_no ρ l =
      sym
      (row_off (state_at ρ names states) row (alternative_in tests all s t n)
      (rw (alternative_length tests all s n t asked.there) l))

  pub stepping_start : (ρ : Rules) → Stepping (state_at ρ names states) tests all s n t (row - n) 2 t 0
  stepping_start ρ = stepping_first (omega (arith, asked.tested, whole))

  module _ (ρ : Rules) {least at j : ℕ} (g : Stepping (state_at ρ names states) tests all s n t (row - n) least at j)
      (l : j < n) where
    pub step_fits : at + get_or tests (s + j) 0 ≤ length edges
    step_fits = omega (arith, stepping_fits g l asked.there, whole)

    pub step_asked : n ≤ row → StepAsked tree names states edges operands at (get_or tests (s + j) 0) (row - n + j)
    step_asked h =
        record {
          known = asked.known;
          there = step_fits;
          rows = within_le (row - n + j + 1) asked.rows (omega arith);
        }

    pub stepping_next : (r : ℕ)
        → r ≡ step_at (state_at ρ names states) (step_in all at (get_or tests (s + j) 0)) (row - n + j)
        → Stepping (state_at ρ names states) tests all s n t (row - n) (min least r) (at + get_or tests (s + j) 0) (j + 1)
    stepping_next r e = rw e (stepping_more g l asked.there)
