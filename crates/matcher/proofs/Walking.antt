-- Through the lists of alternatives: what is known when those before k are tried, the steps of k start at s and its
-- tests at t, and the best answer so far is b.
--   Walking, walking_first, -yes, -next, -end
--   alternatives_next      alternative k apart from those behind it
--   alternative_asked      alternative k may be asked
use mathlib.Core.Path.{◌≡◌, refl, ◌∙◌}
use mathlib.Core.List.{List, ◌∷◌}
use Prim.Native.Nat.{ℕ, ◌+◌, ◌<◌, ◌≤◌, max}
use native.Mathlib.Omega.{arith}
use lib.ListN.{length, get_or, take, drop, drop_of_length-le}
use lib.Seq.{drop-drop}
use Rattle.alf.specs.declared.Rules.{Rules}
use Rattle.alf.specs.declared.Answer.TheVariants.{Yes}
use Rattle.alf.specs.Expressions.{Boolean}
use Rattle.alf.specs.Values.{state_at}
use Rattle.alf.specs.declared.Answer.{Answer}
use Rattle.alf.specs.Windows.{numbered}
use Rattle.alf.specs.Answers.{number_of}
use Rattle.alf.specs.Alternatives.{Test, at_row}
use Rattle.alternatives.specs.InMemory.{cut, tests_of, sum, alternative_in, alternatives_in, alternatives_of_lem}
use Rattle.matcher.specs.Answers.{AlternativeAsked, RowAsked, Matches}
use Rattle.alternatives.proofs.Cuts.{cut_none, cut_next, cut_drop, tests_length, sum_next, sum_part_drop}
use Rattle.matcher.proofs.Matching.{Trying, trying_first, trying_more, trying_yes, trying_end}

pub record Walking (st : Boolean → ℕ → ℕ) (steps tests : List ℕ) (all : List Test) (row b s t k : ℕ)
    : Type 0 where
  pub within : k ≤ length steps
  pub steps_room : s + sum (drop k steps) ≤ length tests
  pub tests_room : t + sum (drop s tests) ≤ length all
  pub trying : Trying st row (cut steps (cut tests all)) (alternatives_in steps tests all k s t) k b

-- alternative k apart
pub alternatives_next : (steps tests : List ℕ) (all : List Test) (k s t : ℕ) → k < length steps
    → alternatives_in steps tests all k s t
    ≡ alternative_in tests all s t (get_or steps k 0)
    ∷ alternatives_in steps tests all (k + 1) (s + get_or steps k 0) (t + sum (take (get_or steps k 0) (drop s tests)))
alternatives_next steps tests all k s t h = rw (cut_next steps _ k h, cut_drop, drop-drop, drop-drop) refl

module _ {tree : List ℕ} {names : ℕ} {states steps tests edges operands : List ℕ} {row : ℕ}
    (asked : RowAsked tree names states steps tests edges operands row) where
  abbrev all : List Test
  all = tests_of tree names edges operands

  abbrev st : Rules → Boolean → ℕ → ℕ
  st ρ = state_at ρ names states

  whole : length all ≡ length edges
  whole = tests_length tree names edges operands asked.shape.known.enough

  pub walking_first : (ρ : Rules) → Walking (st ρ) steps tests all row 0 0 0 0
  walking_first ρ =
      record {
        within = omega arith;
        steps_room = omega (arith, asked.shape.enough_steps);
        tests_room = omega (arith, asked.shape.enough_tests, whole);
        trying = trying_first (st ρ) row (cut steps (cut tests all));
      }

  module _ (ρ : Rules) {b s t k : ℕ} (g : Walking (st ρ) steps tests all row b s t k) where
    module _ (h : k < length steps) where
      fits : s + get_or steps k 0 ≤ length tests
      fits = omega (arith, sum_next steps k h, g.steps_room)

      pub alternative_asked : AlternativeAsked tree names states tests edges operands s (get_or steps k 0) t row
      alternative_asked =
          record {
            known = asked.shape.known;
            there = fits;
            tested = omega (arith, g.tests_room, whole);
            rows = asked.rows;
          }

      pub walking_yes : 0 < row → at_row (st ρ) row (alternative_in tests all s t (get_or steps k 0)) ≡ 2
          → Matches (st ρ) (alternatives_of_lem tree names steps tests edges operands) row Yes (k + 1)
      unfolding alternatives_of_lem
      walking_yes l e = trying_yes (st ρ) row _ (rw (alternatives_next steps tests all k s t h) at g.trying) l e

      pub walking_next : (r : ℕ) → r ≡ at_row (st ρ) row (alternative_in tests all s t (get_or steps k 0))
          → (r ≡ 2 → ⊥)
          → Walking (st ρ) steps tests all row (max b r) (s + get_or steps k 0)
          (t + sum (take (get_or steps k 0) (drop s tests))) (k + 1)
      walking_next r e n =
          let before = rw (alternatives_next steps tests all k s t h) at g.trying in
          record {
            within = omega arith;
            steps_room = omega (arith, sum_next steps k h, g.steps_room);
            tests_room = omega (arith, sum_part_drop tests s (get_or steps k 0), g.tests_room);
            trying =
                rw e (trying_more (st ρ) row _ before (λ z. n (e ∙ z)));
          }

    pub walking_end : {a : Answer} → length steps ≤ k → 0 < row → number_of a ≡ numbered b
        → Matches (st ρ) (alternatives_of_lem tree names steps tests edges operands) row a k
    unfolding alternatives_of_lem
    walking_end h l n = trying_end (st ρ) row _ (rw (drop_of_length-le steps h, cut_none) at g.trying) l n
