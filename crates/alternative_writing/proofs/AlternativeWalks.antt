-- The text of an alternative, from the lists.
--   AlternativeSoFar, alternative_first, -there, -asked, -next, -last      its steps, one by one
use Prim.Native.Nat.{ℕ, suc, ◌+◌, ◌-◌, ◌*◌, ◌<◌, ◌≤◌}
use native.Mathlib.Omega.{arith}
use native.Mathlib.Nat.{add-zero, sub-zero}
use mathlib.Core.Path.{◌≡◌, refl}
use mathlib.Core.List.{List, [], ◌∷◌, ◌++◌, map}
use lib.ListN.{length, get_or, take, drop}
use Rattle.alf.specs.Names.{names_in}
use Rattle.alf.specs.Alternatives.{Test}
use Rattle.alternatives.specs.InMemory.{cut, sum, step_in, alternative_in}
use Rattle.alternatives.proofs.Cuts.{cut_at, sum_next, tests_length}
use Rattle.basics.specs.Text.{bytes}
use Rattle.alternative_texts.specs.Texts.{step_text, alternative_text}
use Rattle.alternative_texts.specs.Inner.{Puts, lead}
use Rattle.alternative_writing.specs.Inner.{OneStep}
use Rattle.alternative_texts.specs.Inner.{all_tests}
use Rattle.alternative_writing.specs.Inner.{OneAlternative}
use Rattle.alternative_texts.proofs.Clipped.{Laying}
use Rattle.alternative_writing.proofs.Between.{rest, parts_start, parts_next, parts_end}

-- the steps of an alternative: of n from step s on, the first j are written, and the next test is u
pub record AlternativeSoFar (names tests : List ℕ) (all : List Test) (s n t : ℕ) (out₀ : List ℕ) (at u j : ℕ)
    (out : List ℕ) (p : ℕ) : Type 0 where
  pub within : j ≤ n
  pub room : u + sum (drop (s + j) tests) ≤ length all
  pub laying : Laying out₀ at (alternative_text names (alternative_in tests all s t n))
      (rest (bytes " -> ") j (map (step_text names) (take (n - j) (cut (drop (s + j) tests) (drop u all)))) ∷ []) out p
  pub low : p ≤ at + 1045249 * j

module _ {names tree tests edges operands : List ℕ} {s n t at : ℕ}
    (h : OneAlternative names tree tests edges operands s n t at) where
  abbrev whole : List Test
  whole = all_tests names tree edges operands

  as_many : length whole ≡ length edges
  as_many = tests_length tree (names_in names) edges operands h.tested.known.enough

  module _ {out₀ : List ℕ} where
    pub alternative_first : AlternativeSoFar names tests whole s n t out₀ at t 0 out₀ at
    unfolding alternative_text
    alternative_first =
        record {
          within = omega arith;
          room = rw add-zero (omega (arith, h.room, as_many));
          laying =
              rw (add-zero, sub-zero)
              (parts_start (step_text names) (bytes " -> ") (alternative_in tests whole s t n));
          low = omega arith;
        }

    module _ {u j : ℕ} {out : List ℕ} {p : ℕ}
        (g : AlternativeSoFar names tests whole s n t out₀ at u j out p) where
      pub alternative_there : j < n → s + j < length tests
      alternative_there l = omega (arith, h.there)

      module _ (l : j < n) (few : get_or tests (s + j) 0 ≤ 255) where
        next_sum : sum (drop (s + j) tests) ≡ get_or tests (s + j) 0 + sum (drop (s + (j + 1)) tests)
        next_sum =
            let e : s + j + 1 ≡ s + (j + 1) = omega arith in
            rw e at (sum_next tests (s + j) (alternative_there l))

        pub alternative_asked : OneStep names tree edges operands u (get_or tests (s + j) 0) (p + 4)
        alternative_asked =
            record {
              tested = h.tested;
              there = omega (arith, g.room, next_sum, as_many);
              few = few;
              low = omega (arith, h.low, g.low, h.few);
            }

        apart_step : take (n - j) (cut (drop (s + j) tests) (drop u whole))
            ≡ step_in whole u (get_or tests (s + j) 0)
            ∷ take (n - (j + 1)) (cut (drop (s + (j + 1)) tests) (drop (u + get_or tests (s + j) 0) whole))
        apart_step =
            let e : s + j + 1 ≡ s + (j + 1) = omega arith in
            let f : n - j ≡ suc (n - (j + 1)) = omega arith in
            rw (cut_at tests whole (s + j) u (alternative_there l), e, f) refl

        pub alternative_next : {out' : List ℕ} {q : ℕ}
            → Puts out p (lead (bytes " -> ") j ++ step_text names (step_in whole u (get_or tests (s + j) 0)))
            1045249 out' q
            → AlternativeSoFar names tests whole s n t out₀ at (u + get_or tests (s + j) 0) (j + 1) out' q
        alternative_next x =
            record {
              within = omega arith;
              room = omega (arith, g.room, next_sum);
              laying = parts_next (step_text names) (bytes " -> ") j g.laying apart_step x.put;
              low = omega (arith, g.low, x.few, x.put.next);
            }

      pub alternative_last : n ≤ j
          → Puts out₀ at (alternative_text names (alternative_in tests whole s t n)) 266538495 out p
      alternative_last l =
          let f : n - j ≡ 0 = omega arith in
          let z : take (n - j) (cut (drop (s + j) tests) (drop u whole)) ≡ [] = rw f refl in
          let e = parts_end (step_text names) (bytes " -> ") j g.laying z in
          record { put = e; few = omega (arith, e.next, g.low, g.within, h.few) }
