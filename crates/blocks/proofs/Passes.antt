-- Laws of passes over columns: what is known of the answers at each row of a block on the way.
--   Asking, asking_first, -asked, -next, -end         some tests of a step are met
--   Stepping, stepping_first, -asked, -next, -end     some steps of an alternative
use mathlib.Core.Path.{◌≡◌, refl, ◌∙◌}
use mathlib.Core.List.{List, []}
use Prim.Native.Nat.{ℕ, ◌+◌, ◌*◌, ◌-◌, ◌<◌, ◌≤◌, min}
use native.Mathlib.Nat.{add-zero}
use native.Mathlib.Omega.{arith}
use lib.ListN.{length, get_or, drop}
use Rattle.basics.specs.Words.{least_of}
use Rattle.alf.specs.Expressions.{Boolean}
use Rattle.alf.specs.Alternatives.{Test, test_at, step_at}
use Rattle.alternatives.specs.InMemory.{sum, step_in, test_of}
use Rattle.alternatives.proofs.Cuts.{part, part_first, part_next, part_last, sum_next}
use Rattle.state_columns.specs.Entries.{Over}
use Rattle.columns.specs.Passes.{PassFrom}
use Rattle.columns.proofs.Passing.{over_length, front_inside}
use Rattle.matcher.proofs.Matching as matching
use Rattle.blocks.specs.Meeting.{Holding, StepAsked, StepMet, AlternativeAsked, AlternativeMet}

-- of the q tests from t on the first i are met: with those that are left, each entry comes to the least of all
pub record Asking (slots : List ℕ) (t q : ℕ) (cols : List ℕ) (d m : ℕ) (acc₀ acc : List ℕ) (i : ℕ) : Type 0 where
  pub within : i ≤ q
  pub long : length acc ≡ length acc₀
  pub small : (r : ℕ) → r < m → get_or acc r 0 ≤ 2
  pub is : (st : Boolean → ℕ → ℕ) (tests : List Test) (lo n : ℕ) → Holding st tests lo n slots cols
      → d + m ≤ n → t + q ≤ length tests → (r : ℕ) → r < m
      → min (get_or acc r 0) (least_of (test_at st (lo + d + r)) (part tests t q i))
      ≡ min (get_or acc₀ r 0) (step_at st (step_in tests t q) (lo + d + r))

module _ {slots : List ℕ} {t q : ℕ} {cols : List ℕ} {d m : ℕ} {acc₀ : List ℕ}
    (asked : StepAsked slots t q cols d m acc₀) where
  pub asking_first : Asking slots t q cols d m acc₀ acc₀ 0
  unfolding step_at
  asking_first =
      record {
        within = omega arith;
        long = refl;
        small = asked.small;
        is = λ st tests lo n h w l r k. rw part_first refl;
      }

  module _ {acc : List ℕ} {i : ℕ} (g : Asking slots t q cols d m acc₀ acc i) where
    module _ (l : i < q) where
      -- the column of the next test
      pub column : get_or slots (t + i) 0 * 1040 + 1040 ≤ length cols
      column = asked.columns (t + i) (omega arith)

      pub pass_asked : PassFrom acc m cols (get_or slots (t + i) 0 * 1040 + d)
      pass_asked =
          record {
            room = omega (arith, asked.room, g.long);
            other = omega (arith, column, asked.wide);
          }

      pub asking_next : {acc' : List ℕ}
          → Over acc 0 m (λ r. min (get_or acc r 0) (get_or cols (get_or slots (t + i) 0 * 1040 + d + r) 0)) acc'
          → Asking slots t q cols d m acc₀ acc' (i + 1)
      unfolding least_of
      asking_next {acc'} o =
          record {
            within = omega arith;
            long = over_length o ∙ g.long;
            small = λ r h. let e = met r h in omega (arith, g.small r h);
            is = λ st tests lo n h w k r j. is st tests lo n h w k r j;
          }
        where
          met : (r : ℕ) → r < m
              → get_or acc' r 0 ≡ min (get_or acc r 0) (get_or cols (get_or slots (t + i) 0 * 1040 + d + r) 0)
          met r h = front_inside o r h (omega (arith, asked.room, g.long))

          is : (st : Boolean → ℕ → ℕ) (tests : List Test) (lo n : ℕ) → Holding st tests lo n slots cols
              → d + m ≤ n → t + q ≤ length tests → (r : ℕ) → r < m
              → min (get_or acc' r 0) (least_of (test_at st (lo + d + r)) (part tests t q (i + 1)))
              ≡ min (get_or acc₀ r 0) (step_at st (step_in tests t q) (lo + d + r))
          is st tests lo n h w k r j =
              let x = test_of [] 0 0 0 in
              let e : get_or slots (t + i) 0 * 1040 + (d + r) ≡ get_or slots (t + i) 0 * 1040 + d + r = omega arith in
              let f : lo + (d + r) ≡ lo + d + r = omega arith in
              let c = rw (e, f) at (h.at (t + i) (d + r) x (omega arith) (omega arith)) in
              let b = rw (part_next tests t q i x l (omega arith)) at (g.is st tests lo n h w k r j) in
              rw (met r j, c) (omega arith)

    pub asking_end : q ≤ i → StepMet slots t q cols d m acc₀ acc
    unfolding least_of
    asking_end h =
        record {
          long = g.long;
          small = g.small;
          is = λ st tests lo n a w k r j.
              let b = rw (part_last tests t q i h) at (g.is st tests lo n a w k r j) in
              omega (arith, g.small r j);
        }

-- of the n steps from s on the first j are met, and the tests of the next start at `at`
pub record Stepping (counts slots : List ℕ) (s n t : ℕ) (cols : List ℕ) (m : ℕ) (acc₀ acc : List ℕ) (at j : ℕ)
    : Type 0 where
  pub within : j ≤ n
  pub long : length acc ≡ length acc₀
  pub room : m ≤ length acc
  pub small : (r : ℕ) → r < m → get_or acc r 0 ≤ 2
  pub reach : at + sum (drop (s + j) counts) ≤ t + sum (drop s counts)
  pub is : (st : Boolean → ℕ → ℕ) (tests : List Test) (lo w : ℕ) → Holding st tests lo w slots cols
      → m + 15 ≤ w → t + sum (drop s counts) ≤ length tests → (r : ℕ) → r < m
      → matching.Stepping st counts tests s n t (lo + (16 - n) + r) (get_or acc r 0) at j

module _ {counts slots : List ℕ} {s n t : ℕ} {cols : List ℕ} {m : ℕ} {acc₀ : List ℕ}
    (asked : AlternativeAsked counts slots s n t cols m acc₀) where
  pub stepping_first : {acc : List ℕ} → Over acc₀ 0 m (λ r. 2) acc
      → Stepping counts slots s n t cols m acc acc t 0
  stepping_first {acc} o =
      record {
        within = omega arith;
        long = refl;
        room = omega (arith, over_length o, asked.room);
        small = λ r h. let e = front_inside o r h asked.room in omega arith;
        reach = rw add-zero (omega arith);
        is = λ st tests lo w h k l r j. rw (front_inside o r j asked.room) (matching.stepping_first l);
      }

  module _ {acc₁ acc : List ℕ} {at j : ℕ} (g : Stepping counts slots s n t cols m acc₁ acc at j) where
    module _ (l : j < n) where
      abbrev q : ℕ
      q = get_or counts (s + j) 0

      pub tests_reach : at + q ≤ t + sum (drop s counts)
      tests_reach = omega (arith, sum_next counts (s + j) (omega (arith, asked.there)), g.reach)

      pub step_asked : StepAsked slots at q cols (16 - n + j) m acc
      step_asked =
          record {
            there = omega (arith, tests_reach, asked.tested);
            columns = λ i h. asked.columns i (omega (arith, tests_reach));
            wide = omega (arith, asked.wide, asked.short);
            room = g.room;
            small = g.small;
          }

      pub stepping_next : {acc' : List ℕ} → StepMet slots at q cols (16 - n + j) m acc acc'
          → Stepping counts slots s n t cols m acc₁ acc' (at + q) (j + 1)
      stepping_next {acc'} o =
          let e : s + j + 1 ≡ s + (j + 1) = omega arith in
          record {
            within = omega arith;
            long = o.long ∙ g.long;
            room = omega (arith, o.long, g.room);
            small = o.small;
            reach = rw (← e) (omega (arith, sum_next counts (s + j) (omega (arith, asked.there)), g.reach));
            is = is;
          }
        where
          is : (st : Boolean → ℕ → ℕ) (tests : List Test) (lo w : ℕ) → Holding st tests lo w slots cols
              → m + 15 ≤ w → t + sum (drop s counts) ≤ length tests → (r : ℕ) → r < m
              → matching.Stepping st counts tests s n t (lo + (16 - n) + r) (get_or acc' r 0) (at + q) (j + 1)
          is st tests lo w h k i r b =
              let f : lo + (16 - n + j) + r ≡ lo + (16 - n) + r + j = omega arith in
              let wide : 16 - n + j + m ≤ w = omega (arith, asked.short) in
              let a = rw f at (o.is st tests lo w h wide (omega (arith, tests_reach)) r b) in
              rw a (matching.stepping_more (g.is st tests lo w h k i r b) l asked.there)

    pub stepping_end : Over acc₀ 0 m (λ r. 2) acc₁ → n ≤ j → AlternativeMet counts slots s n t cols m acc₀ acc
    stepping_end o h =
        record {
          long = g.long ∙ over_length o;
          small = g.small;
          is = λ st tests lo w a k l r i.
              matching.stepping_last (g.is st tests lo w a k l r i) h asked.there
              (omega (arith, asked.short)) (omega (arith, asked.short));
        }
