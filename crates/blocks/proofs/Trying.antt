-- Laws of all alternatives at the rows of a block, tried one after the other.
--   Trying, trying_first, -next, -end         at one row: the best answer and the number tried, with those to come
--   Walking, walking_first, -asked, -next, -end     at all rows of the block
use Rattle.std.specs.Prelude.{if◌then◌else◌}
use mathlib.Core.Path.{◌≡◌, refl, ◌∙◌}
use mathlib.Core.Bool.{Bool, true, false}
use mathlib.Core.List.{List, [], ◌∷◌, map}
use mathlib.Core.Logic.{◌⊎◌, inl, inr}
use Prim.Native.Nat.{ℕ, ◌+◌, ◌^◌, ◌<◌, ◌≤◌, max}
use native.Mathlib.Omega.{arith}
use borrow.Author.Tests.{eq-eqb, ne_eqb}
use lib.Dec.{eqb}
use lib.ListN.{length, get_or, drop, take, drop_of_length-le}
use Rattle.basics.specs.Words.{greatest_of}
use Rattle.basics.proofs.Bools.{equal?}
use Rattle.alf.specs.Expressions.{Boolean}
use Rattle.alf.specs.Alternatives.{Test, Alternative, at_row, best_of, tried}
use Rattle.alternatives.specs.InMemory.{cut, sum, alternatives_in, Passing}
use Rattle.alternatives.proofs.Cuts.{cut_none, sum_next, sum_part_drop}
use Rattle.state_columns.specs.Entries.{Over}
use Rattle.columns.proofs.Passing.{over_length, front_inside}
use Rattle.matcher.proofs.Walking.{alternatives_next}
use Rattle.blocks.specs.Meeting.{Holding, AlternativeAsked, AlternativeMet, TakeAsked, Taken}
use Rattle.blocks.specs.Meeting.{BlockAsked, BlockMatched}

-- the alternatives `rest` are still to be tried; the best answer so far is b, and c are tried: none more behind a yes
module _ (st : Boolean → ℕ → ℕ) (row : ℕ) (xs : List Alternative) where
  pub record Trying (rest : List Alternative) (b c : ℕ) : Type 0 where
    pub best : max b (greatest_of (at_row st row) rest) ≡ best_of st xs row
    pub count : c + (if eqb b 2 then 0 else tried (map (at_row st row) rest)) ≡ tried (map (at_row st row) xs)

  pub trying_first : Trying xs 0 0
  unfolding best_of
  trying_first = record { best = omega arith; count = omega arith }

  module _ {x : Alternative} {rest : List Alternative} {b c : ℕ} (before : Trying (x ∷ rest) b c) (small : b ≤ 2) where
    pub trying_next : (r : ℕ) → r ≡ at_row st row x → r ≤ 2
        → Trying rest (max b r) (c + (if eqb b 2 then 0 else 1))
    unfolding greatest_of tried
    trying_next r e k =
        let f = before.best in
        record { best = omega arith; count = go (equal? b 2) (equal? r 2) }
      where
        go : (b ≡ 2) ⊎ (b ≡ 2 → ⊥) → (r ≡ 2) ⊎ (r ≡ 2 → ⊥)
            → c + (if eqb b 2 then 0 else 1) + (if eqb (max b r) 2 then 0 else tried (map (at_row st row) rest))
            ≡ tried (map (at_row st row) xs)
        go (inl y) q =
            let i = rw (eq-eqb b 2 y) at before.count in
            rw (eq-eqb b 2 y, eq-eqb (max b r) 2 (omega arith)) (omega arith)
        go (inr y) (inl z) =
            let i = rw (ne_eqb b 2 y, ← e, eq-eqb r 2 z) at before.count in
            rw (ne_eqb b 2 y, eq-eqb (max b r) 2 (omega arith)) (omega arith)
        go (inr y) (inr z) =
            let i = rw (ne_eqb b 2 y, ← e, ne_eqb r 2 z) at before.count in
            rw (ne_eqb b 2 y, ne_eqb (max b r) 2 (λ w. less y z w)) (omega arith)
          where
            less : (b ≡ 2 → ⊥) → (r ≡ 2 → ⊥) → max b r ≡ 2 → ⊥
            less y z w = omega arith

  pub trying_end : {b c : ℕ} → Trying [] b c
      → (b ≡ best_of st xs row) × (c ≡ tried (map (at_row st row) xs))
  unfolding greatest_of tried
  trying_end {b} {c} g = (omega (arith, g.best), go (eqb b 2) g.count)
    where
      go : (y : Bool) → c + (if y then 0 else 0) ≡ tried (map (at_row st row) xs) → c ≡ tried (map (at_row st row) xs)
      go true e = omega arith
      go false e = omega arith

-- at all rows of a block: alternatives before k are tried, the steps of k start at s and its tests at t
pub record Walking (steps counts slots cols : List ℕ) (m : ℕ) (acc₀ best₀ tries₀ acc best tries : List ℕ)
    (s t k : ℕ) : Type 0 where
  pub within : k ≤ length steps
  pub steps_room : s + sum (drop k steps) ≤ length counts
  pub tests_room : t + sum (drop s counts) ≤ sum counts
  pub acc_long : length acc ≡ length acc₀
  pub best_long : length best ≡ length best₀
  pub tries_long : length tries ≡ length tries₀
  pub acc_room : m ≤ length acc
  pub best_room : m ≤ length best
  pub tries_room : m ≤ length tries
  pub small : (r : ℕ) → r < m → get_or best r 0 ≤ 2
  pub few : (r : ℕ) → r < m → get_or tries r 0 ≤ k
  pub is : (st : Boolean → ℕ → ℕ) (tests : List Test) (lo w : ℕ) → Holding st tests lo w slots cols
      → m + 15 ≤ w → sum counts ≤ length tests → (r : ℕ) → r < m
      → Trying st (lo + 16 + r) (cut steps (cut counts tests)) (alternatives_in steps counts tests k s t)
      (get_or best r 0) (get_or tries r 0)

one_small : (b : Bool) → (if b then 0 else 1) ≤ 1
one_small true = omega arith
one_small false = omega arith

module _ {steps counts slots cols : List ℕ} {m : ℕ} {acc₀ best₀ tries₀ : List ℕ}
    (asked : BlockAsked steps counts slots cols m acc₀ best₀ tries₀) where
  pub walking_first : Walking steps counts slots cols m acc₀ best₀ tries₀ acc₀ best₀ tries₀ 0 0 0
  walking_first =
      record {
        within = omega arith;
        steps_room = omega (arith, asked.enough_steps);
        tests_room = omega arith;
        acc_long = refl;
        best_long = refl;
        tries_long = refl;
        acc_room = asked.acc_room;
        best_room = asked.best_room;
        tries_room = asked.tries_room;
        small = λ r h. omega (arith, asked.best_blank.at r);
        few = λ r h. omega (arith, asked.tries_blank.at r);
        is = λ st tests lo w h i j r l.
            rw (asked.best_blank.at r, asked.tries_blank.at r) (trying_first st _ _);
      }

  module _ {acc best tries : List ℕ} {s t k : ℕ}
      (g : Walking steps counts slots cols m acc₀ best₀ tries₀ acc best tries s t k) where
    module _ (l : k < length steps) where
      abbrev n : ℕ
      n = get_or steps k 0

      fits : s + n ≤ length counts
      fits = omega (arith, sum_next steps k l, g.steps_room)

      pub alternative_asked : AlternativeAsked counts slots s n t cols m acc
      alternative_asked =
          record {
            there = fits;
            short = asked.short k l;
            tested = omega (arith, g.tests_room, asked.enough_tests);
            columns = λ j h. asked.columns j (omega (arith, g.tests_room));
            wide = asked.wide;
            room = g.acc_room;
          }

      pub passing : length slots < 2 ^ 64 → Passing counts s n t
      passing h =
          record {
            there = fits;
            room = omega (arith, g.tests_room, asked.enough_tests);
          }

      pub take_asked : {acc' : List ℕ} → AlternativeMet counts slots s n t cols m acc acc' → TakeAsked m acc' best tries
      take_asked met =
          record {
            room = omega (arith, met.long, g.acc_room);
            counted =
                record {
                  room = g.tries_room;
                  other = g.best_room;
                  small = λ i h. omega (arith, g.few i h, asked.few);
                };
          }

      module _ {acc' best' tries' : List ℕ} (met : AlternativeMet counts slots s n t cols m acc acc')
          (taken : Taken m acc' best tries best' tries') where
        abbrev join : Over best 0 m (λ i. max (get_or best i 0) (get_or acc' i 0)) best'
        join = taken.best_is

        abbrev try : Over tries 0 m (λ i. get_or tries i 0 + (if eqb (get_or best i 0) 2 then 0 else 1)) tries'
        try = taken.tries_is

        best_now : (r : ℕ) → r < m → get_or best' r 0 ≡ max (get_or best r 0) (get_or acc' r 0)
        best_now r h = front_inside join r h g.best_room

        tries_now : (r : ℕ) → r < m
            → get_or tries' r 0 ≡ get_or tries r 0 + (if eqb (get_or best r 0) 2 then 0 else 1)
        tries_now r h = front_inside try r h g.tries_room

        pub walking_next : {u : ℕ} → u ≡ t + sum (take n (drop s counts))
            → Walking steps counts slots cols m acc₀ best₀ tries₀ acc' best' tries' (s + n) u (k + 1)
        walking_next {u} e =
            record {
              within = omega arith;
              steps_room = omega (arith, sum_next steps k l, g.steps_room);
              tests_room = omega (arith, e, sum_part_drop counts s n, g.tests_room);
              acc_long = met.long ∙ g.acc_long;
              best_long = over_length join ∙ g.best_long;
              tries_long = over_length try ∙ g.tries_long;
              acc_room = omega (arith, met.long, g.acc_room);
              best_room = omega (arith, over_length join, g.best_room);
              tries_room = omega (arith, over_length try, g.tries_room);
              small = λ r h. let b = best_now r h in omega (arith, g.small r h, met.small r h);
              few = λ r h.
                  let b = tries_now r h in
                  omega (arith, g.few r h, one_small (eqb (get_or best r 0) 2));
              is = is;
            }
          where
            is : (st : Boolean → ℕ → ℕ) (tests : List Test) (lo w : ℕ) → Holding st tests lo w slots cols
                → m + 15 ≤ w → sum counts ≤ length tests → (r : ℕ) → r < m
                → Trying st (lo + 16 + r) (cut steps (cut counts tests))
                (alternatives_in steps counts tests (k + 1) (s + n) u) (get_or best' r 0) (get_or tries' r 0)
            is st tests lo w h i j r q =
                let a = met.is st tests lo w h i (omega (arith, g.tests_room)) r q in
                let b = rw (alternatives_next steps counts tests k s t l) at (g.is st tests lo w h i j r q) in
                rw (best_now r q, tries_now r q, e)
                (trying_next st (lo + 16 + r) _ b (g.small r q) (get_or acc' r 0) a (met.small r q))

    pub walking_end : length steps ≤ k → BlockMatched steps counts slots cols m best tries
    walking_end h = record {
      small = g.small;
      few = λ r l. omega (arith, g.few r l, g.within, asked.few);
      best_is = λ st x lo w a b c r l. (end st x lo w a b c r l).0;
      tries_is = λ st x lo w a b c r l. (end st x lo w a b c r l).1;
    }
      where
        end : (st : Boolean → ℕ → ℕ) (tests : List Test) (lo w : ℕ) → Holding st tests lo w slots cols
            → m + 15 ≤ w → sum counts ≤ length tests → (r : ℕ) → r < m
            → (get_or best r 0 ≡ best_of st (cut steps (cut counts tests)) (lo + 16 + r))
            × (get_or tries r 0 ≡ tried (map (at_row st (lo + 16 + r)) (cut steps (cut counts tests))))
        end st tests lo w a b c r l =
            trying_end st (lo + 16 + r) _
            (rw (drop_of_length-le steps h, cut_none) at (g.is st tests lo w a b c r l))
