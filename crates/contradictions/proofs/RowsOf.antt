-- The rows of an alternative in memory: the literals asked of a name at each, one row after the other.
--   step_before, literals_at_lem              a row's literals, by the step that leads to it and the one that leads on
--   Rowing, rowing_first, -found, -next, -last     the rows passed
--   row_there, row_last                  what is asked of a row
use Prim.Native.Nat.{ℕ, zero, suc, ◌+◌, ◌<◌, ◌≤◌}
use native.Mathlib.Omega.{arith}
use native.Mathlib.Numerals.{add-one}
use mathlib.Core.Path.{◌≡◌, refl, ap, ap₂, sym, ◌∙◌}
use mathlib.Core.Bool.{Bool, true, false, not}
use mathlib.Core.List.{List, [], ◌∷◌, ◌++◌}
use lib.ListN.{length, get_or, take, drop, length-drop, get_or-eq_default}
use lib.Seq.{drop-drop, get_or-take, get_or-drop}
use Rattle.basics.specs.Words.{some, sum_of}
use Rattle.alf.specs.Alternatives.{Test, Step, Alternative, halves, first, second, literals_at, possible}
use Rattle.alternatives.specs.InMemory.{cut, tests_of, sum, step_in, alternative_in}
use Rattle.alternatives.proofs.Cuts.{sum_take, sum_next}
use Rattle.matcher.proofs.Matching.{alternative_length}
use Rattle.contradictions.specs.Possible.{row_literals, impossible, Row, Rows}
use Rattle.basics.proofs.Seeking.{some_none, some_step, some_next, some_found}

-- the step that leads to row j; none to row 0
unfoldable pub step_before : Alternative → ℕ → Step
step_before x zero = []
step_before x (suc j) = get_or x j []

pub literals_at_lem : (n : ℕ) (x : Alternative) (j : ℕ)
    → literals_at n x j ≡ second n (step_before x j) ++ first n (get_or x j [])
unfolding literals_at step_before halves
literals_at_lem n x zero = refl
literals_at_lem n x (suc j) = refl

-- piece j of a list that is cut
cut_piece : {A : Type 0} (ns : List ℕ) (xs : List A) (j : ℕ) → j < length ns
    → get_or (cut ns xs) j [] ≡ take (get_or ns j 0) (drop (sum (take j ns)) xs)
unfolding cut sum sum_of
cut_piece [] xs j l = absurd (omega arith)
cut_piece (n ∷ ns) xs zero l = refl
cut_piece (n ∷ ns) xs (suc j) l =
    cut_piece ns (drop n xs) j (omega arith)
    ∙ ap (take (get_or ns j 0)) (drop-drop (sum (take j ns)) n xs)

-- the tests of j steps and of one more
sum_step : (ns : List ℕ) (j : ℕ) → j < length ns → sum (take (j + 1) ns) ≡ sum (take j ns) + get_or ns j 0
sum_step ns j l = omega (arith, sum_take ns j, sum_take ns (j + 1), sum_next ns j l)

module _ (tests : List ℕ) (all : List Test) (s n t : ℕ) where
  abbrev x : Alternative
  x = alternative_in tests all s t n

  -- the rows before j have a possible state for the name; the tests that lead to row j are the `before` ones from `at`
  pub record Rowing (name at before j : ℕ) : Type 0 where
    pub within : j ≤ n
    pub none : some j (λ i. not (possible (literals_at name x i))) ≡ false
    pub place : at + before ≡ t + sum (take j (drop s tests))
    pub step : step_in all at before ≡ step_before x j

  pub rowing_first : (name : ℕ) → Rowing name t 0 0
  unfolding step_before sum sum_of
  rowing_first name = record { within = omega arith; none = some_none _; place = refl; step = refl }

  module _ (h : s + n ≤ length tests) where
    here : (j : ℕ) → j < n → j < length (drop s tests)
    here j l = omega (arith, length-drop s tests)

    alternative_step : (j : ℕ) → j < n
        → step_in all (t + sum (take j (drop s tests))) (get_or tests (s + j) 0) ≡ get_or x j []
    alternative_step j l =
        sym (get_or-take n (cut (drop s tests) (drop t all)) j [] l
        ∙ cut_piece (drop s tests) (drop t all) j (here j l)
        ∙ ap₂ take (get_or-drop s tests j 0) (drop-drop (sum (take j (drop s tests))) t all))

    module _ {name at before j : ℕ} (g : Rowing name at before j) where
      row_is : (many : ℕ) → step_in all (at + before) many ≡ get_or x j []
          → row_literals all at before many name ≡ literals_at name x j
      unfolding row_literals
      row_is many e = rw (g.step, e) (sym (literals_at_lem name x j))

      pub rowing_room : j < n → at + before + get_or tests (s + j) 0 ≤ t + sum (drop s tests)
      rowing_room l =
          let e = sum_step (drop s tests) j (here j l) in
          let d = sum_take (drop s tests) (j + 1) in
          omega (arith, g.place, get_or-drop s tests j 0)

      module _ (l : j < n) where
        this_step : step_in all (at + before) (get_or tests (s + j) 0) ≡ get_or x j []
        this_step = ap (λ (k : ℕ). step_in all k (get_or tests (s + j) 0)) g.place ∙ alternative_step j l

        this_row : {r : Bool} → r ≡ possible (row_literals all at before (get_or tests (s + j) 0) name)
            → r ≡ possible (literals_at name x j)
        this_row e = e ∙ ap possible (row_is _ this_step)

        pub rowing_found : {r : Bool} → r ≡ possible (row_literals all at before (get_or tests (s + j) 0) name)
            → not r ≡ true → true ≡ impossible x name
        unfolding impossible
        rowing_found e f =
            sym (some_found _ (length x + 1) j (omega (arith, alternative_length tests all s n t h))
            (ap not (sym (this_row e)) ∙ f))

        pub rowing_next : {r : Bool} → r ≡ possible (row_literals all at before (get_or tests (s + j) 0) name)
            → not r ≡ false → Rowing name (at + before) (get_or tests (s + j) 0) (j + 1)
        unfolding step_before
        rowing_next e f =
            record {
              within = omega arith;
              none = some_next _ j g.none (ap not (sym (this_row e)) ∙ f);
              place = omega (arith, g.place, sum_step (drop s tests) j (here j l), get_or-drop s tests j 0);
              step = rw add-one this_step;
            }

      pub rowing_last : {r : Bool} → n ≤ j → r ≡ possible (row_literals all at before 0 name)
          → not r ≡ impossible x name
      unfolding impossible
      rowing_last {r} l e =
          let k = alternative_length tests all s n t h in
          let d : length x ≡ j = omega (arith, g.within) in
          let last : [] ≡ get_or x j [] = sym (get_or-eq_default x [] (omega arith)) in
          ap not (e ∙ ap possible (row_is 0 last))
          ∙ sym (ap (λ (m : ℕ). some (m + 1) (λ i. not (possible (literals_at name x i)))) d
          ∙ some_step _ j g.none)

-- what is asked of a row, between two steps and behind the last one
module _ {tree : List ℕ} {names : ℕ} {tests edges operands : List ℕ} {s n t name at before j : ℕ}
    (h : Rows tree names tests edges operands s n t) (l : name < 32)
    (g : Rowing tests (tests_of tree names edges operands) s n t name at before j) where
  pub row_there : j < n → Row tree names edges operands at before (get_or tests (s + j) 0) name
  row_there k =
      record { known = h.known; there = omega (arith, rowing_room _ _ _ _ _ h.there g k, h.tested); a_name = l }

  pub row_last : Row tree names edges operands at before 0 name
  row_last =
      record {
        known = h.known;
        there = omega (arith, g.place, sum_take (drop s tests) j, h.tested);
        a_name = l;
      }
