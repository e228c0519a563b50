-- Document 02, [2]: what filling leaves of the numbers of an expression, since it adds tests and nothing else
-- (SteadyPins.antt).
--   filled_number, filled_steps  the number of alternatives and K stay
--   filled_limit                 an expression over a limit of 8 is over one when filled
--   filled_contradictory         an alternative is contradictory where it was
use Rattle.std.specs.Prelude.{if◌then◌else◌}
use mathlib.Core.Path.{◌≡◌, refl, ap, sym}
use mathlib.Core.Bool.{true, not}
use mathlib.Core.List.{List, [], ◌∷◌, ◌++◌, map}
use Prim.Native.Nat.{ℕ, zero, suc, ◌+◌, ◌≤◌}
use native.Mathlib.Omega.{arith}
use lib.ListN.{length}
use Rattle.basics.specs.Words.{greatest_of, sum_of, some}
use Rattle.alf.specs.Expressions.{Half, pair, changes, stays, Vector}
use Rattle.alf.specs.Alternatives.{test, Step, Alternative, alternatives, is_name, halves, literals_at, possible}
use Rattle.alf.specs.Alternatives.{contradictory, number_of_alternatives, steps_of, tests, over_limit}
use Rattle.alf.specs.Steady.{filled}
use Rattle.alf.proofs.Growth.{limit_part}
use Rattle.steady_laws.proofs.SteadyPins.{Fills, done, keep, add, none, more, FillsEach, FillsAll, both_length}
use Rattle.steady_laws.proofs.SteadyPins.{filled_fills}

pub filled_number : (p : Vector) → number_of_alternatives (filled p) ≡ number_of_alternatives p
unfolding number_of_alternatives
filled_number p = sym (both_length (filled_fills p))

all_steps : {xs ys : List Alternative} → FillsAll xs ys → greatest_of length xs ≡ greatest_of length ys
unfolding greatest_of
all_steps none = refl
all_steps (more r s) = let e = both_length r in let d = all_steps s in omega arith

pub filled_steps : (p : Vector) → steps_of (filled p) ≡ steps_of p
unfolding steps_of
filled_steps p = sym (all_steps (filled_fills p))

-- the tests grow
step_tests : {s t : Step} → Fills s t → length s ≤ length t
step_tests done = omega arith
step_tests (keep f) = let e = step_tests f in omega arith
step_tests (add f) = let e = step_tests f in omega arith

each_tests : {x y : Alternative} → FillsEach x y → tests x ≤ tests y
unfolding tests sum_of
each_tests none = omega arith
each_tests (more r s) = let e = step_tests r in let d = each_tests s in omega arith

all_tests_lem : {xs ys : List Alternative} → FillsAll xs ys → greatest_of tests xs ≤ greatest_of tests ys
unfolding greatest_of
all_tests_lem none = omega arith
all_tests_lem (more r s) = let e = each_tests r in let d = all_tests_lem s in omega arith

-- "8 counts the added tests": what is refused as written is refused filled
pub filled_limit : (p : Vector) → over_limit (alternatives p) ≡ true → over_limit (alternatives (filled p)) ≡ true
filled_limit p =
    limit_part (alternatives p) (alternatives (filled p))
    (record {
      number = omega (arith, both_length (filled_fills p));
      steps = omega (arith, all_steps (filled_fills p));
      most = all_tests_lem (filled_fills p);
    })

-- contradictory: "`?!` and `?-` aside"
halves_same : (which : Half → Half → Half) (n : ℕ) {s t : Step} → Fills s t → halves which n s ≡ halves which n t
unfolding halves
halves_same which n done = refl
halves_same which n (keep {x = test (pair f g) c} r) =
    ap (λ (hs : List Half). (if is_name n c then which f g ∷ [] else []) ++ hs) (halves_same which n r)
halves_same which n (keep {x = test changes c} r) = halves_same which n r
halves_same which n (keep {x = test stays c} r) = halves_same which n r
halves_same which n (add r) = halves_same which n r

literals_same : (n : ℕ) {x y : Alternative} → FillsEach x y → (j : ℕ) → literals_at n x j ≡ literals_at n y j
unfolding literals_at halves
literals_same n none j = refl
literals_same n (more r s) zero = halves_same _ n r
literals_same n (more r s) (suc zero) =
    let e = halves_same (λ f t. t) n r in
    let d = literals_same n s zero in
    λ i. e i ++ d i
literals_same n (more r s) (suc (suc j)) = literals_same n s (suc j)

pub contradictory_same : (names : ℕ) {x y : Alternative} → FillsEach x y
    → contradictory names x ≡ contradictory names y
unfolding contradictory
contradictory_same names s =
    let l = both_length s in
    λ i. some names (λ n. some (l i + 1) (λ j. not (possible (literals_same n s j i))))

flags_same : (names : ℕ) {xs ys : List Alternative} → FillsAll xs ys
    → map (contradictory names) xs ≡ map (contradictory names) ys
flags_same names none = refl
flags_same names (more r s) =
    let e = contradictory_same names r in
    let d = flags_same names s in
    λ i. e i ∷ d i

-- the flags of all alternatives, in order
pub filled_contradictory : (names : ℕ) (p : Vector)
    → map (contradictory names) (alternatives (filled p)) ≡ map (contradictory names) (alternatives p)
filled_contradictory names p = sym (flags_same names (filled_fills p))
