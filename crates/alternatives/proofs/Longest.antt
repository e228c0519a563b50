-- K, the steps of the longest of the alternatives that lists stand for, is the greatest entry of `steps`.
--   longest_is        the greatest entry is the steps of the longest
--   longest_within    no alternative is longer
use mathlib.Core.Path.{◌≡◌, refl, sym}
use mathlib.Core.List.{List, [], ◌∷◌}
use Prim.Native.Nat.{ℕ, ◌≤◌}
use native.Mathlib.Omega.{arith}
use lib.ListN.{length, drop, length-drop}
use lib.Seq.{length-take-le}
use Rattle.basics.specs.Words.{greatest_of, sum_of}
use Rattle.alf.specs.Alternatives.{Alternative}
use Rattle.basics.proofs.AllEntries.{All, none, more, all_weaken}
use Rattle.alternatives.specs.InMemory.{cut, sum, Shape, tests_of, alternatives_of_lem}
use Rattle.alternatives.proofs.Cuts.{cut_length}
use Rattle.alternatives.specs.InMemory.{longest_of}

pieces : {A : Type 0} (ns : List ℕ) (ys : List A) → sum ns ≤ length ys
    → greatest_of length (cut ns ys) ≡ greatest_of (λ n. n) ns
unfolding greatest_of cut sum sum_of
pieces [] ys h = refl
pieces (n ∷ ns) ys h =
    let e = length-take-le n ys (omega arith) in
    let f = pieces ns (drop n ys) (omega (arith, length-drop n ys)) in
    omega arith

pub longest_is : {tree : List ℕ} {names : ℕ} {steps tests edges operands : List ℕ}
    → Shape tree names steps tests edges operands
    → greatest_of (λ n. n) steps ≡ longest_of (alternatives_of_lem tree names steps tests edges operands)
unfolding alternatives_of_lem
longest_is {tree} {names} {steps} {tests} {edges} {operands} s =
    let e = cut_length tests (tests_of tree names edges operands) in
    sym (pieces steps (cut tests (tests_of tree names edges operands)) (omega (arith, s.enough_steps)))

pub longest_within : (xs : List Alternative) → All (λ x. length x ≤ longest_of xs) xs
unfolding greatest_of
longest_within [] = none
longest_within (x ∷ xs) = more {x = x} (omega arith) (all_weaken (λ y h. omega arith) (longest_within xs))
