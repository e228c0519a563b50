-- Lists in memory tell how many steps each of their alternatives has: cut_each, counted.
use Prim.Native.Nat.{ℕ, zero, suc, ◌<◌, ◌≤◌}
use native.Mathlib.Omega.{arith}
use mathlib.Core.Path.{◌≡◌, sym}
use mathlib.Core.List.{List, [], ◌∷◌}
use lib.ListN.{length, get_or, drop, length-drop}
use lib.Seq.{length-take-le}
use Rattle.alternatives.specs.InMemory.{cut, sum, Shape, tests_of, alternatives_of_lem}
use Rattle.alternatives.proofs.Cuts.{sum_cons, cut_length}
use Rattle.beginnings.proofs.ByTries.{Counted}

-- each piece of a list is as long as it is asked to be
pub cut_each : {A : Type 0} (ns : List ℕ) (xs : List A) → sum ns ≤ length xs → (k : ℕ) → k < length ns
    → length (get_or (cut ns xs) k []) ≡ get_or ns k 0
unfolding cut
cut_each [] xs h k l = absurd (omega arith)
cut_each (n ∷ ns) xs h zero l = length-take-le n xs (omega (arith, sum_cons n ns))
cut_each (n ∷ ns) xs h (suc k) l =
    cut_each ns (drop n xs) (omega (arith, sum_cons n ns, length-drop n xs)) k (omega arith)

pub counted : {tree : List ℕ} {names : ℕ} {steps tests edges operands : List ℕ}
    → Shape tree names steps tests edges operands
    → Counted (alternatives_of_lem tree names steps tests edges operands) steps
unfolding alternatives_of_lem
counted {tree} {names} {steps} {tests} {edges} {operands} s =
    let parts = cut tests (tests_of tree names edges operands) in
    record {
      long = sym (cut_length steps parts);
      each = λ k h.
          sym (cut_each steps parts
          (omega (arith, s.enough_steps, cut_length tests (tests_of tree names edges operands))) k
          (omega (arith, h, cut_length steps parts)));
    }
