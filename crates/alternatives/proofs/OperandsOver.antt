-- The operands of alternatives in lists are expressions over the names: whatever stands on a tree's stack is.
--   ends_over      the boolean expression that ends at a place is over the names
--   lists_ask      so are the operands of the alternatives that lists stand for
use mathlib.Core.Path.{◌≡◌}
use mathlib.Core.Bool.{true}
use mathlib.Core.List.{List, [], ◌∷◌}
use Prim.Native.Nat.{ℕ, zero, suc, ◌<◌}
use native.Mathlib.Omega.{arith}
use lib.ListN.{length, get_or, take, drop}
use Rattle.alf.specs.Expressions.{boolean, vector, Over, ExpressionOver}
use Rattle.alf.specs.Decoder.{Stack, empty, broken, push, is_boolean, top_boolean, stack_at}
use Rattle.basics.proofs.Bools.{never}
use Rattle.basics.proofs.AllEntries.{All, none, more}
use Rattle.alf.proofs.Conditions.{AsksTest, Asks}
use Rattle.alf.proofs.Stacks.{AllOver, stack_over}
use Rattle.trees.specs.Parts.{EndsBoolean, boolean_at}
use Rattle.alternatives.specs.InMemory.{cut, test_of, tests_of, Tests, alternatives_of_lem}

top_over : (names : ℕ) (s : Stack) → is_boolean s ≡ true → AllOver names s → Over names (top_boolean s)
unfolding is_boolean top_boolean AllOver ExpressionOver
top_over names empty h o = never h
top_over names broken h o = never h
top_over names (push (boolean c) s) h o = o.0
top_over names (push (vector p) s) h o = never h

pub ends_over : {t : List ℕ} {names end : ℕ} → EndsBoolean t names end → Over names (boolean_at t names end)
ends_over {t} {names} {end} e = top_over names (stack_at t names end) e.whole (stack_over t names end)

module _ {A : Type 0} {P : A → Type 0} where
  all_take : (n : ℕ) {xs : List A} → All P xs → All P (take n xs)
  all_take zero s = none
  all_take (suc n) none = none
  all_take (suc n) (more h s) = more h (all_take n s)

  all_drop : (n : ℕ) {xs : List A} → All P xs → All P (drop n xs)
  all_drop zero s = s
  all_drop (suc n) none = none
  all_drop (suc n) (more h s) = all_drop n s

  all_cut : (ns : List ℕ) {xs : List A} → All P xs → All (All P) (cut ns xs)
  unfolding cut
  all_cut [] s = none
  all_cut (n ∷ ns) s = more (all_take n s) (all_cut ns (all_drop n s))

tests_ask : (tree : List ℕ) (names : ℕ) (edges operands : List ℕ)
    → ((k : ℕ) → k < length edges → EndsBoolean tree names (get_or operands k 0))
    → All (AsksTest (Over names)) (tests_of tree names edges operands)
unfolding tests_of
tests_ask tree names [] ends h = none
tests_ask tree names (k ∷ edges) [] h = none
tests_ask tree names (k ∷ edges) (e ∷ ends) h =
    more {x = test_of tree names k e} (ends_over (h zero (omega arith)))
    (tests_ask tree names edges ends (λ i l. h (suc i) (omega arith)))

pub lists_ask : {tree : List ℕ} {names : ℕ} {edges operands : List ℕ} (steps tests : List ℕ)
    → Tests tree names edges operands
    → All (Asks (Over names)) (alternatives_of_lem tree names steps tests edges operands)
unfolding alternatives_of_lem
lists_ask {tree} {names} {edges} {operands} steps tests t =
    all_cut steps (all_cut tests (tests_ask tree names edges operands t.boolean))
