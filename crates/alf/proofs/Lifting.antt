-- From one alternative with one alternative to all with all.
-- An operator on windows `Op` that answers on two alternatives as `f` of them does, and goes through the greater on
-- either
-- side, answers on two lists of alternatives as `each f` of them does.
-- Main names: win, most (what one, and a list, answers on windows), Steps (each has a step), Lifts, lift.
use mathlib.Core.Path.{◌≡◌, refl, ◌∙◌}
use mathlib.Core.List.{List, [], ◌∷◌, map}
use Prim.Native.Nat.{ℕ, ◌+◌, ◌<◌, max}
use native.Mathlib.Omega.{arith}
use lib.ListN.{length}
use borrow.Author.Tests.{eq-eqb, ne_eqb}
use Rattle.basics.specs.Words.{greatest_of}
use Rattle.alf.specs.Expressions.{Boolean}
use Rattle.alf.specs.Windows.{Window, either}
use Rattle.alf.specs.Alternatives.{Alternative, each, steps_from, on_window}
use Rattle.basics.proofs.AllEntries.{All, none, more}
use Rattle.basics.proofs.Extremes.{greatest_of_append}

-- every alternative of a list has a step
abbrev pub Steps : List Alternative → Type 0
Steps = All (λ x. 0 < length x)

module _ (st : Boolean → ℕ → ℕ) where
  -- what an alternative, and the greatest of some, answers on windows
  abbrev pub win : Alternative → Window
  win x = λ a b. on_window st a b x

  abbrev pub most : List Alternative → Window
  most xs = λ a b. greatest_of (on_window st a b) xs

  pub win_on : (x : Alternative) (a b : ℕ) → b ≡ a + length x → win x a b ≡ steps_from st x a
  unfolding on_window
  win_on x a b e = rw (eq-eqb b (a + length x) e) refl

  pub win_off : (x : Alternative) (a b : ℕ) → (b ≡ a + length x → ⊥) → win x a b ≡ 0
  unfolding on_window
  win_off x a b n = rw (ne_eqb b (a + length x) n) refl

  pub record Lifts (Op : Window → Window → Window) (f : Alternative → Alternative → Alternative) : Type 0 where
    pub same : (P P' Q Q' : Window) → ((a b : ℕ) → P a b ≡ P' a b)
        → ((a b : ℕ) → Q a b ≡ Q' a b)
        → (a b : ℕ) → Op P Q a b ≡ Op P' Q' a b
    pub left : (P P' Q : Window) (a b : ℕ) → Op (either P P') Q a b ≡ max (Op P Q a b) (Op P' Q a b)
    pub right : (P Q Q' : Window) (a b : ℕ) → Op P (either Q Q') a b ≡ max (Op P Q a b) (Op P Q' a b)
    pub no_left : (Q : Window) (a b : ℕ) → Op (λ c d. 0) Q a b ≡ 0
    pub no_right : (P : Window) (a b : ℕ) → Op P (λ c d. 0) a b ≡ 0
    pub one : (x y : Alternative) (a b : ℕ) → 0 < length x → 0 < length y
        → Op (win x) (win y) a b ≡ win (f x y) a b

  module _ {Op : Window → Window → Window} {f : Alternative → Alternative → Alternative} (L : Lifts Op f) where
    one_all : (x : Alternative) (ys : List Alternative) (a b : ℕ) → 0 < length x → Steps ys
        → Op (win x) (most ys) a b ≡ most (map (f x) ys) a b
    unfolding greatest_of either
    one_all x [] a b h none = L.no_right (win x) a b
    one_all x (y ∷ ys) a b h (more k s) =
        let e = L.right (win x) (win y) (most ys) a b in
        let g = L.one x y a b h k in
        let r = one_all x ys a b h s in
        omega arith

    all_all : (xs ys : List Alternative) (a b : ℕ) → Steps xs → Steps ys
        → Op (most xs) (most ys) a b ≡ most (each f xs ys) a b
    unfolding greatest_of either each
    all_all [] ys a b none t = L.no_left (most ys) a b
    all_all (x ∷ xs) ys a b (more h s) t =
        let e = L.left (win x) (most xs) (most ys) a b in
        let g = one_all x ys a b h t in
        let r = all_all xs ys a b s t in
        let m = greatest_of_append (on_window st a b) (map (f x) ys) (each f xs ys) in
        omega arith

    pub lift : (P Q : Window) (xs ys : List Alternative) → Steps xs → Steps ys
        → ((a b : ℕ) → P a b ≡ most xs a b) → ((a b : ℕ) → Q a b ≡ most ys a b)
        → (a b : ℕ) → Op P Q a b ≡ most (each f xs ys) a b
    lift P Q xs ys s t p q a b = L.same P (most xs) Q (most ys) p q a b ∙ all_all xs ys a b s t
