-- The number of alternatives tried is the first yes' position, counted from 1, or the list's length.
--   tried_first     no yes before it: its position
--   tried_all       no yes at all: the length
--   tries_zero      at row 0 it is 0
use mathlib.Core.Path.{◌≡◌, refl}
use mathlib.Core.List.{List, [], ◌∷◌, ◌++◌}
use Prim.Native.Nat.{ℕ, ◌+◌}
use native.Mathlib.Omega.{arith}
use lib.ListN.{length}
use borrow.Author.Tests.{ne_eqb}
use Rattle.alf.specs.Expressions.{Boolean}
use Rattle.alf.specs.Windows.{YES}
use Rattle.alf.specs.Alternatives.{Alternative, tried, tries}
use Rattle.basics.proofs.AllEntries.{All, none, more}

abbrev NoYes : List ℕ → Type 0
NoYes = All (λ r. r ≡ YES → ⊥)

pub tried_first : (front back : List ℕ) → NoYes front → tried (front ++ (YES ∷ back)) ≡ length front + 1
unfolding tried
tried_first [] back none = refl
tried_first (r ∷ front) back (more n s) = let e = tried_first front back s in rw (ne_eqb r YES n) (omega arith)

pub tried_all : (rs : List ℕ) → NoYes rs → tried rs ≡ length rs
unfolding tried
tried_all [] none = refl
tried_all (r ∷ rs) (more n s) = let e = tried_all rs s in rw (ne_eqb r YES n) (omega arith)

pub tries_zero : (st : Boolean → ℕ → ℕ) (xs : List Alternative) → tries st xs 0 ≡ 0
unfolding tries
tries_zero st xs = refl
