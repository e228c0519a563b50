-- Demand 1, of a call: its result and the contents of the memory lent to it follow from the input, refused or not, and
-- refused, that memory is as it was. A call's contract is a relation: `allows` says which result (R) goes with which
-- memory at exit (M).
--   Promised            of a call that is lent memory to write to
--   One                 of a call that is lent none
--   Two, Three, Four    so many lists lent
use Rattle.std.specs.Prelude.{ℕ, ◌≡◌, List}
use Rattle.basics.specs.declared.Refusal.{Refusal}

pub record Promised {R M : Type 0} (refused : Refusal → R) (allows : R → M → Type 0) (before : M) : Type 0 where
  pub one : (a b : R) (m n : M) → allows a m → allows b n → (a ≡ b) × (m ≡ n)
  pub stays : (r : Refusal) (m : M) → allows (refused r) m → m ≡ before

abbrev pub One : {R : Type 0} → (R → Type 0) → Type 0
One {R} allows = (a b : R) → allows a → allows b → a ≡ b

abbrev pub Two : Type 0
Two = List ℕ × List ℕ

abbrev pub Three : Type 0
Three = List ℕ × List ℕ × List ℕ

abbrev pub Four : Type 0
Four = List ℕ × List ℕ × List ℕ × List ℕ
