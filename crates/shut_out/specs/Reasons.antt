-- Document 01: "Shut out by name: refusing everything (the table says 'exactly when')". Said of a call's contract:
-- it is a relation, `allows`, of results (R) and the memory at exit (M); `order` is the call's order of refusals.
--   Held         some row of the order holds somewhere
--   IsRefusal    a result is a refusal
--   ExactlyBy    good input is not refused; where a row holds, nothing but a refusal is allowed; it has the number and
--                the place of the first row that holds, and has written nothing
--   Exactly, ExactlyIn   of a call whose refusals show no bytes, and of one that reads a text
use Rattle.std.specs.Prelude.{ℕ, ◌⊎◌, ◌≡◌, List, [], ◌∷◌}
use Rattle.basics.specs.declared.Refusal.{Refusal}
use Rattle.alf.specs.Refusals.{Order, RefusedBy}
use Rattle.tokens.specs.Extents.{RefusedIn}

unfoldable pub Held : Order → Type 0
Held [] = ⊥
Held (c ∷ cs) = ((p : ℕ) × c.row p) ⊎ Held cs

abbrev pub IsRefusal : {R : Type 0} → (Refusal → R) → R → Type 0
IsRefusal refused x = (r : Refusal) × (x ≡ refused r)

-- `By` is which refusals the order gives
pub record ExactlyBy {R M : Type 0} (By : Refusal → Type 0) (good : Type 0) (order : Order) (refused : Refusal → R)
    (allows : R → M → Type 0) (before : M)
    : Type 0 where
  pub no_refusal : good → (r : Refusal) (m : M) → allows (refused r) m → ⊥
  pub no_acceptance : Held order → (x : R) (m : M) → allows x m → IsRefusal refused x
  pub no_other : (r : Refusal) → By r → (x : R) (m : M) → allows x m → (x ≡ refused r) × (m ≡ before)

abbrev pub Exactly : {R M : Type 0} → Type 0 → Order → (Refusal → R) → (R → M → Type 0) → M → Type 0
Exactly good order = ExactlyBy (RefusedBy order) good order

abbrev pub ExactlyIn : {R M : Type 0} → List ℕ → Type 0 → Order → (Refusal → R) → (R → M → Type 0) → M → Type 0
ExactlyIn text good order = ExactlyBy (RefusedIn text order) good order
