-- The outcome of the check of a list of names: 18, 12 or done.
-- Main names: names_18, names_12, names_done.
use Rattle.std.specs.Prelude.{Err, Ok}
use mathlib.Core.Path.{refl}
use mathlib.Core.List.{List}
use mathlib.Core.Logic.{inl, inr}
use Prim.Native.Nat.{ℕ, ◌/◌, ◌<◌}
use lib.ListN.{length}
use Rattle.basics.specs.Refusing.{refusal}
use Rattle.alf.specs.Names.{GoodSlot}
use Rattle.alf.specs.Refusals.{Comes, RefusedWith, Passed}
use Rattle.names.specs.Check.{Slots, names_order}

module _ (names : List ℕ) (made : ℕ → Type 0) where
  pub names_18 : (Slots names → ⊥) → Comes (names_order names) made (Err (refusal 18 0))
  unfolding Comes RefusedWith
  names_18 bad = record { by = inl (refl, record { given = bad; there = refl }); bare = refl }

  module _ (slots : Slots names) where
    pub names_12 :
        (i : ℕ) →
        i < length names / 32 →
        ((j : ℕ) → j < i → GoodSlot names j) →
        (GoodSlot names i → ⊥) →
        Comes (names_order names) made (Err (refusal 12 i))
    unfolding Comes RefusedWith
    names_12 i l good bad =
        record {
          by =
              inr (
                (λ p r. r.given slots),
                inl (refl, record { given = (l, bad); before = λ j h b. b.1 (good j h) }),
              );
          bare = refl;
        }

    pub names_done :
        (k : ℕ) →
        made k →
        ((j : ℕ) → j < length names / 32 → GoodSlot names j) →
        Comes (names_order names) made (Ok k)
    unfolding Comes Passed
    names_done k m good =
        (((λ p r. r.given slots), ((λ p r. r.given.1 (good p r.given.0)), tt)), m)
