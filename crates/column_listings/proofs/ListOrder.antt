-- The refusals of a listing of values in their order.
--   listable                  values that pass 18 and 15
--   refused_18, refused_15    the first two
--   listed                    where both are passed, what is left
use Rattle.std.specs.Prelude.{Err, Ok}
use Prim.Native.Nat.{ℕ, ◌<◌, ◌≤◌}
use native.Mathlib.Omega.{arith}
use mathlib.Core.Path.{◌≡◌, refl}
use mathlib.Core.Logic.{inl, inr}
use mathlib.Core.List.{List}
use lib.ListN.{length}
use Rattle.basics.specs.Refusing.{Outcome}
use Rattle.basics.specs.Refusing.{refusal}
use Rattle.basics.specs.Memory.{after}
use Rattle.alf.specs.Refusals.{RefusedWith, Passed, Comes}
use Rattle.states.specs.FirstBadCode.{FirstBad}
use Rattle.states.proofs.BadCodes.{bad_given}
use Rattle.figures.specs.Delivering.{line_order, Delivers}
use Rattle.listing.specs.Listing.{values_listing}
use Rattle.column_listings.specs.Calls.{list_order, ValuesText}
use Rattle.listing.specs.Listing.{Lists}
use Rattle.listing.specs.Inner.{Listable}

-- values that pass 18 and 15
pub listable : {bad : ℕ} {times values : List ℕ} → Lists (length times) (length values) → FirstBad values bad
    → length values ≤ bad
    → Listable 7 times values
listable l c h = record { lists = l; good = λ i k. omega (arith, c.before i (omega arith)) }

-- 18, 15, or what is left
module _ {times values : List ℕ} where
  pub refused_18 : {out : List ℕ} {r : Outcome} → (Lists (length times) (length values) → ⊥)
      → r ≡ Err (refusal 18 0) → ValuesText times values out out r
  unfolding Comes RefusedWith after
  refused_18 h e =
      rw e
      (record {
        outcome = record { by = inl (refl, record { given = h; there = refl }); bare = refl };
        memory = refl;
      })

  pub refused_15 : {out : List ℕ} {bad : ℕ} {r : Outcome} → Lists (length times) (length values)
      → FirstBad values bad
      → bad < length values
      → r ≡ Err (refusal 15 bad)
      → ValuesText times values out out r
  unfolding Comes RefusedWith after
  refused_15 l c h e =
      rw e
      (record {
        outcome = record { by = inr (λ p a. a.given l, inl (refl, bad_given c h)); bare = refl };
        memory = refl;
      })

-- once 18 and 15 are passed
module _ (times values : List ℕ) (g : Listable 7 times values) where
  comes : (room : ℕ) (o : Outcome)
      → Comes (line_order (values_listing times values) room) (λ k. k ≡ length (values_listing times values)) o
      → Comes (list_order times values room) (λ k. k ≡ length (values_listing times values)) o
  unfolding Comes RefusedWith Passed
  comes room (Ok k) x = (
    (λ p a. a.given g.lists, (λ p a. omega (arith, g.good p a.given.0, a.given.1), x.0)),
    x.1,
  )
  comes room (Err q) x =
      record {
        by = inr (λ p a. a.given g.lists, inr (λ p a. omega (arith, g.good p a.given.0, a.given.1), x.by));
        bare = x.bare;
      }

pub listed : {times values out out' : List ℕ} {r : Outcome} → Listable 7 times values
    → Delivers (values_listing times values) out out' r
    → ValuesText times values out out' r
listed {times} {values} {out} {r = r} g d =
    record { outcome = comes times values g (length out) r d.outcome; memory = d.memory }
