-- What `changes_at` returns, case by case: 18, 15, 19, or the changes of the row.
-- Main names: inside, refused_18, refused_15, refused_19, changed_row.
use Rattle.std.specs.Prelude.{Err, Ok}
use mathlib.Core.Path.{◌≡◌, refl}
use mathlib.Core.List.{List}
use mathlib.Core.Logic.{inl, inr}
use Prim.Native.Nat.{ℕ, suc, ◌*◌, ◌<◌, ◌≤◌}
use native.Mathlib.Nat.{suc-mul, mul-le-mul_right}
use native.Mathlib.Omega.{arith}
use lib.ListN.{length}
use Rattle.basics.specs.Refusing.{refusal}
use Rattle.alf.specs.Refusals.{RefusedWith, Passed, bad_code}
use Rattle.alf.proofs.Orders.{plainly}
use Rattle.states.specs.declared.changes.Changes.{Changes}
use Rattle.states.specs.FirstBadCode.{FirstBad}
use Rattle.states.proofs.BadCodes.{bad_given, bad_never}
use Rattle.changes.specs.Call.{RowChanges}
use Rattle.changes.specs.Call.{Lists, Inside, RowSet, RowChanged}

module _ (names n : ℕ) (states : List ℕ) (row : ℕ) where
  abbrev Result : RowChanges → Type 0
  Result r = RowChanged names n states row r

  pub refused_18 : {r : RowChanges} → (Lists names n (length states) → ⊥)
      → r ≡ Err (refusal 18 0) → Result r
  unfolding RowChanged RefusedWith
  refused_18 h e = rw e (plainly _ 18 0 (inl (refl, record { given = h; there = refl })))

  module _ (l : Lists names n (length states)) where
    pub inside : row < n → Inside names states row
    inside h =
        let m : suc row * names ≤ n * names = mul-le-mul_right names h in
        record {
          name_count_lem = l.name_count_lem;
          few = omega (arith, l.row_count.1);
          room = omega (arith, suc-mul row names, l.all);
        }

    module _ {bad : ℕ} (c : FirstBad states bad) where
      pub refused_15 : {r : RowChanges} → bad < length states → r ≡ Err (refusal 15 bad) → Result r
      unfolding RowChanged RefusedWith
      refused_15 h e =
          rw e
          (plainly _ 15 bad
          (inr (
            λ p a. a.given l,
            inl (refl, bad_given c h),
          )))

      -- no code is above 7
      none_bad : length states ≤ bad → (p : ℕ) → bad_code states p → ⊥
      none_bad h = bad_never c (omega (arith, c.within))

      pub refused_19 : {r : RowChanges} → length states ≤ bad → n ≤ row → r ≡ Err (refusal 19 0)
          → Result r
      unfolding RowChanged RefusedWith
      refused_19 h k e =
          rw e
          (plainly _ 19 0
          (inr (
            λ p a. a.given l,
            inr (
              none_bad h,
              inl (refl, record { given = k; there = refl }),
            ),
          )))

      pub changed_row : (m : Changes) → length states ≤ bad → row < n
          → RowSet names states row m.mask m.many → Result (Ok m)
      unfolding RowChanged Passed
      changed_row m h k s = (
        (λ p a. a.given l, (none_bad h, (λ p a. omega (arith, a.given), tt))),
        s,
      )
