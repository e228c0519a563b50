-- Any two results that the contract of `changes_at` allows coincide. Main name: changes_unique.
use Rattle.std.specs.Prelude.{Err, Ok}
use mathlib.Core.Path.{◌≡◌, sym, ap, ◌∙◌}
use mathlib.Core.List.{List}
use Prim.Native.Nat.{ℕ}
use Rattle.alf.proofs.Outcomes.{AllFixed, at_fixed, first_fixed, refused_passed, refused_by_unique}
use Rattle.changes.specs.Call.{RowChanges}
use Rattle.changes.specs.Call.{order, RowChanged}

order_fixed : (names n : ℕ) (states : List ℕ) (row : ℕ) → AllFixed (order names n states row)
order_fixed names n states row = (at_fixed _ _, (first_fixed _, (at_fixed _ _, tt)))

pub changes_unique : (names n : ℕ) (states : List ℕ) (row : ℕ) (a b : RowChanges)
    → RowChanged names n states row a → RowChanged names n states row b → a ≡ b
unfolding RowChanged
changes_unique names n states row (Ok c) (Ok d) x y =
    let p = x.1.changed ∙ sym y.1.changed in
    let q = x.1.number ∙ sym y.1.number in
    λ i. Ok (record { mask = p i; many = q i })
changes_unique names n states row (Ok c) (Err s) x y =
    absurd (refused_passed (order names n states row) _ _ x.0 y.by)
changes_unique names n states row (Err r) (Ok d) x y =
    absurd (refused_passed (order names n states row) _ _ y.0 x.by)
changes_unique names n states row (Err r) (Err s) x y =
    ap Err (refused_by_unique (order names n states row) (order_fixed names n states row) x y)
