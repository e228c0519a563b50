-- Orders of calls over trees: where 10 is not given, it may go.
--   passed_without_ten, refused_without_ten
use Prim.Native.Nat.{ℕ}
use mathlib.Core.Logic.{inl, inr}
use mathlib.Core.List.{◌∷◌}
use Rattle.basics.specs.declared.Refusal.{Refusal}
use Rattle.alf.specs.Refusals.{Order, check, bad_lists, RefusedWith, RefusedBy, Passed}
use Rattle.judging.specs.Orders.{order}

-- 18, 10 and what comes then, where what 10 asks for is good
module _ (P Q : Type 0) (rest : Order) (good : Q) where
  pub passed_without_ten : Passed (order P Q rest) → Passed (check 18 (bad_lists P) ∷ rest)
  unfolding Passed
  passed_without_ten (a, (b, c)) = (a, c)

  without_ten : (n p : ℕ) → RefusedWith (order P Q rest) n p → RefusedWith (check 18 (bad_lists P) ∷ rest) n p
  unfolding RefusedWith
  without_ten n p (inl x) = inl x
  without_ten n p (inr (m, inl x)) = absurd (x.1.given good)
  without_ten n p (inr (m, inr (l, x))) = inr (m, x)

  pub refused_without_ten : {r : Refusal} → RefusedBy (order P Q rest) r → RefusedBy (check 18 (bad_lists P) ∷ rest) r
  refused_without_ten h = record { by = without_ten _ _ h.by; bare = h.bare }
