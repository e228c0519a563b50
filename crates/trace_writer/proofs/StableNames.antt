-- What cannot fail holds, of names in slots. Main name: slot_stable.
use mathlib.Core.Path.{◌≡◌, refl, ap}
use mathlib.Core.List.{List, [], ◌∷◌}
use Prim.Native.Nat.{ℕ}
use native.Mathlib.Omega.{arith}
use lib.ListN.{get_or, drop}
use Rattle.basics.proofs.Stable.{eq_stable, true_stable}
use Rattle.alf.specs.Names.{is_name, name_at, slot, slot_of, GoodSlot}

list_stable : (xs ys : List ℕ) → ((xs ≡ ys → ⊥) → ⊥) → xs ≡ ys
list_stable [] [] n = refl
list_stable [] (y ∷ ys) n = absurd (n (λ e. let z : ◌≡◌ {A = ℕ} 0 1 = cc in omega arith))
list_stable (x ∷ xs) [] n = absurd (n (λ e. let z : ◌≡◌ {A = ℕ} 0 1 = cc in omega arith))
list_stable (x ∷ xs) (y ∷ ys) n =
    let e : x ≡ y = eq_stable x y (λ m. n (λ p. m (ap (λ (l : List ℕ). get_or l 0 0) p))) in
    let f : xs ≡ ys = list_stable xs ys (λ m. n (λ p. m (ap (drop 1) p))) in
    cc

pub slot_stable : (names : List ℕ) (k : ℕ) → ((GoodSlot names k → ⊥) → ⊥) → GoodSlot names k
slot_stable names k n =
    record {
      named = true_stable (is_name (name_at names k)) (λ m. n (λ g. m g.named));
      filled = list_stable (slot names k) (slot_of (name_at names k)) (λ m. n (λ g. m g.filled));
      new = λ j l e. n (λ g. g.new j l e);
    }
