-- The vector expression that ends at a place, from its last byte: what it is, and that its operands end where the code
-- looks for them.
-- Main names: vector_pos, right_ends, edge_is, before_is, before_ends, condition_is, join_is, ends_left.
use Prim.Native.Nat.{ℕ, ◌-◌, ◌<◌, ◌≤◌}
use native.Mathlib.Omega.{arith}
use mathlib.Core.Path.{◌≡◌, refl}
use mathlib.Core.Bool.{Bool, true, false}
use mathlib.Core.List.{List}
use lib.Dec.{eqb}
use lib.ListN.{get_or, length}
use borrow.Author.Tests.{eqb-true, eqb-false}
use Rattle.alf.specs.Expressions.{edge, join, while, on_right, on_left}
use Rattle.alf.specs.Decoder.{edge_at, join_at, is_boolean, is_vector, top_boolean, top_vector, under, stack_at}
use Rattle.alf.proofs.Made.{Made}
use Rattle.alf.proofs.Parts.{made_last}
use Rattle.alf.proofs.StackTops.{edge_top, join_top, condition_top, condition_before_top, vector_class}
use Rattle.trees.specs.Parts.{Ends, EndsBoolean, EndsVector, boolean_at, vector_at, Start}
use Rattle.trees.proofs.Starts.{of_boolean, of_vector, ends_pos}

-- an expression under another starts where that one ends
pub boolean_under : {t : List ℕ} {names end m : ℕ} → Start t names end m → end ≤ length t
    → is_boolean (under (stack_at t names end)) ≡ true → EndsBoolean t names m
boolean_under g l h = let p = g.before in record { within = omega arith; whole = rw g.left h }

pub vector_under : {t : List ℕ} {names end m : ℕ} → Start t names end m → end ≤ length t
    → is_vector (under (stack_at t names end)) ≡ true → EndsVector t names m
vector_under g l h = let p = g.before in record { within = omega arith; whole = rw g.left h }

-- P & c with P before m and c behind it; P j Q likewise; c & P
pub record Conditioned (t : List ℕ) (names end m : ℕ) : Type 0 where
  pub is : vector_at t names end ≡ while on_right (vector_at t names m) (boolean_at t names (end - 1))
  pub left : EndsVector t names m
  pub right : EndsBoolean t names (end - 1)

pub record Joined (t : List ℕ) (names end m : ℕ) : Type 0 where
  pub is : vector_at t names end
      ≡ join (join_at (get_or t (end - 1) 0 - 50)) (vector_at t names m) (vector_at t names (end - 1))
  pub left : EndsVector t names m
  pub right : EndsVector t names (end - 1)
  pub low : 50 ≤ get_or t (end - 1) 0
  pub high : get_or t (end - 1) 0 < 56

module _ (t : List ℕ) (names end : ℕ) (h : EndsVector t names end) where
  pub vector_pos : 0 < end
  vector_pos = ends_pos (of_vector h)

  byte : Made names (get_or t (end - 1) 0) (stack_at t names (end - 1)) (stack_at t names end)
  byte = made_last t names end vector_pos

  inside : end - 1 ≤ length t
  inside = omega (arith, h.within)

  pub edge_is : 64 ≤ get_or t (end - 1) 0
      → vector_at t names end ≡ edge (edge_at (get_or t (end - 1) 0 - 64)) (boolean_at t names (end - 1))
  edge_is k = (edge_top names _ byte h.whole k).is

  pub before_is : get_or t (end - 1) 0 ≡ 57
      → top_vector (stack_at t names end)
      ≡ while on_left (vector_at t names (end - 1)) (top_boolean (under (stack_at t names (end - 1))))
  before_is k = (condition_before_top names _ byte h.whole k).is

  pub before_ends : get_or t (end - 1) 0 ≡ 57 → EndsVector t names (end - 1)
  before_ends k = record { within = inside; whole = (condition_before_top names _ byte h.whole k).right }

  join_high : get_or t (end - 1) 0 < 64 → (get_or t (end - 1) 0 ≡ 56 → ⊥) → (get_or t (end - 1) 0 ≡ 57 → ⊥)
      → get_or t (end - 1) 0 < 56
  join_high k f g = let (l, u) = vector_class names _ byte h.whole k in omega arith

  pub right_ends : get_or t (end - 1) 0 < 64 → (get_or t (end - 1) 0 ≡ 57 → ⊥) → Ends t names (end - 1)
  right_ends k g = go (eqb (get_or t (end - 1) 0) 56) refl
    where
      go : (q : Bool) → eqb (get_or t (end - 1) 0) 56 ≡ q → Ends t names (end - 1)
      go true e =
          of_boolean (record { within = inside; whole = (condition_top names _ byte h.whole (eqb-true _ _ e)).right })
      go false e =
          of_vector (record {
            within = inside;
            whole = (join_top names _ byte h.whole (join_high k (eqb-false _ _ e) g)).right;
          })

  module _ {m : ℕ} (s : Start t names (end - 1) m) where
    pub condition_is : get_or t (end - 1) 0 ≡ 56 → Conditioned t names end m
    condition_is k =
        let c = condition_top names _ byte h.whole k in
        record {
          is = rw s.left c.is;
          left = vector_under s inside c.left;
          right = record { within = inside; whole = c.right };
        }

    pub join_is : get_or t (end - 1) 0 < 64 → (get_or t (end - 1) 0 ≡ 56 → ⊥)
        → (get_or t (end - 1) 0 ≡ 57 → ⊥)
        → Joined t names end m
    join_is k f g =
        let u = join_high k f g in
        let j = join_top names _ byte h.whole u in
        record {
          is = rw s.left j.is;
          left = vector_under s inside j.left;
          right = record { within = inside; whole = j.right };
          low = j.large;
          high = u;
        }

    pub ends_left : get_or t (end - 1) 0 < 64 → (get_or t (end - 1) 0 ≡ 57 → ⊥) → EndsVector t names m
    ends_left k g = go (eqb (get_or t (end - 1) 0) 56) refl
      where
        go : (q : Bool) → eqb (get_or t (end - 1) 0) 56 ≡ q → EndsVector t names m
        go true e = (condition_is (eqb-true _ _ e)).left
        go false e = (join_is k (eqb-false _ _ e) g).left
