-- An expression with its boolean operands at their places in a tree: the parts of `by_places`, without the tree.
--   size                     how many bytes an expression has
--   Placed                   of each operand at its place something holds, and the bytes fit
--   placed_fits, placed_map  a placed expression has no more bytes than there are; what follows of each operand
--   tree_placed              a tree's expression is placed
use Prim.Native.Nat.{ℕ, ◌+◌, ◌-◌, ◌≤◌}
use native.Mathlib.Omega.{arith}
use mathlib.Core.Path.{◌≡◌, refl, ap}
use mathlib.Core.List.{List, [], ◌∷◌, ◌++◌}
use lib.ListN.{length, get_or, length-append}
use Rattle.alf.specs.Expressions.{Boolean, Edge, Vector, edge, join, while, Join, on_right, on_left}
use Rattle.alf.specs.Bytes.{edge_number, join_byte, boolean_bytes, vector_bytes}
use Rattle.trees.specs.Parts.{EndsBoolean, EndsVector, vector_at, boolean_at, Start}
use Rattle.alf.specs.Decoder.{top_boolean, under, stack_at}
use Rattle.alf.proofs.Parts.{made_last}
use Rattle.alf.proofs.StackTops.{condition_before_top}
use Rattle.trees.proofs.Starts.{of_vector}
use Rattle.trees.proofs.Vectors.{Conditioned, Joined, vector_pos, edge_is, before_is, before_ends, boolean_under}
use Rattle.steady_pins.proofs.Starting.{vector_start, vector_fits, boolean_start}
use Rattle.steady_pins.proofs.StepParts.{operand_ends}
use Rattle.steady_pins.proofs.TreeInduction.{began, by_parts}

abbrev pub size : Vector → ℕ
size p = length (vector_bytes p)

abbrev pub width : Boolean → ℕ
width c = length (boolean_bytes c)

pub join_size : (j : Join) (p q : Vector) → size (join j p q) ≡ size p + size q + 1
unfolding vector_bytes
join_size j p q =
    let a = length-append (vector_bytes p) (vector_bytes q ++ (join_byte j ∷ [])) in
    let b = length-append (vector_bytes q) (join_byte j ∷ []) in omega arith

pub right_size : (p : Vector) (c : Boolean) → size (while on_right p c) ≡ size p + width c + 1
unfolding vector_bytes
right_size p c =
    let a = length-append (vector_bytes p) (boolean_bytes c ++ (56 ∷ [])) in
    let b = length-append (boolean_bytes c) (56 ∷ []) in omega arith

pub left_size : (p : Vector) (c : Boolean) → size (while on_left p c) ≡ size p + width c + 1
unfolding vector_bytes
left_size p c =
    let a = length-append (boolean_bytes c) (vector_bytes p ++ (57 ∷ [])) in
    let b = length-append (vector_bytes p) (57 ∷ []) in omega arith

pub edge_size : (e : Edge) (c : Boolean) → size (edge e c) ≡ width c + 1
unfolding vector_bytes
edge_size e c = let a = length-append (boolean_bytes c) ((64 + edge_number e) ∷ []) in omega arith

-- R holds of each operand of an edge at its place; the expression has no more bytes than there are before `end`
pub data Placed (R : ℕ → Boolean → Type 0) : ℕ → Vector → Type 0 where
  on_edge : {end : ℕ} {e : Edge} {c : Boolean} → R (end - 1) c → size (edge e c) ≤ end → Placed R end (edge e c)
  on_join : {end : ℕ} {j : Join} {p q : Vector} → Placed R (end - 1 - size q) p → Placed R (end - 1) q
      → size (join j p q) ≤ end → Placed R end (join j p q)
  behind : {end : ℕ} {p : Vector} {c : Boolean} → Placed R (end - 1 - width c) p → R (end - 1) c
      → size (while on_right p c) ≤ end → Placed R end (while on_right p c)
  ahead : {end : ℕ} {p : Vector} {c : Boolean} → Placed R (end - 1) p → R (end - 1 - size p) c
      → size (while on_left p c) ≤ end → Placed R end (while on_left p c)

pub placed_fits : {R : ℕ → Boolean → Type 0} {end : ℕ} {p : Vector} → Placed R end p → size p ≤ end
placed_fits (on_edge r l) = l
placed_fits (on_join a b l) = l
placed_fits (behind a r l) = l
placed_fits (ahead a r l) = l

-- what follows of each operand at its place
pub placed_map : {R S : ℕ → Boolean → Type 0} {end : ℕ} {p : Vector} → ((i : ℕ) (c : Boolean) → R i c → S i c)
    → Placed R end p → Placed S end p
placed_map f (on_edge r l) = on_edge (f _ _ r) l
placed_map f (on_join a b l) = on_join (placed_map f a) (placed_map f b) l
placed_map f (behind a r l) = behind (placed_map f a) (f _ _ r) l
placed_map f (ahead a r l) = ahead (placed_map f a) (f _ _ r) l

-- the expression of a tree: each operand ends at its place
pub record Operand (t : List ℕ) (names i : ℕ) (c : Boolean) : Type 0 where
  pub is : boolean_at t names i ≡ c
  pub ends : EndsBoolean t names i

module _ (t : List ℕ) (names : ℕ) where
  abbrev Stands : ℕ → Type 0
  Stands end = Placed (Operand t names) end (vector_at t names end)

  fits : (end : ℕ) → EndsVector t names end → size (vector_at t names end) ≤ end
  fits end h =
      let b = began t names end (of_vector h) in
      omega (arith, vector_fits t names end h b.start)

  edge_stands : (end : ℕ) → EndsVector t names end → 64 ≤ get_or t (end - 1) 0 → Stands end
  edge_stands end h k =
      let e = edge_is t names end h k in
      rw e (on_edge (record { is = refl; ends = operand_ends t names end h k }) (rw e at (fits end h)))

  before_stands : (end m : ℕ) → EndsVector t names end → get_or t (end - 1) 0 ≡ 57 → Start t names (end - 1) m
      → Stands (end - 1) → Stands end
  before_stands end m h k s r =
      let e = before_is t names end h k in
      let v = vector_start t names (end - 1) (before_ends t names end h k) s in
      let u = condition_before_top names _ (made_last t names end (vector_pos t names end h)) h.whole k in
      let o = boolean_under s (omega (arith, h.within)) u.left in
      rw e
      (ahead {c = top_boolean (under (stack_at t names (end - 1)))} r
      (rw v (record { is = ap top_boolean s.left; ends = o })) (rw e at (fits end h)))

  condition_stands : (end m : ℕ) → EndsVector t names end → Conditioned t names end m
      → Start t names (end - 1) m → Stands m → Stands end
  condition_stands end m h c s r =
      rw c.is
      (behind {end = end} {p = vector_at t names m} {c = boolean_at t names (end - 1)}
      (rw (boolean_start t names (end - 1) c.right s) r)
      (record { is = refl; ends = c.right })
      (rw c.is at (fits end h)))

  join_stands : (end m : ℕ) → EndsVector t names end → Joined t names end m → Start t names (end - 1) m
      → Stands m → Stands (end - 1) → Stands end
  join_stands end m h j s r q =
      rw j.is
      (on_join {end = end} {p = vector_at t names m} {q = vector_at t names (end - 1)}
      (rw (vector_start t names (end - 1) j.right s) r) q (rw j.is at (fits end h)))

  pub tree_placed : (end : ℕ) → EndsVector t names end → Placed (Operand t names) end (vector_at t names end)
  tree_placed end h =
      by_parts {P = Stands} (record {
        on_edge = edge_stands;
        on_before = before_stands;
        on_condition = condition_stands;
        on_join = join_stands;
      }) end h
