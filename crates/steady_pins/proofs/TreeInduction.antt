-- What holds of the vector expressions that end in a tree, from those of their operands.
--   Began, began       an expression starts somewhere
--   last_ends          the last operand ends right before the operator
--   by_parts           from an expression's parts to the expression, so of each that ends in the tree
use Prim.Native.Nat.{ℕ, zero, suc, ◌+◌, ◌-◌, ◌<◌, ◌≤◌}
use native.Mathlib.Omega.{arith}
use mathlib.Core.Path.{◌≡◌}
use mathlib.Core.Logic.{◌⊎◌, inl, inr}
use mathlib.Core.List.{List}
use lib.ListN.{get_or}
use Rattle.alf.specs.Decoder.{arity_at}
use Rattle.basics.proofs.Bools.{equal?, below?}
use Rattle.alf.proofs.StackTops.{vector_class}
use Rattle.alf.proofs.Parts.{made_last}
use Rattle.trees.specs.Parts.{Ends, EndsVector, Start}
use Rattle.trees.proofs.Starts.{of_vector, Going, going_first, going_on, going_done}
use Rattle.trees.proofs.Operands.{right_whole}
use Rattle.trees.proofs.Vectors.{Conditioned, Joined, vector_pos, before_ends, condition_is, join_is}

pub record Began (t : List ℕ) (names end : ℕ) : Type 0 where
  pub at : ℕ
  pub start : Start t names end at

pub began : (t : List ℕ) (names end : ℕ) → Ends t names end → Began t names end
began t names end h = go end end 1 (omega arith) (going_first h) (below? 0 1)
  where
    go : (k at need : ℕ) → at ≤ k → Going t names end at need → (0 < need) ⊎ (need ≤ 0)
        → Began t names end
    go zero at need l g (inl p) = absurd (omega (arith, g.few))
    go zero at need l g (inr z) = record { at = at; start = going_done g z }
    go (suc k) at need l g (inl p) =
        go k (at - 1) (need - 1 + arity_at (get_or t (at - 1) 0)) (omega (arith, g.few))
        (going_on t names end at need g p) (below? 0 _)
    go (suc k) at need l g (inr z) = record { at = at; start = going_done g z }

pub last_ends : (t : List ℕ) (names end : ℕ) → EndsVector t names end → get_or t (end - 1) 0 < 64
    → Ends t names (end - 1)
last_ends t names end h k =
    let b = made_last t names end (vector_pos t names end h) in
    let (l, u) = vector_class names _ b h.whole k in
    right_whole t names end (of_vector h) (omega arith)

-- an expression's four cases: an edge; c & P; P & c; P j Q
pub record Cases (t : List ℕ) (names : ℕ) (P : ℕ → Type 0) : Type 0 where
  pub on_edge : (end : ℕ) → EndsVector t names end → 64 ≤ get_or t (end - 1) 0 → P end
  pub on_before : (end m : ℕ) → EndsVector t names end → get_or t (end - 1) 0 ≡ 57
      → Start t names (end - 1) m
      → P (end - 1)
      → P end
  pub on_condition : (end m : ℕ) → EndsVector t names end → Conditioned t names end m
      → Start t names (end - 1) m
      → P m
      → P end
  pub on_join : (end m : ℕ) → EndsVector t names end → Joined t names end m → Start t names (end - 1) m
      → P m → P (end - 1) → P end

module _ {t : List ℕ} {names : ℕ} {P : ℕ → Type 0} (cases : Cases t names P) where
  -- from all earlier ends
  module _ (end : ℕ) (h : EndsVector t names end) (r : (m : ℕ) → m < end → EndsVector t names m → P m) where
    pos : end - 1 < end
    pos = omega (arith, vector_pos t names end h)

    on_part : get_or t (end - 1) 0 < 64 → Began t names (end - 1) → P end
    on_part u b = go (equal? (get_or t (end - 1) 0) 57) (equal? (get_or t (end - 1) 0) 56)
      where
        go : (get_or t (end - 1) 0 ≡ 57) ⊎ (get_or t (end - 1) 0 ≡ 57 → ⊥)
            → (get_or t (end - 1) 0 ≡ 56) ⊎ (get_or t (end - 1) 0 ≡ 56 → ⊥) → P end
        go (inl e) q =
            cases.on_before end b.at h e b.start (r (end - 1) pos (before_ends t names end h e))
        go (inr f) (inl e) =
            let c = condition_is t names end h b.start e in
            cases.on_condition end b.at h c b.start (r b.at (omega (arith, b.start.before)) c.left)
        go (inr f) (inr g) =
            let j = join_is t names end h b.start u g f in
            cases.on_join end b.at h j b.start (r b.at (omega (arith, b.start.before)) j.left)
            (r (end - 1) pos j.right)

    next : P end
    next = go (below? (get_or t (end - 1) 0) 64)
      where
        go : (get_or t (end - 1) 0 < 64) ⊎ (64 ≤ get_or t (end - 1) 0) → P end
        go (inl u) = on_part u (began t names (end - 1) (last_ends t names end h u))
        go (inr u) = cases.on_edge end h u

  below : (k end : ℕ) → end ≤ k → EndsVector t names end → P end
  below zero end l h = absurd (omega (arith, vector_pos t names end h))
  below (suc k) end l h = next end h (λ m u g. below k m (omega arith) g)

  pub by_parts : (end : ℕ) → EndsVector t names end → P end
  by_parts end h = below end end (omega arith) h
