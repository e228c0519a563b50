-- The operators on a window, entry by entry as the loops go, and by their bytes.
--   greatest_step                   the greatest over one entry more
--   split                           P -> Q: the entry for each row in between
--   shared, shared_entry, shared_all    P & Q: the entry for each start of the shorter, and all of them
--   condition_byte, or_else_byte, with_byte, followed_byte, either_order_byte, with_or_then_byte, any_order_byte,
--   the_sixth                       an operator by its byte
use Prim.Native.Nat.{ℕ, ◌+◌, ◌-◌, ◌<◌, ◌≤◌, min, max}
use native.Mathlib.Omega.{arith}
use native.Mathlib.Numerals.{add-one}
use mathlib.Core.Path.{◌≡◌}
use borrow.Author.Tests.{lt-ltb, le-ltb}
use Rattle.basics.specs.Words.{greatest}
use Rattle.alf.specs.Windows.{Window, followed_by, either, together, joined}
use Rattle.alf.specs.Decoder.{join_at}
use Rattle.answer_table.specs.Tables.{OperatorByte, operated}

pub min_of : {x y u v r : ℕ} → r ≡ min x y → x ≡ u → y ≡ v → r ≡ min u v
min_of h e d = rw (← e, ← d) h

max_of : {x y u v r : ℕ} → r ≡ max x y → x ≡ u → y ≡ v → r ≡ max u v
max_of h e d = rw (← e, ← d) h

-- one entry more
pub greatest_step : {i high x r : ℕ} (f : ℕ → ℕ) → high ≡ greatest i f → x ≡ f i → r ≡ max high x
    → r ≡ greatest (i + 1) f
unfolding greatest
greatest_step f e d h = rw (add-one, ← e, ← d) h

-- the operator that is none of the others
pub the_sixth : {k : ℕ} → OperatorByte k → k < 56 → (k ≡ 55 → ⊥) → (k ≡ 54 → ⊥) → (k ≡ 50 → ⊥)
    → (k ≡ 51 → ⊥) → (k ≡ 52 → ⊥) → k ≡ 53
the_sixth h l n o p q r = let f = h.first in omega arith

module _ (P Q : Window) (a b : ℕ) where
  -- P on the rows up to a + 1 + i, Q from there on
  abbrev pub split : ℕ → ℕ
  split i = min (P a (a + 1 + i)) (Q (a + 1 + i) b)

  -- the longer starts at a, the shorter at a + i
  abbrev pub shared : ℕ → ℕ
  shared i = max (min (P a b) (Q (a + i) b)) (min (P (a + i) b) (Q a b))

  pub shared_entry : (i : ℕ) {x y z u v w r : ℕ} → x ≡ P a b → y ≡ Q a b → z ≡ Q (a + i) b → w ≡ P (a + i) b
      → u ≡ min x z → v ≡ min w y → r ≡ max u v → r ≡ shared i
  shared_entry i e d f g h k l = max_of l (min_of h e f) (min_of k g d)

  -- behind the last row a window without an event is left
  pub shared_all : {i r : ℕ} → a < b → P b b ≡ 0 → Q b b ≡ 0 → i ≤ b - a → b - a ≤ i
      → r ≡ greatest i shared → r ≡ together P Q a b
  unfolding together greatest
  shared_all {i} s e d l u g =
      let m : b + 1 - a ≡ i + 1 = omega arith in
      let f : a + i ≡ b = omega arith in
      rw (m, add-one, f, e, d, ← g) (omega arith)

  -- r is the answer under the operator of byte k
  abbrev pub Operated : ℕ → ℕ → Type 0
  Operated k r = r ≡ operated k P Q a b

  joined_by : {k r : ℕ} (n : ℕ) → k ≡ n → r ≡ joined (join_at (n - 50)) P Q a b → n < 56 → Operated k r
  unfolding operated
  joined_by n e h l = rw (e, lt-ltb _ _ l) h

  -- from the answers that it is made of
  module _ {k r : ℕ} where
    pub condition_byte : {x y : ℕ} → 56 ≤ k → x ≡ P a b → y ≡ Q a b → r ≡ min x y → Operated k r
    unfolding operated
    condition_byte f e d h = rw (le-ltb _ _ f) (min_of h e d)

    pub or_else_byte : {x y : ℕ} → k ≡ 55 → x ≡ P a b → y ≡ Q a b → r ≡ max x y → Operated k r
    unfolding joined join_at either
    or_else_byte f e d h = joined_by 55 f (max_of h e d) (omega arith)

    pub with_byte : k ≡ 54 → r ≡ together P Q a b → Operated k r
    unfolding joined join_at
    with_byte f h = joined_by 54 f h (omega arith)

    pub followed_byte : k ≡ 50 → r ≡ followed_by P Q a b → Operated k r
    unfolding joined join_at
    followed_byte f h = joined_by 50 f h (omega arith)

    module _ {x : ℕ} (e : x ≡ followed_by P Q a b) where
      pub either_order_byte : {z : ℕ} → k ≡ 51 → z ≡ followed_by Q P a b → r ≡ max x z → Operated k r
      unfolding joined join_at either
      either_order_byte f d h = joined_by 51 f (max_of h e d) (omega arith)

      pub with_or_then_byte : {y : ℕ} → k ≡ 52 → y ≡ together P Q a b → r ≡ max y x → Operated k r
      unfolding joined join_at either
      with_or_then_byte f d h = joined_by 52 f (max_of h d e) (omega arith)

      pub any_order_byte : {y z w : ℕ} → k ≡ 53 → y ≡ together P Q a b → z ≡ followed_by Q P a b → w ≡ max x y
          → r ≡ max w z → Operated k r
      unfolding joined join_at either
      any_order_byte f d c g h = joined_by 53 f (max_of h (max_of g e d) c) (omega arith)
