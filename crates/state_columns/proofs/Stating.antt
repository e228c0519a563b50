-- Laws of loops that write states, and of what they read: entries that are not yet written are as they were.
--   Stating, stating_first, -length, -next, -end     the states so far are written
--   read_at, read_there, read_code                   a state that is read
--   negated_is, both_codes, looked_is, chosen_is     what is made of them
--   operated_stated                                  the table of an operator gives what the operator makes
use mathlib.Core.Path.{◌≡◌, refl, sym, ap, ◌∙◌}
use mathlib.Core.List.{List}
use mathlib.Core.Logic.{◌⊎◌, inl, inr}
use Prim.Native.Nat.{ℕ, ◌+◌, ◌-◌, ◌*◌, ◌/◌, ◌%◌, ◌<◌, ◌≤◌}
use native.Mathlib.Nat.{zero-add}
use native.Mathlib.Omega.{arith}
use lib.ListN.{length, get_or, set}
use Rattle.basics.specs.Words.{listed}
use Rattle.basics.proofs.Bools.{equal?}
use Rattle.basics.proofs.Stores.{Writing, writing_first, writing_length}
use Rattle.basics.proofs.Listed.{ruling_next}
use Rattle.alf.specs.declared.Rules.{Rules}
use Rattle.alf.specs.States.{not_of_lem}
use Rattle.alf.specs.Values.{operate, chosen}
use Rattle.alf.specs.Decoder.{binary_at}
use Rattle.evaluator.specs.Rows.{IsState, settled_by}
use Rattle.state_columns.specs.Entries.{Stated, States, Two, Three}
use Rattle.state_columns.specs.Entries.{negated, operator_at, looked, operated, chosen_from}
use Rattle.state_columns.proofs.Overs.{writing_ahead, over_inside, over_length, over_end, over_same}

pub record Stating (s : ℕ → ℕ) (n : ℕ) (out₀ : List ℕ) (o : ℕ) (out : List ℕ) (i : ℕ) : Type 0 where
  pub written : Writing out₀ o (listed 0 n s) out i
  pub codes : (j : ℕ) → j < i → s j < 8

module _ {s : ℕ → ℕ} {n : ℕ} {out₀ : List ℕ} {o : ℕ} where
  pub stating_first : Stating s n out₀ o out₀ 0
  stating_first = record { written = writing_first; codes = λ j h. absurd (omega arith) }

  module _ {out : List ℕ} {i : ℕ} (g : Stating s n out₀ o out i) where
    pub stating_length : length out ≡ length out₀
    stating_length = writing_length g.written

    pub stating_next : {v : ℕ} → i < n → IsState (s i) v → Stating s n out₀ o (set out (o + i) v) (i + 1)
    stating_next {v} l e =
        record {
          written = ruling_next 0 _ g.written l (e.is ∙ ap s (sym (zero-add i)));
          codes = λ j h. go j h (equal? j i);
        }
      where
        go : (j : ℕ) → j < i + 1 → (j ≡ i) ⊎ (j ≡ i → ⊥) → s j < 8
        go j h (inl q) = rw (q, ← e.is) e.code
        go j h (inr q) = g.codes j (omega arith)

    pub stating_end : n ≤ i → Stated out₀ o n s out
    stating_end h = record { over = over_end g.written h; codes = λ j l. g.codes j (omega arith) }

    -- an entry of states from p on, which are not before those that are written
    module _ {p : ℕ} (w : States out₀ p n) (l : i < n) (h : o ≤ p) where
      pub read_at : get_or out (p + i) 0 ≡ get_or out₀ (p + i) 0
      read_at = writing_ahead g.written (p + i) (omega arith)

      pub read_there : p + i < length out
      read_there = omega (arith, stating_length, w.room)

      pub read_code : get_or out (p + i) 0 < 8
      read_code = rw read_at (w.codes i l)

-- from the front on
pub stating_next_front : {s : ℕ → ℕ} {n : ℕ} {out₀ out : List ℕ} {i v : ℕ} → Stating s n out₀ 0 out i → i < n
    → IsState (s i) v → Stating s n out₀ 0 (set out i v) (i + 1)
stating_next_front g l e = rw zero-add at (stating_next g l e)

pub negated_is : {s : ℕ → ℕ} {n : ℕ} {out₀ : List ℕ} {o : ℕ} {out : List ℕ} {i v : ℕ}
    → Stating s n out₀ o out i → States out₀ o n → i < n → (v ≡ not_of_lem (get_or out (o + i) 0)) × (v < 8)
    → IsState (negated out₀ o i) v
negated_is g w l q = record { is = q.0 ∙ ap not_of_lem (read_at g w l (omega arith)); code = q.1 }

module _ {s : ℕ → ℕ} {n : ℕ} {out₀ : List ℕ} {o : ℕ} {out : List ℕ} {i p : ℕ} (g : Stating s n out₀ o out i)
    (w : Two out₀ o p n) (l : i < n) where
  pub both_codes : (get_or out (o + i) 0 < 8) × (get_or out (p + i) 0 < 8)
  both_codes = (read_code g w.first l (omega arith), read_code g w.second l (omega (arith, w.apart)))

  pub looked_is : {table : List ℕ} → States table 0 64
      → IsState (looked table out₀ o p i) (get_or table (8 * get_or out (o + i) 0 + get_or out (p + i) 0) 0)
  looked_is {table} t =
      let h : 8 * get_or out (o + i) 0 + get_or out (p + i) 0 < 64 = omega (arith, both_codes) in
      record {
        is = rw (read_at g w.first l (omega arith), read_at g w.second l (omega (arith, w.apart))) refl;
        code = rw zero-add at (t.codes _ h);
      }

module _ {s : ℕ → ℕ} {n : ℕ} {out₀ : List ℕ} {o : ℕ} {out : List ℕ} {i p q : ℕ} (g : Stating s n out₀ o out i)
    (w : Three out₀ o p q n) (l : i < n) where
  pub chosen_is : (ρ : Rules) (x y : ℕ) {v : ℕ}
      → IsState (chosen ρ (get_or out (o + i) 0) (settled_by x (get_or out (p + i) 0)) (settled_by y (get_or out (q + i) 0))) v
      → IsState (chosen_from ρ x y out₀ o p q i) v
  chosen_is ρ x y e =
      rw (
        read_at g w.first l (omega arith),
        read_at g w.second l (omega (arith, w.apart)),
        read_at g w.third l (omega (arith, w.behind)),
      ) at e

-- the table of an operator: its entries are states, and looking into it is operating
module _ (b : ℕ) {table₀ table : List ℕ} (t : Stated table₀ 0 64 (operator_at b) table) (long : 64 ≤ length table₀) where
  entry : (q : ℕ) → q < 64 → get_or table q 0 ≡ operator_at b q
  entry q h = rw zero-add at (over_inside t.over q h (omega arith))

  pub table_states : States table 0 64
  table_states =
      record {
        room = omega (arith, over_length t.over);
        codes = λ q h. rw (zero-add, entry q h) (t.codes q h);
      }

  looked_operated : (x y : ℕ) → x < 8 → y < 8 → get_or table (8 * x + y) 0 ≡ operate (binary_at (b - 40)) x y
  looked_operated x y h k =
      let e : (8 * x + y) / 8 ≡ x = omega arith in
      let f : (8 * x + y) % 8 ≡ y = omega arith in
      entry (8 * x + y) (omega arith)
      ∙ ap (λ (z : ℕ). operate (binary_at (b - 40)) z ((8 * x + y) % 8)) e
      ∙ ap (operate (binary_at (b - 40)) x) f

  pub operated_stated : {l l' : List ℕ} {o p n : ℕ} → Two l o p n → Stated l o n (looked table l o p) l'
      → Stated l o n (operated b l o p) l'
  operated_stated {l} {o = o} {p = p} {n = n} w g =
      record { over = over_same _ g.over same; codes = λ i h. rw (← same i h) (g.codes i h) }
    where
      same : (i : ℕ) → i < n → looked table l o p i ≡ operated b l o p i
      same i h = looked_operated _ _ (w.first.codes i h) (w.second.codes i h)
