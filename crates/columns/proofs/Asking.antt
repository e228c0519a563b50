-- What is asked of a column is asked of its parts, and a column of states is a column of an operand.
--   name_asked, spell_asked              the two kinds of operand
--   name_column, spelt_column            their columns
--   Lining, lining_first, -next, -end    the columns of some operands, those before c
use mathlib.Core.Path.{◌≡◌, refl, ap, ◌∙◌}
use mathlib.Core.List.{List}
use mathlib.Core.Logic.{◌⊎◌, inl, inr}
use Prim.Native.Nat.{ℕ, ◌+◌, ◌*◌, ◌<◌, ◌≤◌}
use native.Mathlib.Nat.{add-mul}
use native.Mathlib.Omega.{arith}
use lib.ListN.{length, get_or}
use Rattle.alf.specs.declared.Rules.{Rules}
use Rattle.basics.proofs.Bools.{equal?}
use Rattle.evaluator.proofs.Booleans.{last_byte, some_bytes, name_known, name_state}
use Rattle.state_columns.specs.Entries.{Over}
use Rattle.state_columns.specs.Spelt.{states_from, SpellAsked, Spelt}
use Rattle.columns.specs.Columns.{name_from, looked_at, NameAsked, SpeltAsked}
use Rattle.columns.specs.Columns.{ColumnAsked, Column, ColumnsAsked, Columns}
use Rattle.state_columns.proofs.Overs.{over_length, over_inside, over_before, over_same}

module _ {tree : List ℕ} {names : ℕ} {states : List ℕ} {end lo n : ℕ} {tables : List ℕ} {base : ℕ}
    {cols : List ℕ} {o : ℕ} (asked : ColumnAsked tree names states end lo n tables base cols o) where
  pub end_some : 0 < end
  end_some = some_bytes asked.ends

  pub name_asked : last_byte tree end < 32
      → NameAsked tables base states names (lo * names + last_byte tree end) n cols o
  name_asked h =
      let w = asked.rows n (omega arith) in
      let e = add-mul lo n names in
      record {
        table = asked.table;
        there = omega (arith, w.room, name_known asked.ends h);
        codes = w.codes;
        room = asked.room;
      }

  -- the place of the first state fits a word, as the states do
  pub place_there : last_byte tree end < 32 → lo * names + last_byte tree end < length states
  place_there h =
      let w = asked.rows 0 (omega arith) in
      let e = add-mul lo 0 names in
      omega (arith, w.room, name_known asked.ends h)

  name_at_lem : (ρ : Rules) → last_byte tree end < 32 → (i : ℕ) → i < n + 1
      → name_from states names (lo * names + last_byte tree end) i ≡ states_from ρ tree names states end lo i
  name_at_lem ρ h i l =
      let e = add-mul lo i names in
      ap (λ (x : ℕ). get_or states x 0) (omega arith)
      ∙ (name_state asked.ends (asked.rows i l) ρ h).is

  looked_same : (s t : ℕ → ℕ) → ((i : ℕ) → i < n + 1 → s i ≡ t i) → (i : ℕ) → i < n
      → looked_at tables base s i ≡ looked_at tables base t i
  looked_same s t h i l =
      ap (λ (x : ℕ). get_or tables (base + (8 * x + s (i + 1))) 0) (h i (omega arith))
      ∙ ap (λ (x : ℕ). get_or tables (base + (8 * t i + x)) 0) (h (i + 1) (omega arith))

  module _ (ρ : Rules) {cols' : List ℕ} where
    pub name_column : last_byte tree end < 32
        → Over cols o n (looked_at tables base (name_from states names (lo * names + last_byte tree end))) cols'
        → Column ρ tree names states end lo n tables base cols o cols'
    name_column h g =
        record {
          over = over_same _ g (looked_same _ _ (name_at_lem ρ h));
          codes = λ i l.
              let s = name_state asked.ends (asked.rows i l) ρ h in
              rw (← s.is) s.code;
        }

    pub spelt_column : {parts parts' : List ℕ} → Spelt ρ tree names states end lo (n + 1) parts 0 parts'
        → Over cols o n (looked_at tables base (λ i. get_or parts' i 0)) cols'
        → Column ρ tree names states end lo n tables base cols o cols'
    spelt_column {parts' = l} s g =
        record {
          over = over_same _ g (looked_same _ _ (λ i h. ap (λ (x : ℕ). get_or l x 0) (omega arith) ∙ s.at i h));
          codes = λ i h. rw (s.at i h) at (s.codes i h);
        }

  pub spell_asked : {parts : List ℕ} → length parts ≡ 5205 → SpellAsked tree names states end lo (n + 1) parts 0
  spell_asked e =
      record {
        ends = asked.ends;
        rows = asked.rows;
        few = omega (arith, asked.few);
        wide = omega (arith, asked.wide);
        room = omega arith;
      }

  pub spelt_asked : (ρ : Rules) {parts parts' : List ℕ} → Spelt ρ tree names states end lo (n + 1) parts 0 parts'
      → SpeltAsked tables base parts' n cols o
  spelt_asked ρ s =
      record {
        table = asked.table;
        wide = asked.wide;
        codes = λ i h. rw (front i) at (s.codes i h);
        room = asked.room;
      }
    where
      front : (i : ℕ) → ◌≡◌ {A = ℕ} (0 * 1041 + i) i
      front i = omega arith

-- the columns before c
pub record Lining (ρ : Rules) (tree : List ℕ) (names : ℕ) (states ends : List ℕ) (many lo n : ℕ)
    (tables cols₀ cols : List ℕ) (c : ℕ) : Type 0 where
  pub within : c ≤ many
  pub long : length cols ≡ length cols₀
  pub at : (d i : ℕ) → d < c → i < n
      → get_or cols (d * 1040 + i) 0 ≡ looked_at tables (d * 64) (states_from ρ tree names states (get_or ends d 0) lo) i
  pub codes : (d i : ℕ) → d < c → i < n + 1 → states_from ρ tree names states (get_or ends d 0) lo i < 8

module _ {ρ : Rules} {tree : List ℕ} {names : ℕ} {states ends : List ℕ} {many lo n : ℕ}
    {tables cols₀ : List ℕ} where
  pub lining_first : Lining ρ tree names states ends many lo n tables cols₀ cols₀ 0
  lining_first =
      record {
        within = omega arith;
        long = refl;
        at = λ d i h l. absurd (omega arith);
        codes = λ d i h l. absurd (omega arith);
      }

  module _ {cols : List ℕ} {c : ℕ}
      (g : Lining ρ tree names states ends many lo n tables cols₀ cols c) where
    module _ (asked : ColumnsAsked tree names states ends many lo n tables cols₀) (l : c < many) where
      pub column_asked : ColumnAsked tree names states (get_or ends c 0) lo n tables (c * 64) cols (c * 1040)
      column_asked =
          record {
            ends = asked.operands c l;
            rows = asked.rows;
            few = asked.few;
            wide = asked.wide;
            table = omega (arith, asked.tabled);
            room = omega (arith, asked.room, asked.wide, g.long);
          }

      pub lining_next : {cols' : List ℕ}
          → Column ρ tree names states (get_or ends c 0) lo n tables (c * 64) cols (c * 1040) cols'
          → Lining ρ tree names states ends many lo n tables cols₀ cols' (c + 1)
      lining_next {cols'} new =
          record {
            within = omega arith;
            long = over_length new.over ∙ g.long;
            at = λ d i h j. go d i h j (equal? d c);
            codes = λ d i h j. code d i h j (equal? d c);
          }
        where
          code : (d i : ℕ) → d < c + 1 → i < n + 1 → (d ≡ c) ⊎ (d ≡ c → ⊥)
              → states_from ρ tree names states (get_or ends d 0) lo i < 8
          code d i h j (inl e) = rw e (new.codes i j)
          code d i h j (inr e) = g.codes d i (omega arith) j

          go : (d i : ℕ) → d < c + 1 → i < n → (d ≡ c) ⊎ (d ≡ c → ⊥)
              → get_or cols' (d * 1040 + i) 0
              ≡ looked_at tables (d * 64) (states_from ρ tree names states (get_or ends d 0) lo) i
          go d i h j (inl e) = rw e (over_inside new.over i j (omega (arith, g.long, asked.room, asked.wide)))
          go d i h j (inr e) =
              over_before new.over (d * 1040 + i) (omega (arith, asked.wide)) ∙ g.at d i (omega arith) j

    pub lining_end : many ≤ c → Columns ρ tree names states ends many lo n tables cols
    lining_end h =
        record { at = λ d i l k. g.at d i (omega arith) k; codes = λ d i l k. g.codes d i (omega arith) k }
