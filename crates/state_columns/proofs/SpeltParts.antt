-- The states of a boolean expression in a part of a list: what is asked of its operands, and what is written for it.
--   spelt_state, spelt_value, spelt_later    its state and value at a row; a part stays while those behind it change
--   operand_asked                            what is asked of an operand
--   stated_over, stated_spelt                states that are those of the expression
--   name_rows_lem, name_spelt, literal_spelt     a name, a literal
--   negation_states, negation_spelt          a negation
-- An operator of two and a choice are in SpeltOperands.antt.
use mathlib.Core.Path.{◌≡◌, refl, ◌∙◌}
use mathlib.Core.List.{List}
use Prim.Native.Nat.{ℕ, ◌+◌, ◌-◌, ◌*◌, ◌<◌, ◌≤◌}
use native.Mathlib.Omega.{arith}
use lib.Dec.{ltb}
use lib.ListN.{length, get_or}
use borrow.Author.Tests.{ltb-true}
use Rattle.basics.proofs.Choices.{every, every_at, if_all}
use Rattle.alf.specs.declared.Rules.{Rules}
use Rattle.alf.specs.States.{reduce}
use Rattle.trees.specs.Parts.{EndsBoolean}
use Rattle.evaluator.specs.Rows.{Within, IsState, settled_by, state_of, value_of}
use Rattle.evaluator.proofs.Booleans.{last_byte, name_room, name_state, literal_state, negation_state, value_state}
use Rattle.state_columns.specs.Entries.{Stated, States, NameRows, name_rows, negated}
use Rattle.state_columns.specs.Spelt.{states_from, SpellAsked, Spelt}
use Rattle.state_columns.proofs.Overs.{over_length, over_inside, over_before}

-- a value is one of the eight states
reduce_small : (x : ℕ) → x < 8 → reduce x < 8
unfolding every reduce
reduce_small x h = ltb-true (reduce x) 8 (every_at 8 (λ y. ltb (reduce y) 8) refl x h)

settled_small : (b x : ℕ) → x < 8 → settled_by b x < 8
settled_small b x h = if_all (λ v. v < 8) (ltb b 32) (λ e. reduce_small x h) (λ e. h)

module _ {ρ : Rules} {tree : List ℕ} {names : ℕ} {states : List ℕ} {end lo n : ℕ} {l : List ℕ} {d : ℕ} {l' : List ℕ}
    (g : Spelt ρ tree names states end lo n l d l') where
  pub spelt_state : (i : ℕ) → i < n → IsState (state_of ρ tree names states end (lo + i)) (get_or l' (d * 1041 + i) 0)
  spelt_state i h = record { is = g.at i h; code = g.codes i h }

  pub spelt_value : EndsBoolean tree names end → (i : ℕ) → i < n → Within states names (lo + i)
      → IsState (value_of ρ tree names states end (lo + i))
      (settled_by (last_byte tree end) (get_or l' (d * 1041 + i) 0))
  spelt_value ends i h w =
      value_state ends w ρ (spelt_state i h)
      (record { is = refl; code = settled_small (last_byte tree end) _ (g.codes i h) })

  pub spelt_later : {m e : ℕ} {l'' : List ℕ} → n ≤ 1041 → d < e → Spelt ρ tree names states m lo n l' e l''
      → Spelt ρ tree names states end lo n l d l''
  spelt_later w h f =
      record {
        length_same = f.length_same ∙ g.length_same;
        at = λ i k. f.below (d * 1041 + i) (omega arith) ∙ g.at i k;
        codes = λ i k. rw (f.below (d * 1041 + i) (omega arith)) (g.codes i k);
        below = λ i k. f.below i (omega arith) ∙ g.below i k;
      }

module _ {tree : List ℕ} {names : ℕ} {states : List ℕ} {end lo n : ℕ} {parts : List ℕ} {d : ℕ}
    (asked : SpellAsked tree names states end lo n parts d) where
  pub operand_asked : {m : ℕ} {l : List ℕ} (e : ℕ) → EndsBoolean tree names m → length l ≡ length parts
      → e * 1041 + 1041 ≤ length parts → SpellAsked tree names states m lo n l e
  operand_asked e ends long h =
      record { ends = ends; rows = asked.rows; few = asked.few; wide = asked.wide; room = omega arith }

  -- over a list that has the entries before this part
  module _ (ρ : Rules) {s : ℕ → ℕ} {l l' : List ℕ} (long : length l ≡ length parts)
      (below : (i : ℕ) → i < d * 1041 → get_or l i 0 ≡ get_or parts i 0) (g : Stated l (d * 1041) n s l') where
    pub stated_over : ((i : ℕ) → i < n → s i ≡ states_from ρ tree names states end lo i)
        → Spelt ρ tree names states end lo n parts d l'
    stated_over same =
        let r : d * 1041 + n ≤ length l = omega (arith, asked.room, asked.wide) in
        record {
          length_same = over_length g.over ∙ long;
          at = λ i h. over_inside g.over i h r ∙ same i h;
          codes = λ i h. rw (over_inside g.over i h r) (g.codes i h);
          below = λ i h. over_before g.over i h ∙ below i h;
        }

  pub stated_spelt : (ρ : Rules) {s : ℕ → ℕ} {l' : List ℕ} → Stated parts (d * 1041) n s l'
      → ((i : ℕ) → i < n → s i ≡ states_from ρ tree names states end lo i)
      → Spelt ρ tree names states end lo n parts d l'
  stated_spelt ρ g = stated_over ρ refl (λ i h. refl) g

  pub name_rows_lem : last_byte tree end < 32 → NameRows (last_byte tree end) states names lo n parts (d * 1041)
  name_rows_lem k =
      record {
        few = asked.few;
        there = λ i h. name_room asked.ends (asked.rows i h) k;
        codes = λ i h. (asked.rows i h).codes _ (name_room asked.ends (asked.rows i h) k);
        room = omega (arith, asked.room, asked.wide);
      }

  pub name_spelt : (ρ : Rules) {l' : List ℕ} → last_byte tree end < 32
      → Stated parts (d * 1041) n (name_rows (last_byte tree end) states names lo) l'
      → Spelt ρ tree names states end lo n parts d l'
  name_spelt ρ k g = stated_spelt ρ g (λ i h. (name_state asked.ends (asked.rows i h) ρ k).is)

  pub literal_spelt : (ρ : Rules) {l' : List ℕ} → 32 ≤ last_byte tree end → last_byte tree end < 40
      → Stated parts (d * 1041) n (λ i. last_byte tree end - 32) l' → Spelt ρ tree names states end lo n parts d l'
  literal_spelt ρ k j g = stated_spelt ρ g (λ i h. (literal_state asked.ends (asked.rows i h) ρ k j).is)

  module _ (ρ : Rules) {l : List ℕ} (f : Spelt ρ tree names states (end - 1) lo n parts d l) where
    pub negation_states : States l (d * 1041) n
    negation_states = record { room = omega (arith, asked.room, asked.wide, f.length_same); codes = f.codes }

    pub negation_spelt : {l' : List ℕ} → 64 ≤ last_byte tree end → Stated l (d * 1041) n (negated l (d * 1041)) l'
        → Spelt ρ tree names states end lo n parts d l'
    negation_spelt k g =
        stated_over ρ f.length_same f.below g
        (λ i h. (negation_state asked.ends (asked.rows i h) ρ k (spelt_state f i h) (refl, g.codes i h)).is)
