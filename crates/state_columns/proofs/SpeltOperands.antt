-- The states of an operator of two and of a choice, from those of the operands in one part each.
--   parts_few                                          an operator takes two parts or three
--   Operator                                           an operator whose parts reach, and where its last operand starts
--   left_shorter, right_shorter, left_ends, right_ends its last two operands
--   left_asked, right_asked, operands, binary_spelt    an operator of two
--   condition_asked, first_asked, second_asked, branches, choice_spelt     a choice
use mathlib.Core.Path.{refl, ◌∙◌}
use mathlib.Core.List.{List}
use Prim.Native.Nat.{ℕ, ◌+◌, ◌-◌, ◌*◌, ◌<◌, ◌≤◌}
use native.Mathlib.Omega.{arith}
use lib.Dec.{ltb}
use lib.ListN.{length}
use borrow.Author.Tests.{lt-ltb, le-ltb}
use Rattle.basics.proofs.Choices.{if_all}
use Rattle.alf.specs.declared.Rules.{Rules}
use Rattle.trees.specs.Parts.{EndsBoolean, Start}
use Rattle.evaluator.proofs.Booleans.{last_byte, some_bytes, first_ends, binary_state, choice_state}
use Rattle.evaluator.proofs.Booleans as booleans
use Rattle.state_columns.specs.Entries.{Stated, Two, Three, operated, chosen_from}
use Rattle.state_columns.specs.Spelt.{SpellAsked, Spelt, PartsOf}
use Rattle.state_columns.proofs.SpeltParts.{spelt_state, spelt_value, spelt_later, operand_asked, stated_over}

pub parts_few : {b r : ℕ} → PartsOf b r → r ≤ 3
parts_few {b} g = rw g.is (if_all (λ v. v ≤ 3) (ltb b 60) (λ h. omega arith) (λ h. omega arith))

pub record Operator (tree : List ℕ) (names : ℕ) (states : List ℕ) (end lo n : ℕ) (parts : List ℕ) (d r m : ℕ)
    : Type 0 where
  pub asked : SpellAsked tree names states end lo n parts d
  pub first : 40 ≤ last_byte tree end
  pub last : last_byte tree end < 64
  pub takes : PartsOf (last_byte tree end) r
  pub reach : (d + r) * 1041 ≤ length parts
  pub start : Start tree names (end - 1) m

module _ {tree : List ℕ} {names : ℕ} {states : List ℕ} {end lo n : ℕ} {parts : List ℕ} {d r m : ℕ}
    (g : Operator tree names states end lo n parts d r m) where
  pub left_shorter : m < end
  left_shorter = omega (arith, g.start.before)

  pub right_shorter : end - 1 < end
  right_shorter = omega (arith, some_bytes g.asked.ends)

  pub left_ends : EndsBoolean tree names m
  left_ends = booleans.left_ends g.asked.ends g.first g.last g.start

  pub right_ends : EndsBoolean tree names (end - 1)
  right_ends = booleans.right_ends g.asked.ends g.first

  -- an operator of two
  pub left_asked : SpellAsked tree names states m lo n parts d
  left_asked = operand_asked g.asked d left_ends refl g.asked.room

  module _ (k : last_byte tree end < 60) where
    two : (d + 1) * 1041 + 1041 ≤ length parts
    two = let e = rw (lt-ltb _ _ k) at g.takes.is in omega (arith, g.reach)

    module _ (ρ : Rules) {l₁ : List ℕ} (x : Spelt ρ tree names states m lo n parts d l₁) where
      pub right_asked : SpellAsked tree names states (end - 1) lo n l₁ (d + 1)
      right_asked = operand_asked g.asked (d + 1) right_ends x.length_same two

      module _ {l₂ : List ℕ} (y : Spelt ρ tree names states (end - 1) lo n l₁ (d + 1) l₂) where
        left : Spelt ρ tree names states m lo n parts d l₂
        left = spelt_later x g.asked.wide (omega arith) y

        pub operands : Two l₂ (d * 1041) ((d + 1) * 1041) n
        operands =
            let w = g.asked.wide in
            record {
              first = record { room = omega (arith, two, left.length_same); codes = left.codes };
              second = record { room = omega (arith, two, left.length_same); codes = y.codes };
              apart = omega arith;
            }

        pub binary_spelt : {l' : List ℕ}
            → Stated l₂ (d * 1041) n (operated (last_byte tree end) l₂ (d * 1041) ((d + 1) * 1041)) l'
            → Spelt ρ tree names states end lo n parts d l'
        binary_spelt q =
            stated_over g.asked ρ left.length_same left.below q
            (λ i h. (binary_state g.asked.ends (g.asked.rows i h) ρ g.first k g.start
            (spelt_state left i h) (spelt_state y i h) (record { is = refl; code = q.codes i h })).is)

  -- a choice
  module _ (k : 60 ≤ last_byte tree end) {o : ℕ} (s : Start tree names m o) where
    three : (d + 2) * 1041 + 1041 ≤ length parts
    three = let e = rw (le-ltb _ _ k) at g.takes.is in omega (arith, g.reach)

    pub condition_asked : SpellAsked tree names states o lo n parts d
    condition_asked =
        operand_asked g.asked d (first_ends g.asked.ends k g.last g.start s) refl g.asked.room

    module _ (ρ : Rules) {l₁ : List ℕ} (x : Spelt ρ tree names states o lo n parts d l₁) where
      pub first_asked : SpellAsked tree names states m lo n l₁ (d + 1)
      first_asked = operand_asked g.asked (d + 1) left_ends x.length_same (omega (arith, three))

      module _ {l₂ : List ℕ} (y : Spelt ρ tree names states m lo n l₁ (d + 1) l₂) where
        pub second_asked : SpellAsked tree names states (end - 1) lo n l₂ (d + 2)
        second_asked = operand_asked g.asked (d + 2) right_ends (y.length_same ∙ x.length_same) three

        module _ {l₃ : List ℕ} (z : Spelt ρ tree names states (end - 1) lo n l₂ (d + 2) l₃) where
          second : Spelt ρ tree names states m lo n l₁ (d + 1) l₃
          second = spelt_later y g.asked.wide (omega arith) z

          first : Spelt ρ tree names states o lo n parts d l₃
          first = spelt_later x g.asked.wide (omega arith) second

          pub branches : Three l₃ (d * 1041) ((d + 1) * 1041) ((d + 2) * 1041) n
          branches =
              let w = g.asked.wide in
              record {
                first = record { room = omega (arith, three, first.length_same); codes = first.codes };
                second = record { room = omega (arith, three, first.length_same); codes = second.codes };
                third = record { room = omega (arith, three, first.length_same); codes = z.codes };
                apart = omega arith;
                behind = omega arith;
              }

          pub choice_spelt : {l' : List ℕ}
              → Stated l₃ (d * 1041) n (chosen_from ρ (last_byte tree m) (last_byte tree (end - 1)) l₃ (d * 1041)
              ((d + 1) * 1041) ((d + 2) * 1041)) l'
              → Spelt ρ tree names states end lo n parts d l'
          choice_spelt q =
              stated_over g.asked ρ first.length_same first.below q
              (λ i h. let w = g.asked.rows i h in
              (choice_state g.asked.ends w ρ k g.last g.start s (spelt_state first i h)
              (spelt_value second left_ends i h w) (spelt_value z right_ends i h w)
              (record { is = refl; code = q.codes i h })).is)
