-- Document 02, [9], computed: the ternary `A ? a : b` where A is unknown, by the new rule. "If both branches have the
-- same value, that value is the result". So values are compared, not states, and not what they reduce to.
--   on, ask                                  the value by the new rule where A, B and C hold X, b and c; `A ? a : b`
--   differing_literals, equal_unknown, equal_z     `A ? 'bH : 1` is X; `A ? 'bU : 'bU` is U; `A ? 'bZ : 'bZ` is Z
--   name_by_value, name_not_by_state         with B at H, `A ? B : 1` is 1, and `A ? B : 'bH` is X
--   names_of_no_digit                        with B at Z and C at W, `A ? B : C` is X, the value of both
--   inner_first, no_reasoning                `A ? ( A ? 1 : 1 ) : 1` is 1; `A ? A : 0` is X
--   as_before                                by document 01's rules `A ? 1 : 1` is X
use Prim.Native.Nat.{ℕ}
use mathlib.Core.Path.{◌≡◌, refl}
use mathlib.Core.List.{[], ◌∷◌}
use lib.ListN.{get_or}
use Rattle.alf.specs.States.{X, H, U, W, Z, reduce}
use Rattle.alf.specs.Expressions.{Boolean, name, literal, choice}
use Rattle.alf.specs.Values.{old_rules_lem, new_rules, unresolved, chosen, value, recorded_or}

abbrev on : ℕ → ℕ → Boolean → ℕ
on b c e = value new_rules (λ n. get_or (X ∷ b ∷ c ∷ []) n 0) e

abbrev ask : Boolean → Boolean → Boolean
ask a b = choice (name 0) a b

pub differing_literals : on 0 0 (ask (literal H) (literal 1)) ≡ X
unfolding reduce recorded_or value chosen unresolved
differing_literals = refl

pub equal_unknown : on 0 0 (ask (literal U) (literal U)) ≡ U
unfolding reduce recorded_or value chosen unresolved
equal_unknown = refl

pub equal_z : on 0 0 (ask (literal Z) (literal Z)) ≡ Z
unfolding reduce recorded_or value chosen unresolved
equal_z = refl

pub name_by_value : on H 0 (ask (name 1) (literal 1)) ≡ 1
unfolding reduce recorded_or value chosen unresolved
name_by_value = refl

pub name_not_by_state : on H 0 (ask (name 1) (literal H)) ≡ X
unfolding reduce recorded_or value chosen unresolved
name_not_by_state = refl

pub names_of_no_digit : on Z W (ask (name 1) (name 2)) ≡ X
unfolding reduce recorded_or value chosen unresolved
names_of_no_digit = refl

pub inner_first : on 0 0 (ask (ask (literal 1) (literal 1)) (literal 1)) ≡ 1
unfolding reduce recorded_or value chosen unresolved
inner_first = refl

pub no_reasoning : on 0 0 (ask (name 0) (literal 0)) ≡ X
unfolding reduce recorded_or value chosen unresolved
no_reasoning = refl

pub as_before : value old_rules_lem (λ n. X) (ask (literal 1) (literal 1)) ≡ X
unfolding reduce recorded_or value chosen unresolved
as_before = refl
