-- A tree that is accepted under some rules, and what follows for other rules.
--   accepted_without     without steady pins it is accepted under any
--   accepted_old         so under document 01's rules
--   accepted_same        where the rules say the same of steady pins, it is accepted under both
use Rattle.std.specs.Prelude.{if◌then◌else◌}
use mathlib.Core.Path.{◌≡◌, refl, ap, sym, ◌∙◌}
use mathlib.Core.Bool.{Bool, true, false}
use mathlib.Core.List.{List}
use Prim.Native.Nat.{ℕ}
use Rattle.basics.proofs.Bools.{never}
use Rattle.alf.specs.declared.Rules.{Rules}
use Rattle.alf.specs.declared.Sort.{Sort}
use Rattle.alf.specs.Expressions.{Vector, Expression, boolean, vector}
use Rattle.alf.specs.Alternatives.{alternatives, over_limit}
use Rattle.alf.specs.Steady.{filled, meant}
use Rattle.alf.specs.Values.{old_rules_lem}
use Rattle.steady_laws.proofs.Meant.{meant_off, meant_limit}
use Rattle.acceptance.specs.Accepted.{over_size, Accepted}

-- the expression as written is no larger than it is as read
written_limit : (ρ : Rules) (p : Vector) → over_limit (alternatives (meant ρ p)) ≡ false
    → over_limit (alternatives p) ≡ false
written_limit ρ p h = go (over_limit (alternatives p)) refl
  where
    go : (q : Bool) → over_limit (alternatives p) ≡ q → over_limit (alternatives p) ≡ false
    go true e = never (sym h ∙ meant_limit ρ p e)
    go false e = e

size_without : (ρ ρ' : Rules) (e : Expression) → ρ'.steady_pins ≡ false → over_size ρ e ≡ false
    → over_size ρ' e ≡ false
unfolding over_size
size_without ρ ρ' (boolean c) k h = refl
size_without ρ ρ' (vector p) k h = rw (meant_off ρ' p k) (written_limit ρ p h)

meant_same : (ρ ρ' : Rules) (p : Vector) → ρ.steady_pins ≡ ρ'.steady_pins → meant ρ p ≡ meant ρ' p
unfolding meant
meant_same ρ ρ' p e = ap (λ (q : Bool). if q then filled p else p) e

size_same : (ρ ρ' : Rules) (e : Expression) → ρ.steady_pins ≡ ρ'.steady_pins → over_size ρ e ≡ false
    → over_size ρ' e ≡ false
unfolding over_size
size_same ρ ρ' (boolean c) k h = refl
size_same ρ ρ' (vector p) k h = rw (← meant_same ρ ρ' p k) h

module _ {ρ : Rules} {n : ℕ} {sort : Sort} {tree : List ℕ} (ρ' : Rules) (a : Accepted ρ n sort tree) where
  again : over_size ρ' a.expression ≡ false → Accepted ρ' n sort tree
  again h =
      record {
        expression = a.expression;
        encodes = a.encodes;
        sorted = a.sorted;
        tokens = a.tokens;
        brackets = a.brackets;
        sized = h;
      }

  pub accepted_without : ρ'.steady_pins ≡ false → Accepted ρ' n sort tree
  accepted_without k = again (size_without ρ ρ' a.expression k a.sized)

  pub accepted_same : ρ.steady_pins ≡ ρ'.steady_pins → Accepted ρ' n sort tree
  accepted_same k = again (size_same ρ ρ' a.expression k a.sized)

pub accepted_old : {ρ : Rules} {n : ℕ} {sort : Sort} {tree : List ℕ} → Accepted ρ n sort tree
    → Accepted old_rules_lem n sort tree
accepted_old a = accepted_without old_rules_lem a refl
