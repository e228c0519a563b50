-- Document 02, [2]: steady pins only add tests, so what is within limit 8 under some rules is within it as written.
--   gives_written    what a text gives under some rules it gives under document 01's
-- That a tree which is accepted under some rules is accepted under document 01's is acceptance's accepted_old.
use Prim.Native.Nat.{ℕ}
use mathlib.Core.List.{List}
use Rattle.alf.specs.declared.Rules.{Rules}
use Rattle.alf.specs.declared.Sort.{Sort}
use Rattle.alf.specs.Values.{old_rules_lem}
use Rattle.alf.specs.Expressions.{Expression, boolean, vector}
use Rattle.alf.specs.Steady.{meant}
use Rattle.steady_laws.proofs.Meant.{meant_limit}
use Rattle.sorting.specs.Sorts.{is}
use Rattle.reader.specs.Reading.{too_large, Gives}

-- the row of limit 8
small_written : (ρ : Rules) (x : Expression) → ((p : ℕ) → too_large ρ (is x) p → ⊥) → (p : ℕ)
    → too_large old_rules_lem (is x) p → ⊥
unfolding too_large meant
small_written ρ (boolean c) f p l = l
small_written ρ (vector v) f p l = f p (record { given = meant_limit ρ v l.given; there = l.there })

pub gives_written : {ρ : Rules} {names text : List ℕ} {sort : Sort} {x : Expression} → Gives ρ names text sort x
    → Gives old_rules_lem names text sort x
gives_written {ρ} {x = x} g =
    record {
      tokens = g.tokens;
      read = g.read;
      shallow = g.shallow;
      few = g.few;
      tree = g.tree;
      whole = g.whole;
      known = g.known;
      sorts = g.sorts;
      small = small_written ρ x g.small;
    }
