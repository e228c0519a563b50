-- A tree that is not refused with 10 is accepted: what `Accepted` asks can be decided, so that nothing is lost between
-- "not refused" and "accepted".
--   accepted_stable
use Prim.Native.Nat.{ℕ}
use native.Mathlib.Omega.{arith}
use mathlib.Core.Path.{◌≡◌, refl, sym, ap, ◌∙◌}
use mathlib.Core.Bool.{Bool, true, false}
use mathlib.Core.List.{List}
use lib.ListN.{length}
use Rattle.alf.specs.declared.Rules.{Rules}
use Rattle.alf.specs.declared.Sort.{Sort}
use Rattle.alf.specs.declared.Sort.TheVariants.{Boolean, Vector}
use Rattle.alf.specs.Expressions.{Expression, boolean, vector}
use Rattle.alf.specs.Decoder.{Decodes}
use Rattle.basics.proofs.Bools.{never}
use Rattle.basics.proofs.Stable.{le_stable}
use Rattle.alf.proofs.FewNames.{decodes_encoded}
use Rattle.alf.proofs.Decoding.{decode_unique}
use Rattle.std.specs.Prelude.{Option, Some, None}
use Rattle.trees.specs.Sorts.{tree_kind, Holds}
use Rattle.trees.specs.Brackets.{depth_of}
use Rattle.trees.proofs.Trees.{kind_decodes}
use Rattle.acceptance.proofs.Acceptance.{accepted_decodes}
use Rattle.acceptance.specs.Accepted.{Accepted, sort_of_lem, over_size}

-- what is not false is true, of a test and of a sort
test_stable : (b : Bool) → ((b ≡ false → ⊥) → ⊥) → b ≡ false
test_stable true f = absurd (f (λ e. never (sym e)))
test_stable false f = refl

sort_stable : (s t : Sort) → ((s ≡ t → ⊥) → ⊥) → s ≡ t
sort_stable Boolean Boolean f = refl
sort_stable Boolean Vector f = absurd (f (λ e. apart e))
  where
    apart : Boolean ≡ Vector → ⊥
    apart e = let z : ◌≡◌ {A = ℕ} 0 1 = cc in omega arith
sort_stable Vector Boolean f = absurd (f (λ e. apart e))
  where
    apart : Vector ≡ Boolean → ⊥
    apart e = let z : ◌≡◌ {A = ℕ} 0 1 = cc in omega arith
sort_stable Vector Vector f = refl

module _ (ρ : Rules) (names : ℕ) (sort : Sort) (tree : List ℕ)
    (f : (Accepted ρ names sort tree → ⊥) → ⊥) where
  from_decoded : (e : Expression) → Decodes names tree e → Accepted ρ names sort tree
  from_decoded e h =
      record {
        expression = e;
        encodes = decodes_encoded names tree e h;
        sorted = sort_stable (sort_of_lem e) sort (λ n. f (λ a. n (ap sort_of_lem (same a) ∙ a.sorted)));
        tokens = le_stable (length tree) 256 (λ n. f (λ a. n a.tokens));
        brackets = le_stable (depth_of e) 32 (λ n. f (λ a. n (rw (same a) a.brackets)));
        sized = test_stable (over_size ρ e) (λ n. f (λ a. n (ap (over_size ρ) (same a) ∙ a.sized)));
      }
    where
      same : (a : Accepted ρ names sort tree) → e ≡ a.expression
      same a = decode_unique names tree e a.expression h (accepted_decodes a)

  from_kind : (k : Option Sort) → Holds k (Decodes names tree) → Accepted ρ names sort tree
  unfolding Holds
  from_kind (Some Boolean) (c, h) = from_decoded (boolean c) h
  from_kind (Some Vector) (p, h) = from_decoded (vector p) h
  from_kind None h = absurd (f (λ a. h a.expression (accepted_decodes a)))

  pub accepted_stable : Accepted ρ names sort tree
  accepted_stable = from_kind (tree_kind tree names) (kind_decodes tree names)
