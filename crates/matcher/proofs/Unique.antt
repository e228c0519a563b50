-- Any two results that a contract allows coincide.
--   matches_unique, filled_unique, totals_unique
use mathlib.Core.Path.{◌≡◌, sym, ◌∙◌}
use mathlib.Core.List.{List}
use Prim.Native.Nat.{ℕ}
use Rattle.alf.specs.declared.Answer.{Answer}
use Rattle.alf.specs.Expressions.{Boolean}
use Rattle.alf.specs.Alternatives.{Alternative}
use Rattle.alf.proofs.Answers.{number_same}
use Rattle.matcher.specs.Answers.{Matches}
use Rattle.matcher.specs.Tables.{Filled, TotalsOf}

module _ {st : Boolean → ℕ → ℕ} {xs : List Alternative} where
  pub matches_unique : {row t u : ℕ} {a b : Answer} → Matches st xs row a t → Matches st xs row b u
      → (a ≡ b) × (t ≡ u)
  matches_unique {a = a} {b = b} m k = (number_same a b (m.is ∙ sym k.is), m.count ∙ sym k.count)

  pub filled_unique : {n : ℕ} {answers tried a t b u : List ℕ} → Filled st xs n answers tried a t
      → Filled st xs n answers tried b u → (a ≡ b) × (t ≡ u)
  filled_unique f g = (f.answered ∙ sym g.answered, f.counted ∙ sym g.counted)

  pub totals_unique : {n y f u y' f' u' : ℕ} → TotalsOf st xs n y f u → TotalsOf st xs n y' f' u'
      → (y ≡ y') × (f ≡ f') × (u ≡ u')
  totals_unique t s = (t.yeses ∙ sym s.yeses, t.noes ∙ sym s.noes, t.unknowns ∙ sym s.unknowns)
