-- The statement that the crate stands for.
--   alternatives_unique    outcome, count and buffer afterwards follow from the input
use Prim.Native.Nat.{ℕ}
use mathlib.Core.Path.{◌≡◌, sym, ap, ◌∙◌}
use mathlib.Core.List.{List}
use lib.ListN.{length}
use Rattle.alf.specs.declared.Rules.{Rules}
use Rattle.alf.proofs.Outcomes.{AllFixed, at_fixed, first_fixed, comes_unique}
use Rattle.alternative_listings.specs.declared.Lines.{Lines}
use Rattle.alternative_texts.specs.Texts.{untold}
use Rattle.alternative_listings.specs.Calls.{own_at, order, tally, WritesAlternatives}
use Rattle.basics.proofs.Memory.{after_unique}

pub alternatives_unique : {ρ : Rules} {names tree out a b : List ℕ} {r s : Lines}
    → WritesAlternatives ρ names tree out a r → WritesAlternatives ρ names tree out b s → (r ≡ s) × (a ≡ b)
unfolding order
alternatives_unique {ρ} {names} {tree} {out} {r = r} {s = s} w v =
    let fixed : AllFixed (order ρ names tree (length out)) =
    (at_fixed _ _, (first_fixed _, (at_fixed _ _, (at_fixed _ _, tt)))) in
    let e : r.written ≡ s.written =
    comes_unique (order ρ names tree (length out)) _ fixed (λ k l p q. p ∙ sym q) r.written s.written
    w.outcome v.outcome in
    let f : r.untold ≡ s.untold =
    w.untold_are ∙ ap (tally (untold names (own_at ρ names tree))) e ∙ sym v.untold_are in (
      λ i. record { written = e i; untold = f i },
      after_unique _ out e w.memory v.memory,
    )
