-- The statements that the listings stand for, besides Examples.
--   values_unique      of a listing of values: outcome and buffer afterwards follow from the input
--   listed_totals      where the answers are those defined of a pattern, the last line's numbers are its totals
use Prim.Native.Nat.{ℕ}
use mathlib.Core.Path.{◌≡◌, sym, ap, ◌∙◌}
use mathlib.Core.List.{List}
use lib.Dec.{eqb}
use lib.ListN.{length, get_or}
use Rattle.basics.specs.Refusing.{Outcome}
use Rattle.basics.specs.Words.{count, listed}
use Rattle.alf.specs.Expressions.{Boolean, Vector}
use Rattle.alf.specs.Windows.{row_answer}
use Rattle.alf.specs.Traces.{total}
use Rattle.basics.proofs.Counts.{count_same}
use Rattle.alf.proofs.Outcomes.{AllFixed, at_fixed, first_fixed, comes_unique}
use Rattle.basics.proofs.Tables.{listed_at}
use Rattle.basics.proofs.Listed.{listed_length}
use Rattle.listing.specs.Listing.{how_many}
use Rattle.column_listings.specs.Calls.{list_order, ValuesText}
use Rattle.basics.proofs.Memory.{after_unique}

pub values_unique : (times values out : List ℕ) {x y : List ℕ} {r s : Outcome}
    → ValuesText times values out x r → ValuesText times values out y s → (r ≡ s) × (x ≡ y)
values_unique times values out {r = r} {s = s} a b =
    let f : AllFixed (list_order times values (length out)) = (at_fixed _ _, (first_fixed _, (at_fixed _ _, tt))) in
    let e = comes_unique (list_order times values (length out)) _ f (λ j k p q. p ∙ sym q) r s a.outcome
    b.outcome in
    (e, after_unique _ out e a.memory b.memory)

pub listed_totals : (st : Boolean → ℕ → ℕ) (p : Vector) (n a : ℕ)
    → how_many (listed 0 n (row_answer st p)) a ≡ total st p n a
unfolding how_many total
listed_totals st p n a =
    let f : ℕ → ℕ = row_answer st p in
    ap (λ (k : ℕ). count k (λ i. eqb (get_or (listed 0 n f) i 0) a)) (listed_length 0 n f)
    ∙ count_same n _ _ (λ i k. ap (λ (x : ℕ). eqb x a) (listed_at n i f 0 k))
