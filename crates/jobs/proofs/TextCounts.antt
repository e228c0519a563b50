-- What `count_text` comes to, case by case, and that it is one thing.
--   text_refused     the text is refused
--   tree_counted     the text is read, and its tree is counted or refused
--   counted_rows     what is counted is counted on 1 to 65,535 rows
--   counts_unique    any two results that the contract allows coincide
use Rattle.std.specs.Prelude.{Err, Ok}
use Prim.Native.Nat.{ℕ}
use mathlib.Core.Path.{◌≡◌, refl, ap, sym, ◌∙◌}
use mathlib.Core.List.{List}
use lib.ListN.{take}
use Rattle.alf.specs.declared.Rules.{Rules}
use Rattle.alf.specs.Names.{names_in}
use Rattle.basics.specs.Words.{all}
use Rattle.basics.specs.declared.Refusal.{Refusal}
use Rattle.alf.specs.declared.Sort.TheVariants as sort
use Rattle.alf.specs.Decoder.{Stack, Decodes, top_vector}
use Rattle.alf.specs.States.{among}
use Rattle.alf.specs.Steady.{meant}
use Rattle.alf.specs.Refusals.{RowCount, RefusedBy, Passed, numbers_of}
use Rattle.alf.proofs.Outcomes.{at_fixed, first_fixed, refused_passed}
use Rattle.basics.proofs.Stable.{le_stable}
use Rattle.alf.proofs.Orders.{passed_both, passed_right}
use Rattle.alf.proofs.Orders.{Sole, sole_both, sole_fixed}
use Rattle.matcher.specs.declared.tables.Total.{Total}
use Rattle.tokens.specs.Extents.{RefusedIn}
use Rattle.tokens.proofs.ShownBytes.{in_first, in_then, in_silent, refused_in_unique}
use Rattle.reader.specs.declared.Read.{Read}
use Rattle.reader.specs.Reading.{read_order, ReadsText}
use Rattle.reader.proofs.Unique.{gives_unique}
use Rattle.matching_calls.specs.Matching.{Counting}
use Rattle.matching_calls.specs.Matching.{expression, Counts, RowTotals}
use Rattle.text_laws.proofs.ReadTrees.{Found, read_refused, read_sole, found_accepted, found_vector}
use Rattle.text_laws.proofs.ReadTrees.{vector_given, vector_decodes}
use Rattle.jobs.specs.Counting.{trace_checks, count_order, TotalsText, CountsIn, CountsText}
use Rattle.jobs.proofs.TextOrders.{passed_without_ten, refused_without_ten}

tree_is : {ρ : Rules} {names text : List ℕ} {r : Read} (f : Found ρ names text sort.Vector r)
    → expression ρ (take r.len r.tree) (names_in names) ≡ meant ρ (found_vector f).p
unfolding Decodes top_vector
tree_is {ρ} f = ap (λ (s : Stack). meant ρ (top_vector s)) (vector_decodes f)

-- 18 and 15 of the trace show no bytes of the text
trace_refused : (k n : ℕ) (states text : List ℕ) {q : Refusal} → RefusedBy (trace_checks k n states) q
    → RefusedIn text (trace_checks k n states) q
unfolding all numbers_of among
trace_refused k n states text h = in_silent text (trace_checks k n states) refl h

module _ {ρ : Rules} {names : List ℕ} {n : ℕ} {states text : List ℕ} where
  pub text_refused : {r : Refusal} → ReadsText ρ names text sort.Vector (Err r)
      → CountsText ρ names n states text (Err r)
  unfolding CountsIn
  text_refused h = record { comes = in_first text (read_order ρ names text sort.Vector) _ (read_refused h) }

  module _ {r : Read} (f : Found ρ names text sort.Vector r) where
    counted : (c : Counting) → RowTotals ρ (names_in names) n (take r.len r.tree) states c
        → CountsText ρ names n states text c
    unfolding Counts CountsIn
    counted (Ok t) h =
        let (a, b) = h.comes in
        record {
          comes = (
            passed_both (read_order ρ names text sort.Vector) _ f.passed
                (passed_without_ten _ _ _ (found_accepted f) a),
            record { pattern = (found_vector f).p; given = vector_given f; totals = rw (tree_is f) at b },
          );
        }
    counted (Err q) h =
        record {
          comes =
              in_then text (read_order ρ names text sort.Vector) _ f.passed
              (trace_refused _ n states text (refused_without_ten _ _ _ (found_accepted f) h.comes));
        }

    pub tree_counted : {c : Counting} → RowTotals ρ (names_in names) n (take r.len r.tree) states c
        → CountsText ρ names n states text c
    tree_counted {c} h = counted c h

-- 18 is not given
pub counted_rows : {ρ : Rules} {names : List ℕ} {n : ℕ} {states text : List ℕ} {t : Total}
    → CountsText ρ names n states text (Ok t) → RowCount n
unfolding CountsIn Passed
counted_rows {ρ} {names} {n} {states} {text} h =
    let p : Passed (trace_checks (names_in names) n states) =
    passed_right (read_order ρ names text sort.Vector) _ h.comes.0 in (
      le_stable 1 n (λ k. p.0 0 (record { given = λ r. k r.row_count.0; there = refl })),
      le_stable n 65535 (λ k. p.0 0 (record { given = λ r. k r.row_count.1; there = refl })),
    )

-- one result
totals_unique : {ρ : Rules} {names : List ℕ} {n : ℕ} {states text : List ℕ} {a b c x y z : ℕ}
    → TotalsText ρ names n states text a b c → TotalsText ρ names n states text x y z
    → (a ≡ x) × (b ≡ y) × (c ≡ z)
totals_unique h k =
    let e = gives_unique h.given k.given in
    let p : h.pattern ≡ k.pattern = cc in
    let t = rw p at h.totals in
    let u = k.totals in
    (t.yeses ∙ sym u.yeses, t.noes ∙ sym u.noes, t.unknowns ∙ sym u.unknowns)

module _ (ρ : Rules) (names : List ℕ) (n : ℕ) (states text : List ℕ) where
  count_sole : Sole (count_order ρ names n states text)
  count_sole =
      sole_both (read_order ρ names text sort.Vector) (trace_checks (names_in names) n states)
      (read_sole ρ names text sort.Vector)
      (sole_fixed (trace_checks (names_in names) n states) (at_fixed _ _, (first_fixed _, tt)))

  counts_one : (a b : Counting)
      → CountsIn text (count_order ρ names n states text) (TotalsText ρ names n states text) a
      → CountsIn text (count_order ρ names n states text) (TotalsText ρ names n states text) b
      → a ≡ b
  unfolding CountsIn
  counts_one (Ok t) (Ok u) x y =
      let e = totals_unique x.1 y.1 in λ i. Ok (record { yes = e.0 i; no = e.1 i; unknown = e.2 i })
  counts_one (Ok t) (Err s) x y = absurd
      (refused_passed (count_order ρ names n states text) _ _ x.0 y.by)
  counts_one (Err r) (Ok u) x y = absurd
      (refused_passed (count_order ρ names n states text) _ _ y.0 x.by)
  counts_one (Err r) (Err s) x y =
      ap Err (refused_in_unique text (count_order ρ names n states text) count_sole x y)

pub counts_unique : {ρ : Rules} {names : List ℕ} {n : ℕ} {states text : List ℕ} {a b : Counting}
    → CountsText ρ names n states text a → CountsText ρ names n states text b → a ≡ b
counts_unique {ρ} {names} {n} {states} {text} {a} {b} x y = counts_one ρ names n states text a b x.comes y.comes
