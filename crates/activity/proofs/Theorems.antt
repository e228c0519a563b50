-- The statements that the activity listing stands for, besides Examples.
--   activity_unique     outcome and buffer afterwards follow from the input
--   first_row_none      the line of row 0 tells that none changed, and names none
use Prim.Native.Nat.{ℕ, zero, suc, ◌+◌}
use native.Mathlib.Omega.{arith}
use mathlib.Core.Path.{◌≡◌, refl, sym, ◌∙◌}
use mathlib.Core.Bool.{false}
use mathlib.Core.List.{List, [], ◌++◌}
use lib.ListN.{length}
use Rattle.basics.specs.Refusing.{Outcome}
use Rattle.basics.specs.Words.{count, listed}
use Rattle.basics.proofs.Memory.{after_unique}
use Rattle.alf.specs.Values.{row_of}
use Rattle.alf.specs.Traces.{changed, change_count}
use Rattle.alf.proofs.Orders.{fixed_both}
use Rattle.alf.proofs.Outcomes.{AllFixed, at_fixed, comes_unique}
use Rattle.basics.specs.Text.{bytes, joined}
use Rattle.figures.specs.Numbers.{digits, width_up_to, width, decimal}
use Rattle.trace_writer.specs.Writing.{lists_order}
use Rattle.trace_writer.proofs.TraceChecks.{trace_fixed}
use Rattle.row_lines.specs.Lines.{member, members, letters, row_line}
use Rattle.activity.specs.Activity.{activity_order, ListsActivity}

pub activity_unique :
    (names times states : List ℕ) (n : ℕ) (out : List ℕ) {x y : List ℕ} {r s : Outcome} →
    ListsActivity names times states n out x r →
    ListsActivity names times states n out y s →
    (r ≡ s) × (x ≡ y)
activity_unique names times states n out {r = r} {s = s} a b =
    let f : AllFixed (activity_order names times states n (length out)) =
    fixed_both (lists_order names times states n) _ (trace_fixed names times states n) (at_fixed _ _, tt) in
    let e = comes_unique (activity_order names times states n (length out)) _ f (λ j k p q. p ∙ sym q) r s
    a.outcome b.outcome in
    (e, after_unique _ out e a.memory b.memory)

none_counted : (k : ℕ) → count k (λ i. false) ≡ 0
unfolding count
none_counted zero = refl
none_counted (suc k) = let e = none_counted k in omega arith

none_named : (names : List ℕ) (a k : ℕ) → joined (listed a k (member names (λ i. false))) ≡ []
unfolding joined listed member
none_named names a zero = refl
none_named names a (suc k) = none_named names (a + 1) k

pub first_row_none : (names : List ℕ) (k : ℕ) (states : List ℕ) (time : ℕ)
    → row_line names k states time 0 ≡ decimal time ++ (letters k (row_of k states 0) ++ bytes " 0\n")
unfolding row_line changed change_count members joined bytes decimal width width_up_to digits
first_row_none names k states time = rw (none_counted k, none_named names 0 k) refl
