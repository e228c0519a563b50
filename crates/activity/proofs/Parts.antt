-- The parts of the activity listing, one after the other, are the whole.
--   part_unique       outcome and buffer afterwards follow from the input
--   part_told         done, the part's text is at the front of the buffer, as long as is told
--   lines_split       the lines of some rows: the first ones, then those behind them
--   Printed           what calls of `activity_part` wrote, from one row to another, appended
--   parts_whole       from row 0 to the last, whatever the calls' contract allows: the text of the whole trace
--   parts_checked     and the whole passes what is asked of a trace in lists
use Rattle.std.specs.Prelude.{Ok}
use Prim.Native.Nat.{ℕ, zero, suc, ◌+◌, ◌-◌, ◌<◌, ◌≤◌}
use native.Mathlib.Omega.{arith}
use native.Mathlib.Nat.{add-zero}
use mathlib.Core.Path.{◌≡◌, refl, sym, ap, ◌∙◌}
use mathlib.Core.List.{List, ◌++◌, append_assoc}
use lib.ListN.{length, take}
use lib.Seq.{take_at}
use Rattle.basics.specs.Refusing.{Outcome}
use Rattle.basics.specs.Words.{listed}
use Rattle.basics.specs.Text.{joined}
use Rattle.basics.specs.Memory.{after}
use Rattle.basics.proofs.Stable.{lt_stable, le_stable}
use Rattle.basics.proofs.Memory.{after_unique}
use Rattle.alf.specs.Names.{names_in}
use Rattle.alf.specs.Refusals.{Passed, Comes}
use Rattle.alf.proofs.Orders.{fixed_both, passed_both, passed_left}
use Rattle.alf.proofs.Outcomes.{AllFixed, at_fixed, first_fixed, comes_unique}
use Rattle.trace_writer.specs.Writing.{lent_order, rows_order, lists_order}
use Rattle.trace_writer.proofs.TraceChecks.{rows_fixed, rows_split}
use Rattle.row_lines.specs.Lines.{row_lines}
use Rattle.activity.specs.Activity.{opening, part_text, activity_text, PartOf, part_order, ListsPart}
use Rattle.activity.proofs.WholeText.{opening_none, whole_part}

module _ (names times states : List ℕ) (n from to : ℕ) (out : List ℕ) where
  part_fixed : AllFixed (part_order names times states n from to (length out))
  part_fixed = (
    at_fixed _ _,
    (
      first_fixed _,
      (
        at_fixed _ _,
        fixed_both (rows_order (names_in names) times states from (to - from)) _
            (rows_fixed (names_in names) times states from (to - from)) (at_fixed _ _, tt),
      ),
    ),
  )

  pub part_unique : {x y : List ℕ} {r s : Outcome} → ListsPart names times states n from to out x r
      → ListsPart names times states n from to out y s → (r ≡ s) × (x ≡ y)
  part_unique {r = r} {s = s} a b =
      let e = comes_unique (part_order names times states n from to (length out)) _ part_fixed (λ j k p q. p ∙ sym q)
      r s a.outcome b.outcome in
      (e, after_unique _ out e a.memory b.memory)

  module _ {out' : List ℕ} {m : ℕ} (w : ListsPart names times states n from to out out' (Ok m)) where
    pub part_told : take m out' ≡ part_text names (names_in names) times states from (to - from)
    unfolding Comes after
    part_told = rw w.memory (take_at _ _ m (sym w.outcome.1))

    part_passed : Passed (rows_order (names_in names) times states from (to - from))
    unfolding Comes Passed
    part_passed = passed_left (rows_order (names_in names) times states from (to - from)) _ w.outcome.0.1.1.1

    part_of : PartOf n from to
    unfolding Comes Passed
    part_of =
        let there : (PartOf n from to → ⊥) → ⊥ = λ h. w.outcome.0.1.1.0 0 (record { given = h; there = refl }) in
        record {
          some = lt_stable from to (λ h. there (λ p. h p.some));
          within = le_stable to n (λ h. there (λ p. h p.within));
        }

    lists_passed : Passed (lent_order names times states n)
    unfolding Comes
    lists_passed = passed_left (lent_order names times states n) _ w.outcome.0

-- the lines of some rows, and of those behind them
listed_split : (f : ℕ → List ℕ) (first a b : ℕ)
    → joined (listed first (a + b) f) ≡ joined (listed first a f) ++ joined (listed (first + a) b f)
unfolding joined listed
listed_split f first zero b =
    let e : 0 + b ≡ b = omega arith in
    rw (e, add-zero) refl
listed_split f first (suc a) b =
    let e : suc a + b ≡ suc (a + b) = omega arith in
    let g : first + suc a ≡ first + 1 + a = omega arith in
    rw (e, g, listed_split f (first + 1) a b) (sym (append_assoc (f first) _ _))

pub lines_split : (names : List ℕ) (k : ℕ) (times states : List ℕ) (first a b : ℕ)
    → row_lines names k times states first (a + b)
    ≡ row_lines names k times states first a ++ row_lines names k times states (first + a) b
unfolding row_lines
lines_split names k times states first a b = listed_split _ first a b

-- a part in two
parts_split : (names : List ℕ) (k : ℕ) (times states : List ℕ) (a b c : ℕ) → a < b → b ≤ c
    → part_text names k times states a (b - a) ++ row_lines names k times states b (c - b)
    ≡ part_text names k times states a (c - a)
unfolding part_text
parts_split names k times states a b c h l =
    let e : c - a ≡ b - a + (c - b) = omega arith in
    let g : a + (b - a) ≡ b = omega arith in
    rw (e, lines_split names k times states a (b - a) (c - b), g) (append_assoc (opening names k a) _ _)

-- What calls wrote for the rows from one to another, any number of them at a time, one call after the other; the buffer
-- may be another at each call.
pub data Printed (names times states : List ℕ) (n : ℕ) : ℕ → ℕ → List ℕ → Type 0 where
  last : {from to : ℕ} {out out' : List ℕ} {m : ℕ} → ListsPart names times states n from to out out' (Ok m)
      → Printed names times states n from to (take m out')
  more : {from between to : ℕ} {out out' : List ℕ} {m : ℕ} {rest : List ℕ}
      → ListsPart names times states n from between out out' (Ok m)
      → Printed names times states n between to rest → Printed names times states n from to (take m out' ++ rest)

-- what is so of the rows from one to another once they are printed
record Shown (names times states : List ℕ) (n from to : ℕ) (text : List ℕ) : Type 0 where
  whole : text ≡ part_text names (names_in names) times states from (to - from)
  part : PartOf n from to
  lists : Passed (lent_order names times states n)
  rows : Passed (rows_order (names_in names) times states from (to - from))

module _ (names times states : List ℕ) (n : ℕ) where
  one_shown : {from to : ℕ} {out out' : List ℕ} {m : ℕ} → ListsPart names times states n from to out out' (Ok m)
      → Shown names times states n from to (take m out')
  one_shown w =
      record {
        whole = part_told names times states n _ _ _ w;
        part = part_of names times states n _ _ _ w;
        lists = lists_passed names times states n _ _ _ w;
        rows = part_passed names times states n _ _ _ w;
      }

  -- a part and what is shown behind it
  both_shown : {from between to : ℕ} {text rest : List ℕ} → Shown names times states n from between text
      → Shown names times states n between to rest → Shown names times states n from to (text ++ rest)
  unfolding part_text
  both_shown {from} {between} {to} {text} {rest} a b =
      let k = names_in names in
      let behind : between ≡ 0 → ⊥ = λ e. omega (arith, e, a.part.some) in
      let lines : rest ≡ row_lines names k times states between (to - between) =
      b.whole ∙ ap (λ (l : List ℕ). l ++ row_lines names k times states between (to - between))
      (opening_none names k behind) in
      let e : to - from ≡ between - from + (to - between) = omega (arith, a.part.some, b.part.some) in
      let g : from + (between - from) ≡ between = omega (arith, a.part.some) in
      record {
        whole =
            rw (a.whole, lines)
            (parts_split names k times states from between to a.part.some
            (omega (arith, b.part.some)));
        part = record { some = omega (arith, a.part.some, b.part.some); within = b.part.within };
        lists = a.lists;
        rows =
            rw (e, rows_split k times states from (between - from) (to - between), g)
            (passed_both (rows_order k times states from (between - from)) _ a.rows b.rows);
      }

  shown : {from to : ℕ} {text : List ℕ} → Printed names times states n from to text
      → Shown names times states n from to text
  shown (last w) = one_shown w
  shown (more w p) = both_shown (one_shown w) (shown p)

  module _ {text : List ℕ} (p : Printed names times states n 0 n text) where
    pub parts_whole : text ≡ activity_text names times states n
    parts_whole =
        let e : n - 0 ≡ n = omega arith in
        (rw e at (shown p).whole) ∙ whole_part names times states n

    pub parts_checked : Passed (lists_order names times states n)
    parts_checked =
        let e : n - 0 ≡ n = omega arith in
        passed_both (lent_order names times states n) _ (shown p).lists (rw e at (shown p).rows)
