-- The text in its parts, and what the two calls come to.
--   head_sized, head_start                    the head line
--   none_sized, opening_sized, none_put, head_fits, head_put    the head before row 0, nothing before other rows
--   part_size, part_start                     a part: the head or nothing, the rows
--   part_good, checked_good                   rows that were checked
--   whole_good, whole_part                    the whole is a part
--   tells_refused, tells_delivered            the whole: refused by the check of the trace, or passed
--   no_part, rows_refused, part_delivered, lists_refused, lists_passed    a part, likewise
use Rattle.std.specs.Prelude.{Err, Ok}
use Prim.Native.Nat.{ℕ, ◌+◌, ◌-◌, ◌*◌, ◌≤◌}
use native.Mathlib.Omega.{arith}
use mathlib.Core.Path.{◌≡◌, refl, sym, ap, ◌∙◌}
use mathlib.Core.List.{List, [], ◌∷◌, ◌++◌, append-nil}
use mathlib.Core.Logic.{inl, inr}
use lib.ListN.{length, length-append}
use borrow.Author.Tests.{ne_eqb}
use Rattle.basics.specs.declared.Refusal.{Refusal}
use Rattle.basics.specs.Refusing.{Outcome}
use Rattle.basics.specs.Memory.{Put, Room, after}
use Rattle.basics.proofs.PartByPart.{flat, Going, going_start, put_none}
use Rattle.alf.specs.Names.{names_in}
use Rattle.alf.specs.Refusals.{check, At, RefusedWith, Passed, Comes}
use Rattle.alf.proofs.Orders.{Is, by_first, passed_right}
use Rattle.basics.specs.Text.{bytes, joined}
use Rattle.figures.specs.Delivering.{Delivers}
use Rattle.listing.specs.Inner.{Sized}
use Rattle.trace_writer.specs.Putting.{SlotsLent, NamesGood, Good}
use Rattle.trace_writer.specs.Writing.{lent_order, rows_order, lists_order}
use Rattle.trace_writer.proofs.TraceChecks.{comes_first, comes_then, lists_pass, some_rows, rows_good}
use Rattle.row_lines.specs.Lines.{members, row_lines}
use Rattle.row_lines.specs.Inner.{marked, PartGood}
use Rattle.row_lines.proofs.NameSets.{members_all}
use Rattle.activity.specs.Activity.{head_line, opening, part_text, activity_text, ListsActivity, PartOf, ListsPart}
use Rattle.activity.specs.Inner.{HeadFits, OpeningFits, WritesPart}

module _ (names : List ℕ) {k : ℕ} (few : k ≤ 32) where
  abbrev pub head_parts : List (List ℕ)
  head_parts = bytes "time" ∷ members names k (marked 4294967295) ∷ bytes " changed\n" ∷ []

  head_parts_lem : head_line names k ≡ flat head_parts
  unfolding head_line joined
  head_parts_lem = rw (members_all names k few) refl

  pub head_sized : {m : ℕ} → Sized (members names k (marked 4294967295)) (k * 33) m
      → Sized (head_line names k) (k * 33 + 13) (m + 13)
  unfolding bytes
  head_sized w =
      record {
        is =
            omega (
              arith,
              ap length head_parts_lem,
              length-append (members names k (marked 4294967295)) (bytes " changed\n"),
              w.is,
            );
        few = omega (arith, w.few);
      }

  pub head_start : {out : List ℕ} {at : ℕ} → Room out at (head_line names k)
      → Going out at (head_line names k) head_parts out at
  head_start room = going_start head_parts head_parts_lem room

-- the head before row 0, and nothing before any other row
module _ (names : List ℕ) (k : ℕ) {first : ℕ} where
  pub opening_none : (first ≡ 0 → ⊥) → opening names k first ≡ []
  unfolding opening
  opening_none n = rw (ne_eqb first 0 n) refl

  opening_head : first ≡ 0 → opening names k first ≡ head_line names k
  unfolding opening
  opening_head e = rw e refl

  pub none_sized : (first ≡ 0 → ⊥) → Sized (opening names k first) (k * 33 + 13) 0
  none_sized n = record { is = sym (ap length (opening_none n)); few = omega arith }

  pub opening_sized : {m : ℕ} → k ≤ 32 → first ≡ 0 → Sized (members names k (marked 4294967295)) (k * 33) m
      → Sized (opening names k first) (k * 33 + 13) (m + 13)
  opening_sized h e w = rw (opening_head e) (head_sized names h w)

  pub none_put : {out : List ℕ} {at : ℕ} → (first ≡ 0 → ⊥) → Put out at (opening names k first) out at
  none_put n = rw (opening_none n) put_none

  pub head_fits : {out : List ℕ} {at : ℕ} → first ≡ 0 → OpeningFits names k first out at → HeadFits names k out at
  head_fits e f = record { slots = f.slots; room = rw (opening_head e) at f.room }

  pub head_put : {out out' : List ℕ} {at r : ℕ} → first ≡ 0 → Put out at (head_line names k) out' r
      → Put out at (opening names k first) out' r
  head_put e p = rw (opening_head e) p

-- a part: the head or nothing, then the rows
module _ (names : List ℕ) (k : ℕ) (times states : List ℕ) (first many : ℕ) where
  pub part_size : {a b x y : ℕ} → Sized (opening names k first) x a
      → Sized (row_lines names k times states first many) y b
      → a + b ≡ length (part_text names k times states first many)
  unfolding part_text
  part_size u v =
      omega (
        arith,
        length-append (opening names k first) (row_lines names k times states first many),
        u.is,
        v.is,
      )

  pub part_start : {out : List ℕ} {size : ℕ} → size ≡ length (part_text names k times states first many)
      → size ≤ length out
      → Going out 0 (part_text names k times states first many)
      (opening names k first ∷ row_lines names k times states first many ∷ []) out 0
  unfolding part_text
  part_start e h =
      going_start _
      (ap (λ (l : List ℕ). opening names k first ++ l) (sym (append-nil (row_lines names k times states first many))))
      (omega (arith, e))

-- lists that are good, and some of their rows, or all
module _ {names times states : List ℕ} {n k : ℕ} (g : NamesGood names times states n k) where
  slots_lent : SlotsLent names k
  slots_lent = record { there = rw g.counted (omega arith); few = rw g.counted g.all.slots.few }

  pub part_good : (first many : ℕ) → first + many ≤ n → Passed (rows_order k times states first many)
      → PartGood names k times states first many
  part_good first many h p =
      record {
        slots = slots_lent;
        some = rw g.counted g.all.slots.some;
        few = omega (arith, g.all.lists.few);
        rows = some_rows g first many h;
        known = λ r i. rows_good k times states first many r i p;
      }

  -- the rows from one to another, once they are checked
  pub checked_good : {from to m : ℕ} {o : Outcome} → PartOf n from to
      → Comes (rows_order k times states from (to - from)) (λ m. m ≡ k) o → o ≡ Ok m
      → PartGood names k times states from (to - from)
  unfolding Comes
  checked_good {from} {to} {m} p c e =
      let done : Comes (rows_order k times states from (to - from)) (λ m. m ≡ k) (Ok m) = rw e at c in
      part_good from (to - from) (omega (arith, p.some, p.within)) done.0

pub whole_good : {names times states : List ℕ} {n k : ℕ} → Good names times states n k
    → PartGood names k times states 0 n
whole_good {names} {times} {states} {n} {k} g =
    part_good g.named 0 n (omega arith)
    (rw g.named.counted (passed_right (lent_order names times states n) _ g.passed))

pub whole_part : (names times states : List ℕ) (n : ℕ)
    → part_text names (names_in names) times states 0 n ≡ activity_text names times states n
unfolding part_text opening activity_text
whole_part names times states n = refl

-- the whole: refused by the check of the trace, or passed
module _ {names times states : List ℕ} {n : ℕ} {out : List ℕ} where
  pub tells_refused : {o : Outcome} {r : Refusal} (made : ℕ → Type 0)
      → Comes (lists_order names times states n) made o → o ≡ Err r
      → ListsActivity names times states n out out (Err r)
  unfolding after
  tells_refused made c e =
      record { outcome = comes_first (lists_order names times states n) _ made _ c e; memory = refl }

  pub tells_delivered : {k : ℕ} {out' : List ℕ} {r : Outcome} → Good names times states n k
      → Delivers (part_text names k times states 0 n) out out' r
      → ListsActivity names times states n out out' r
  tells_delivered {k} {out'} {r} g d =
      let whole : part_text names k times states 0 n ≡ activity_text names times states n =
      ap (λ (m : ℕ). part_text names m times states 0 n) g.named.counted ∙ whole_part names times states n in
      let e : Delivers (activity_text names times states n) out out' r = rw whole at d in
      record {
        outcome = comes_then (lists_order names times states n) _ _ r g.passed e.outcome;
        memory = e.memory;
      }

-- a part: refused because there are no such rows, or by one of them, or passed
module _ {names : List ℕ} {k : ℕ} {times states : List ℕ} {n from to : ℕ} {out : List ℕ} where
  pub no_part : {o : Outcome} → (PartOf n from to → ⊥) → Is o 19 0
      → WritesPart names k times states n from to out out o
  unfolding Comes RefusedWith after
  no_part h e =
      rw e
      (record {
        outcome = record { by = inl (refl, record { given = h; there = refl }); bare = refl };
        memory = refl;
      })

  module _ (p : PartOf n from to) where
    pub rows_refused : {o : Outcome} {r : Refusal} (made : ℕ → Type 0)
        → Comes (rows_order k times states from (to - from)) made o → o ≡ Err r
        → WritesPart names k times states n from to out out (Err r)
    unfolding Comes RefusedWith after
    rows_refused {r = r} made c e =
        let h = by_first (rows_order k times states from (to - from)) _ (rw e at c) in
        record {
          outcome = record { by = inr ((λ q a. a.given p), h.by); bare = h.bare };
          memory = refl;
        }

    pub part_delivered : {o : Outcome} {m : ℕ} {out' : List ℕ} {r : Outcome}
        → Comes (rows_order k times states from (to - from)) (λ m. m ≡ k) o → o ≡ Ok m
        → Delivers (part_text names k times states from (to - from)) out out' r
        → WritesPart names k times states n from to out out' r
    unfolding Comes Passed
    part_delivered {o} {m} {out'} {r} c e d =
        let done : Comes (rows_order k times states from (to - from)) (λ m. m ≡ k) (Ok m) = rw e at c in
        record {
          outcome =
              comes_then (check 19 (At 0 (PartOf n from to → ⊥)) ∷ rows_order k times states from (to - from)) _ _ r
              ((λ q a. a.given p), done.0) d.outcome;
          memory = d.memory;
        }

-- what was checked first: the lists
module _ {names times states : List ℕ} {n from to : ℕ} {out : List ℕ} where
  pub lists_refused : {o : Outcome} {r : Refusal} (made : ℕ → Type 0)
      → Comes (lent_order names times states n) made o → o ≡ Err r
      → ListsPart names times states n from to out out (Err r)
  unfolding after
  lists_refused made c e =
      record { outcome = comes_first (lent_order names times states n) _ made _ c e; memory = refl }

  pub lists_passed : {k : ℕ} {out' : List ℕ} {r : Outcome} → NamesGood names times states n k
      → WritesPart names k times states n from to out out' r
      → ListsPart names times states n from to out out' r
  lists_passed {k} {out'} {r} g w =
      let v : WritesPart names (names_in names) times states n from to out out' r = rw g.counted at w in
      record {
        outcome = comes_then (lent_order names times states n) _ _ r (lists_pass g) v.outcome;
        memory = v.memory;
      }
