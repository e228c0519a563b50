-- What the calls come to that write a text for a tree, case by case.
--   list_asked, list_refused, list_written    the listing, by the verdict
--   answers_asked, answers_filled, answers_listable, answers_listed    the answers that are listed
--   counted_few, line_refused, line_written   the line, by what is counted
--   listed_most                   a list from a rule is as small as the rule
use Rattle.std.specs.Prelude.{Err, Ok}
use Prim.Native.Nat.{ℕ, ◌<◌, ◌≤◌}
use native.Mathlib.Omega.{arith}
use mathlib.Core.Path.{◌≡◌, refl, sym, ap, ◌∙◌}
use mathlib.Core.List.{List}
use lib.Dec.{eqb}
use lib.ListN.{length, get_or}
use Rattle.alf.specs.declared.Rules.{Rules}
use Rattle.alf.specs.declared.Sort.TheVariants as sort
use Rattle.basics.specs.declared.Refusal.{Refusal}
use Rattle.basics.specs.Refusing.{Outcome}
use Rattle.basics.specs.Words.{listed}
use Rattle.basics.specs.Memory.{after, placed}
use Rattle.basics.proofs.Deciding.{eqb_decides}
use Rattle.basics.proofs.Listed.{listed_length}
use Rattle.basics.proofs.Stable.{le_stable}
use Rattle.basics.proofs.Stores.{placed_whole}
use Rattle.basics.proofs.Tables.{listed_at}
use Rattle.alf.specs.Values.{state_at}
use Rattle.alf.specs.Alternatives.{answer_of}
use Rattle.alf.specs.Refusals.{Order, RefusedBy, Passed, Comes}
use Rattle.alf.proofs.Answers.{row_answer_small}
use Rattle.alf.proofs.Orders.{by_first, by_then, passed_both}
use Rattle.acceptance.specs.Accepted.{Accepted}
use Rattle.states.specs.FirstBadCode.{Codes}
use Rattle.matcher.specs.declared.tables.Total.{Total}
use Rattle.correction.specs.Corrections.{RewriteAsked}
use Rattle.alternatives.specs.declared.lists.Lists.{Lists}
use Rattle.rewriting.specs.Lists.{StandFor}
use Rattle.judging.specs.Orders.{Verdict}
use Rattle.judging.specs.Orders.{Rows, order, codes, rows_order, Judged, ChecksRows}
use Rattle.judging.proofs.Verdicts.{judged_good, judged_not}
use Rattle.judging.proofs.Checked.{lent_as}
use Rattle.matching_calls.specs.Matching.{Counting}
use Rattle.matching_calls.specs.Matching.{expression, answers_on, Counts, RowTotals}
use Rattle.matching_calls.proofs.Matches.{rows_asked}
use Rattle.matching_calls.proofs.ByAlternatives.{xs, numbers_on}
use Rattle.figures.specs.Delivering.{line_order, Delivers}
use Rattle.listing.specs.Listing.{listing}
use Rattle.listing.specs.Inner.{Listable}
use Rattle.table_lines.specs.Table.{pattern_line}
use Rattle.tree_listings.specs.TreeTexts.{pattern_listing, totals_line, text_order, ListsTree, LinesTree}
use Rattle.tree_listings.specs.TreeTexts.{Answered, Filling}

-- 18, 10 or 15; and 9 behind them
module _ (ρ : Rules) (lists : Type 0) (names : ℕ) (tree states text : List ℕ) where
  abbrev checks : Order
  checks = order lists (Accepted ρ names sort.Vector tree) (codes states)

  text_refused : (room : ℕ) (r : Refusal) → RefusedBy checks r
      → RefusedBy (text_order ρ lists names tree states text room) r
  text_refused room r h = by_first checks (line_order text room) h

  text_written : (room : ℕ) (r : Outcome) → Passed checks → Comes (line_order text room) (λ m. m ≡ length text) r
      → Comes (text_order ρ lists names tree states text room) (λ m. m ≡ length text) r
  unfolding Comes
  text_written room (Ok m) p c = (passed_both checks (line_order text room) p c.0, c.1)
  text_written room (Err r) p c = by_then checks (line_order text room) p c

-- The answers, in a list of n entries.
pub listed_most : (most n : ℕ) (f : ℕ → ℕ) → ((i : ℕ) → f i ≤ most) → (i : ℕ) → i < length (listed 0 n f)
    → get_or (listed 0 n f) i 0 ≤ most
listed_most most n f h i l = rw (listed_at n i f 0 (omega (arith, listed_length 0 n f))) (h i)

module _ {ρ : Rules} {names n : ℕ} {tree states answers : List ℕ} (f : Filling ρ names n tree states answers) where
  module _ {ls : Lists} (h : StandFor ρ tree names ls) where
    pub answers_asked : RewriteAsked tree names states ls.steps.now
        ls.tests.now ls.edges.now
        ls.operands.now n 0 n answers
    answers_asked =
        record {
          asked = record { shape = h.shape; rows = f.answered.asked.rows };
          there = omega arith;
          room = omega (arith, f.size);
        }

    pub answers_filled : {answers' : List ℕ}
        → answers' ≡ placed answers 0 (listed 0 n (answer_of (state_at ρ names states) (xs h)))
        → answers' ≡ listed 0 n (answers_on ρ names tree states)
    answers_filled e =
        e ∙ placed_whole answers _ (listed_length 0 n _ ∙ sym f.size)
        ∙ ap (λ (g : ℕ → ℕ). listed 0 n g) (numbers_on h states)

module _ (ρ : Rules) (times : List ℕ) {names : ℕ} {tree states answers answers' : List ℕ}
    (f : Filling ρ names (length times) tree states answers)
    (e : answers' ≡ listed 0 (length times) (answers_on ρ names tree states)) where
  pub answers_listable : Listable 3 times answers'
  answers_listable =
      rw e
      (record {
        lists =
            record {
              rows = (f.answered.some, f.answered.asked.rows.few);
              same = listed_length 0 (length times) (answers_on ρ names tree states);
            };
        good = listed_most 3 (length times) (answers_on ρ names tree states) (λ i. row_answer_small _ _ i);
      })

  pub answers_listed : {out out' : List ℕ} {r : Outcome} → Delivers (listing times answers') out out' r
      → Delivers (pattern_listing ρ names times states (expression ρ tree names)) out out' r
  unfolding pattern_listing
  answers_listed d = rw e at d

-- The listing, by the verdict.
module _ {ρ : Rules} {names n : ℕ} {tree states : List ℕ} (times : List ℕ) {v : Verdict}
    (c : ChecksRows ρ names n (eqb (length times) n) tree sort.Vector states v) where
  abbrev Fits : Type 0
  Fits = (length times ≡ n) × Rows names n (length states)

  abbrev shown : List ℕ
  shown = pattern_listing ρ names times states (expression ρ tree names)

  as_lists : Judged (rows_order ρ names n (length times ≡ n) tree sort.Vector states)
      (Fits × Accepted ρ names sort.Vector tree × Codes states) v
  as_lists =
      lent_as ρ names n tree sort.Vector states (eqb (length times) n) (length times ≡ n)
      (eqb_decides (length times) n) c

  pub list_asked : v ≡ (Ok tt) → Answered ρ names (length times) tree states
  list_asked e =
      let ((x, l), a, s) = (judged_good as_lists e).1 in
      rw x (record { asked = record { accepted = a; rows = rows_asked l s }; some = l.row_count.0 })

  pub list_refused : {out : List ℕ} {r : Refusal} → v ≡ Err r
      → ListsTree ρ names n tree times states out out (Err r)
  unfolding Comes after
  list_refused {out} {r} e =
      record {
        comes = text_refused ρ Fits names tree states shown (length out) r (judged_not as_lists e);
        memory = refl;
      }

  pub list_written : {out out' : List ℕ} {r : Outcome} → v ≡ (Ok tt)
      → Delivers (pattern_listing ρ names times states (expression ρ tree names)) out out' r
      → ListsTree ρ names n tree times states out out' r
  list_written {out} {r = r} e d =
      record {
        comes = text_written ρ Fits names tree states shown (length out) r (judged_good as_lists e).0 d.outcome;
        memory = d.memory;
      }

-- The line, by what is counted.
module _ {ρ : Rules} {names n : ℕ} {tree states : List ℕ} {c : Counting} (h : RowTotals ρ names n tree states c) where
  counted : {t : Total} → c ≡ Ok t → RowTotals ρ names n tree states (Ok t)
  counted e = rw e at h

  pub counted_few : {t : Total} → c ≡ Ok t → n ≤ 65535
  unfolding Counts Passed
  counted_few e =
      let p = (counted e).comes.0 in
      le_stable n 65535 (λ k. p.0 0 (record { given = λ l. k l.row_count.1; there = refl }))

  pub line_refused : {shown out : List ℕ} {r : Refusal} → c ≡ Err r
      → LinesTree ρ names n tree states shown out out (Err r)
  unfolding Counts Comes after
  line_refused {shown} {out} {r} e =
      record {
        comes =
            text_refused ρ (Rows names n (length states)) names tree states
            (totals_line ρ names n states shown (expression ρ tree names)) (length out) r (rw e at h.comes);
        memory = refl;
      }

  pub line_written : (shown : List ℕ) {out out' : List ℕ} {t : Total} {r : Outcome} → c ≡ Ok t
      → Delivers (pattern_line shown t.yes t.unknown t.no n) out out' r
      → LinesTree ρ names n tree states shown out out' r
  unfolding Counts totals_line
  line_written shown {out} {r = r} e d =
      let (p, s) = (counted e).comes in
      let w = rw (s.yeses, s.unknowns, s.noes) at d in
      record {
        comes =
            text_written ρ (Rows names n (length states)) names tree states
            (totals_line ρ names n states shown (expression ρ tree names)) (length out) r p w.outcome;
        memory = w.memory;
      }
