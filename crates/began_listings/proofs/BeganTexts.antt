-- What the call comes to that writes the listing for a tree, case by case.
--   tree_asked, tree_listed              what is asked of the lists of an accepted tree, and what is written by them
--   began_asked, began_refused, began_written    by the verdict
use Rattle.std.specs.Prelude.{Err, Ok}
use Prim.Native.Nat.{ℕ}
use mathlib.Core.Path.{◌≡◌, refl, ap, ◌∙◌}
use mathlib.Core.List.{List, ◌++◌}
use lib.Dec.{eqb}
use lib.ListN.{length}
use Rattle.basics.specs.declared.Refusal.{Refusal}
use Rattle.basics.specs.Refusing.{Outcome}
use Rattle.basics.specs.Memory.{after}
use Rattle.basics.proofs.Deciding.{eqb_decides}
use Rattle.alf.specs.declared.Rules.{Rules}
use Rattle.alf.specs.declared.Sort.TheVariants as sort
use Rattle.alf.specs.Values.{state_at}
use Rattle.alf.specs.Alternatives.{Alternative}
use Rattle.alf.specs.Beginnings.{began}
use Rattle.alf.specs.Refusals.{Order, Passed, Comes, Rising}
use Rattle.alf.proofs.Orders.{by_first, by_then, passed_both}
use Rattle.acceptance.specs.Accepted.{Accepted}
use Rattle.states.specs.FirstBadCode.{Codes}
use Rattle.alternatives.specs.declared.lists.Lists.{Lists}
use Rattle.rewriting.specs.Lists.{StandFor}
use Rattle.judging.specs.Orders.{Verdict}
use Rattle.judging.specs.Orders.{Rows, Judged}
use Rattle.judging.specs.TimedOrders.{timed_order, ChecksTimed}
use Rattle.judging.proofs.Verdicts.{judged_good, judged_not}
use Rattle.judging.proofs.TimedChecks.{timed_as}
use Rattle.matching_calls.specs.Matching.{expression, answers_on, TreeRows}
use Rattle.matching_calls.proofs.Matches.{rows_asked}
use Rattle.matching_calls.proofs.ByAlternatives.{xs, numbers_on}
use Rattle.figures.specs.Delivering.{line_order, Delivers}
use Rattle.began_lines.specs.BeganListing.{began_listing}
use Rattle.began_listings.specs.BeganTexts.{pattern_began, ListsBegan}
use Rattle.began_listings.specs.Inner.{DatedRows, listing_by}

-- the lists of an accepted tree
module _ {ρ : Rules} {names : ℕ} {tree : List ℕ} {ls : Lists} (h : StandFor ρ tree names ls) (times states : List ℕ)
  where
    pub tree_asked : TreeRows ρ names (length times) tree states
        → DatedRows tree names states ls.steps.now ls.tests.now
        ls.edges.now ls.operands.now times
    tree_asked r = record { asked = record { shape = h.shape; rows = r.rows } }

    same_text : listing_by (state_at ρ names states) times (xs h)
        ≡ pattern_began ρ names times states (expression ρ tree names)
    unfolding pattern_began
    same_text =
        ap (λ (f : ℕ → ℕ). began_listing times f (began (state_at ρ names states) times (xs h))) (numbers_on h states)
        ∙ ap
        (λ (ys : List Alternative). began_listing times (answers_on ρ names tree states)
        (began (state_at ρ names states) times ys))
        h.stands

    pub tree_listed : {out out' : List ℕ} {r : Outcome}
        → Delivers (listing_by (state_at ρ names states) times (xs h)) out out' r
        → Delivers (pattern_began ρ names times states (expression ρ tree names)) out out' r
    tree_listed d = rw same_text at d

-- 18, 10, 15 or 13; and 9 behind them
module _ (checks : Order) (text : List ℕ) where
  text_written : (room : ℕ) (r : Outcome) → Passed checks → Comes (line_order text room) (λ m. m ≡ length text) r
      → Comes (checks ++ line_order text room) (λ m. m ≡ length text) r
  unfolding Comes
  text_written room (Ok m) p c = (passed_both checks (line_order text room) p c.0, c.1)
  text_written room (Err r) p c = by_then checks (line_order text room) p c

-- by the verdict
module _ {ρ : Rules} {names n : ℕ} {tree states : List ℕ} (times : List ℕ) {v : Verdict}
    (c : ChecksTimed ρ names n (eqb (length times) n) tree times states v) where
  abbrev checks : Order
  checks = timed_order ρ names n (length times ≡ n) tree times states

  abbrev shown : List ℕ
  shown = pattern_began ρ names times states (expression ρ tree names)

  as_lists : Judged checks
      (((length times ≡ n) × Rows names n (length states)) × Accepted ρ names sort.Vector tree
      × (Codes states × Rising times)) v
  as_lists =
      timed_as ρ names n tree times states (eqb (length times) n) (length times ≡ n) (eqb_decides (length times) n) c

  pub began_asked : v ≡ (Ok tt) → TreeRows ρ names (length times) tree states
  began_asked e =
      let ((x, l), a, (s, t)) = (judged_good as_lists e).1 in
      rw x (record { accepted = a; rows = rows_asked l s })

  pub began_refused : {out : List ℕ} {r : Refusal} → v ≡ Err r
      → ListsBegan ρ names n tree times states out out (Err r)
  unfolding Comes after
  began_refused {out} {r} e =
      record { comes = by_first checks (line_order shown (length out)) (judged_not as_lists e); memory = refl }

  pub began_written : {out out' : List ℕ} {r : Outcome} → v ≡ (Ok tt)
      → Delivers (pattern_began ρ names times states (expression ρ tree names)) out out' r
      → ListsBegan ρ names n tree times states out out' r
  began_written {out} {r = r} e d =
      record {
        comes = text_written checks shown (length out) r (judged_good as_lists e).0 d.outcome;
        memory = d.memory;
      }
