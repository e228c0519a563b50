-- Shut out: "refusing everything", and a listing or a line of other answers and totals, for the texts of a pattern's
-- tree: those of 01 A on table T are not refused where there is room, and no others are written.
--   list, table_line                  on T, where there is room: 76 bytes, 20 bytes
--   other_listing, other_line         nothing but document 01's listing of case 1, and its line
use Rattle.std.specs.Prelude.{Err, Ok}
use Prim.Native.Nat.{ℕ, ◌≤◌}
use native.Mathlib.Omega.{arith}
use mathlib.Core.Path.{◌≡◌, refl, ap, ◌∙◌}
use mathlib.Core.List.{List}
use lib.ListN.{length}
use Rattle.basics.specs.declared.Refusal.{Refusal}
use Rattle.basics.specs.Text.{bytes}
use Rattle.basics.specs.Memory.{after, front}
use Rattle.alf.specs.declared.Rules.{Rules}
use Rattle.alf.specs.TableT.{names, rows, times, states}
use Rattle.matching_calls.specs.Matching.{expression}
use Rattle.tree_listings.specs.TreeTexts.{pattern_listing, totals_line, ListsTree, LinesTree}
use Rattle.tree_listings.proofs.Examples.{case_1, case_1_line}
use Rattle.shut_out.specs.Asked.{asked, rises}
use Rattle.shut_out.proofs.RefusingTreeTexts as texts
use Rattle.shut_out.proofs.OnT.{trace_good, rises_accepted, rises_is}

listing_is : (ρ : Rules) → pattern_listing ρ names times states (expression ρ (asked rises) names)
    ≡ bytes "time answer\n0 none\n10 yes\n20 no\n35 no\n40 unknown\n55 no\nyes 1 no 3 unknown 1\n"
listing_is ρ = ap (pattern_listing ρ names times states) (rises_is ρ) ∙ case_1 ρ

line_is : (ρ : Rules) → totals_line ρ names rows states (bytes "01 A") (expression ρ (asked rises) names)
    ≡ bytes "1\t0.200000\t1\t3\t01 A\n"
line_is ρ = ap (totals_line ρ names rows states (bytes "01 A")) (rises_is ρ) ∙ case_1_line ρ

listing_length : (ρ : Rules) → length (pattern_listing ρ names times states (expression ρ (asked rises) names)) ≡ 76
unfolding bytes
listing_length ρ = ap length (listing_is _)

line_length : (ρ : Rules)
    → length (totals_line ρ names rows states (bytes "01 A") (expression ρ (asked rises) names)) ≡ 20
unfolding bytes
line_length ρ = ap length (line_is _)

module _ {out out' : List ℕ} where
  pub list : {ρ : Rules} (r : Refusal) → 76 ≤ length out
      → ListsTree ρ names rows (asked rises) times states out out' (Err r) → ⊥
  unfolding times
  list {ρ} r room w =
      (texts.list names rows (asked rises) states times out).no_refusal
      (record {
        fit = (refl, trace_good.lists);
        accepted = rises_accepted;
        codes = trace_good.codes;
        room = omega (arith, room, listing_length ρ);
      }) r out' w

  pub table_line : {ρ : Rules} (r : Refusal) → 20 ≤ length out
      → LinesTree ρ names rows (asked rises) states (bytes "01 A") out out' (Err r) → ⊥
  table_line {ρ} r room w =
      (texts.table_line names rows (asked rises) states (bytes "01 A") out).no_refusal
      (record {
        fit = trace_good.lists;
        accepted = rises_accepted;
        codes = trace_good.codes;
        room = omega (arith, room, line_length ρ);
      }) r out' w

  pub other_listing : {ρ : Rules} {m : ℕ} → ListsTree ρ names rows (asked rises) times states out out' (Ok m)
      → out' ≡ front (bytes
      "time answer\n0 none\n10 yes\n20 no\n35 no\n40 unknown\n55 no\nyes 1 no 3 unknown 1\n") out
  unfolding after
  other_listing w = w.memory ∙ ap (λ (t : List ℕ). front t out) (listing_is _)

  pub other_line : {ρ : Rules} {m : ℕ} → LinesTree ρ names rows (asked rises) states (bytes "01 A") out out' (Ok m)
      → out' ≡ front (bytes "1\t0.200000\t1\t3\t01 A\n") out
  unfolding after
  other_line w = w.memory ∙ ap (λ (t : List ℕ). front t out) (line_is _)
