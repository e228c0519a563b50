-- Shut out: "refusing everything (the table says 'exactly when')", for the texts of a pattern's tree: the listing of
-- its answers, and its line of the table. Good input is a good trace, an accepted tree, and room for the text.
--   Textable, list, table_line
use Rattle.std.specs.Prelude.{Err}
use Prim.Native.Nat.{ℕ, ◌≤◌}
use native.Mathlib.Omega.{arith}
use mathlib.Core.Path.{◌≡◌, refl}
use mathlib.Core.List.{List}
use lib.ListN.{length}
use Rattle.alf.specs.declared.Rules.{Rules}
use Rattle.alf.specs.declared.Sort.TheVariants.{Vector}
use Rattle.basics.specs.Memory.{after}
use Rattle.alf.specs.Refusals.{Passed, Comes}
use Rattle.acceptance.specs.Accepted.{Accepted}
use Rattle.states.specs.FirstBadCode.{Codes}
use Rattle.judging.specs.Orders.{Rows}
use Rattle.call_laws.proofs.Passing.{codes_never}
use Rattle.matching_calls.specs.Matching.{expression}
use Rattle.tree_listings.specs.TreeTexts.{pattern_listing, totals_line, text_order, ListsTree, LinesTree}
use Rattle.demands.proofs.Demand1.{demand_1}
use Rattle.shut_out.specs.Reasons.{Exactly}
use Rattle.shut_out.proofs.Reasons.{exactly, comes_parts}

module _ (ρ : Rules) (lists : Type 0) (names : ℕ) (tree states text out : List ℕ) where
  pub record Textable : Type 0 where
    pub fit : lists
    pub accepted : Accepted ρ names Vector tree
    pub codes : Codes states
    pub room : length text ≤ length out

  text_passes : Textable → Passed (text_order ρ lists names tree states text (length out))
  unfolding Passed
  text_passes g = (
    λ p a. a.given g.fit,
    (
      λ p a. a.given g.accepted,
      (codes_never states g.codes, (λ p a. omega (arith, a.given, g.room), tt)),
    ),
  )

module _ (names n : ℕ) (tree states : List ℕ) where
  module _ (times : List ℕ) where
    abbrev pub Listed : Type 0
    Listed = (length times ≡ n) × Rows names n (length states)

    abbrev pub listed : Rules → List ℕ
    listed ρ = pattern_listing ρ names times states (expression ρ tree names)

    pub list : {ρ : Rules} (out : List ℕ) → Exactly (Textable ρ Listed names tree states (listed ρ) out)
        (text_order ρ Listed names tree states (listed ρ) (length out)) Err
        (λ r m. ListsTree ρ names n tree times states out m r) out
    unfolding Comes after
    list {ρ} out =
        exactly (text_passes ρ Listed names tree states (listed ρ) out)
        (record {
          reason = λ r m w. w.comes;
          parts = λ x m w. comes_parts _ _ x w.comes;
          refuses = λ r h. record { comes = h; memory = refl };
          one = (demand_1.list names n tree states times out).one;
        })

  module _ (pattern : List ℕ) where
    abbrev pub line : Rules → List ℕ
    line ρ = totals_line ρ names n states pattern (expression ρ tree names)

    pub table_line : {ρ : Rules} (out : List ℕ)
        → Exactly (Textable ρ (Rows names n (length states)) names tree states (line ρ) out)
        (text_order ρ (Rows names n (length states)) names tree states (line ρ) (length out)) Err
        (λ r m. LinesTree ρ names n tree states pattern out m r) out
    unfolding Comes after
    table_line {ρ} out =
        exactly (text_passes ρ (Rows names n (length states)) names tree states (line ρ) out)
        (record {
          reason = λ r m w. w.comes;
          parts = λ x m w. comes_parts _ _ x w.comes;
          refuses = λ r h. record { comes = h; memory = refl };
          one = (demand_1.table_line names n tree states pattern out).one;
        })
