-- Shut out: "refusing everything (the table says 'exactly when')". For each public call, under its name in Demand1:
-- what good input is, that its contract allows no refusal of it; that where a row of the table holds it allows
-- nothing but a refusal, with the number and the place of the first row that holds; and that refused, nothing is
-- written. Here: names, texts, files, rewriting, values listed, lines. The calls over rows stand in RefusingRows,
-- reading in RefusingTexts, the texts of a pattern's tree in RefusingTreeTexts.
use Rattle.std.specs.Prelude.{Err}
use Prim.Native.Nat.{ℕ, ◌/◌, ◌<◌, ◌≤◌}
use native.Mathlib.Omega.{arith}
use mathlib.Core.Path.{◌≡◌, refl}
use mathlib.Core.List.{List}
use lib.ListN.{length, get_or}
use Rattle.alf.specs.Values.{old_rules_lem}
use Rattle.alf.specs.declared.Rules.{Rules}
use Rattle.alf.specs.declared.Sort.{Sort}
use Rattle.alf.specs.declared.Sort.TheVariants.{Vector}
use Rattle.alf.specs.Names.{names_in, GoodSlot}
use Rattle.alf.specs.Refusals.{Passed, Comes, NameCount}
use Rattle.names.specs.Check.{Slots, names_order}
use Rattle.writer.specs.Writing as writing
use Rattle.trace_format.specs.Format.{Trace, file_of}
use Rattle.trace_writer.specs.Writing as files
use Rattle.trace_laws.proofs.RoundTrips.{writing_passes}
use Rattle.acceptance.specs.Accepted.{Accepted}
use Rattle.rewriting.specs.Lists.{alternatives_at, step_list, test_list, edge_list, operand_list}
use Rattle.contradictions.specs.Possible.{flag_list}
use Rattle.rewriting_calls.specs.Calls as rewriting
use Rattle.contradictions.specs.Calls as flagging
use Rattle.listing.specs.Listing.{values_listing, Lists}
use Rattle.figures.specs.Delivering as delivering
use Rattle.column_listings.specs.Calls as lines
use Rattle.column_listings.proofs.Theorems.{values_unique}
use Rattle.demands.proofs.Demand1.{demand_1}
use Rattle.shut_out.specs.Reasons.{Exactly}
use Rattle.shut_out.proofs.Reasons.{exactly, comes_parts, None, Four, both}
use Rattle.basics.specs.Memory.{after}

-- Texts.
pub record GoodNames (names : List ℕ) : Type 0 where
  pub slots : Slots names
  pub good : (k : ℕ) → k < length names / 32 → GoodSlot names k

module _ (names : List ℕ) where
  pub names_pass : GoodNames names → Passed (names_order names)
  unfolding Passed
  names_pass g = (λ p a. a.given g.slots, (λ p a. a.given.1 (g.good p a.given.0), tt))

  pub check_names_lem : Exactly {M = None} (GoodNames names) (names_order names) Err
      (λ r m. Comes (names_order names) (λ k. k ≡ length names / 32) r) tt
  unfolding Comes
  check_names_lem =
      exactly names_pass
      (record {
        reason = λ r m w. w;
        parts = λ x m w. comes_parts (names_order names) (λ k. k ≡ length names / 32) x w;
        refuses = λ r h. h;
        one = both ((demand_1 {ρ = old_rules_lem}).check_names_lem names);
      })

  module _ (tree : List ℕ) (sort : Sort) (out : List ℕ) where
    pub record Writable : Type 0 where
      pub names_good : GoodNames names
      pub accepted : Accepted old_rules_lem (names_in names) sort tree
      pub short : length (writing.text_at names tree) ≤ 4096
      pub room : length (writing.text_at names tree) ≤ length out

    write_passes : Writable → Passed (writing.order names tree sort (length out))
    unfolding Passed writing.order
    write_passes g = (
      λ p a. a.given g.names_good.slots,
      (
        λ p a. a.given.1 (g.names_good.good p a.given.0),
        (
          λ p a. a.given g.accepted,
          (λ p a. omega (arith, a.given, g.short), (λ p a. omega (arith, a.given, g.room), tt)),
        ),
      ),
    )

    pub write_expression_lem : Exactly Writable (writing.order names tree sort (length out)) Err
        (λ r m. writing.Writes names tree sort out m r) out
    unfolding Comes after
    write_expression_lem =
        exactly write_passes
        (record {
          reason = λ r m w. w.outcome;
          parts = λ x m w. comes_parts _ _ x w.outcome;
          refuses = λ r h. record { outcome = h; memory = refl };
          one = ((demand_1 {ρ = old_rules_lem}).write_expression_lem names tree sort out).one;
        })

-- Trace files.
module _ (names times states : List ℕ) (n : ℕ) (out : List ℕ) where
  pub record FileWritable : Type 0 where
    pub trace : Trace names times states n
    pub room : length (file_of names times states n) ≤ length out

  pub write_trace : Exactly FileWritable (files.write_order names times states n (length out)) Err
      (λ r m. files.Writes names times states n out m r) out
  unfolding Comes after
  write_trace =
      exactly (λ g. writing_passes g.trace g.room)
      (record {
        reason = λ r m w. w.outcome;
        parts = λ x m w. comes_parts _ _ x w.outcome;
        refuses = λ r h. record { outcome = h; memory = refl };
        one = ((demand_1 {ρ = old_rules_lem}).write_trace names times states n out).one;
      })

-- Rewriting.
module _ (ρ : Rules) (names : ℕ) (tree : List ℕ) where
  module _ (steps tests edges operands : List ℕ) where
    pub record Rewritable : Type 0 where
      pub name_count_lem : NameCount names
      pub accepted : Accepted ρ names Vector tree
      pub steps_room : length (step_list (alternatives_at ρ tree names)) ≤ length steps
      pub tests_room : length (test_list (alternatives_at ρ tree names)) ≤ length tests
      pub edges_room : length (edge_list (alternatives_at ρ tree names)) ≤ length edges
      pub operands_room : length (operand_list (alternatives_at ρ tree names)) ≤ length operands

    rewrite_passes : Rewritable
        → Passed (rewriting.tree_order ρ names tree
        (rewriting.room_order (alternatives_at ρ tree names) steps tests edges operands))
    unfolding Passed rewriting.tree_order rewriting.room_order
    rewrite_passes g = (
      λ p a. a.given g.name_count_lem,
      (
        λ p a. a.given g.accepted,
        (
          λ p a. omega (arith, a.given, g.steps_room),
          (
            λ p a. omega (arith, a.given, g.tests_room),
            (λ p a. omega (arith, a.given, g.edges_room), (λ p a. omega (arith, a.given, g.operands_room), tt)),
          ),
        ),
      ),
    )

    pub rewrite : Exactly {M = Four} Rewritable
        (rewriting.tree_order ρ names tree
        (rewriting.room_order (alternatives_at ρ tree names) steps tests edges operands)) Err
        (λ r m. rewriting.Rewrites ρ names tree steps tests edges operands m.0 m.1 m.2 m.3 r)
        (steps, tests, edges, operands)
    unfolding Comes after
    rewrite =
        exactly rewrite_passes
        (record {
          reason = λ r m w. w.outcome;
          parts = λ x m w. comes_parts _ _ x w.outcome;
          refuses = λ r h.
              record {
                outcome = h;
                memory = record { steps_are = refl; tests_are = refl; edges_are = refl; operands_are = refl };
              };
          one = ((demand_1 {ρ = ρ}).rewrite names tree steps tests edges operands).one;
        })

  module _ (flags : List ℕ) where
    pub record Reportable : Type 0 where
      pub name_count_lem : NameCount names
      pub accepted : Accepted ρ names Vector tree
      pub room : length (flag_list names (flagging.own_at ρ tree names)) ≤ length flags

    report_passes : Reportable
        → Passed (rewriting.tree_order ρ names tree (flagging.flag_order names (flagging.own_at ρ tree names) flags))
    unfolding Passed rewriting.tree_order flagging.flag_order
    report_passes g = (
      λ p a. a.given g.name_count_lem,
      (λ p a. a.given g.accepted, (λ p a. omega (arith, a.given, g.room), tt)),
    )

    pub contradictions : Exactly Reportable
        (rewriting.tree_order ρ names tree (flagging.flag_order names (flagging.own_at ρ tree names) flags))
        Err (λ r m. flagging.Contradicts ρ names tree flags m r) flags
    unfolding Comes after
    contradictions =
        exactly report_passes
        (record {
          reason = λ r m w. w.outcome;
          parts = λ x m w. comes_parts _ _ x w.outcome;
          refuses = λ r h. record { outcome = h; memory = refl };
          one = ((demand_1 {ρ = ρ}).contradictions names tree flags).one;
        })

-- The listing of values, and each line of the table but a pattern's.
module _ (out : List ℕ) where
  module _ (times values : List ℕ) where
    pub record Listable : Type 0 where
      pub lists : Lists (length times) (length values)
      pub known : (i : ℕ) → i < length values → get_or values i 0 ≤ 7
      pub room : length (values_listing times values) ≤ length out

    list_passes : Listable → Passed (lines.list_order times values (length out))
    unfolding Passed
    list_passes g = (
      λ p a. a.given g.lists,
      (
        λ p a. omega (arith, a.given.1, g.known p a.given.0),
        (λ p a. omega (arith, a.given, g.room), tt),
      ),
    )

    pub list_values_lem : Exactly Listable (lines.list_order times values (length out)) Err
        (λ r m. lines.ValuesText times values out m r) out
    unfolding Comes after
    list_values_lem =
        exactly list_passes
        (record {
          reason = λ r m w. w.outcome;
          parts = λ x m w. comes_parts _ _ x w.outcome;
          refuses = λ r h. record { outcome = h; memory = refl };
          one = λ a b m n x y. values_unique times values out x y;
        })

  module _ (text : List ℕ) where
    line_passes : length text ≤ length out → Passed (delivering.line_order text (length out))
    unfolding Passed
    line_passes g = (λ p a. omega (arith, a.given, g), tt)

    pub line : Exactly (length text ≤ length out) (delivering.line_order text (length out)) Err
        (λ r m. delivering.Delivers text out m r) out
    unfolding Comes after
    line =
        exactly line_passes
        (record {
          reason = λ r m w. w.outcome;
          parts = λ x m w. comes_parts _ _ x w.outcome;
          refuses = λ r h. record { outcome = h; memory = refl };
          one = ((demand_1 {ρ = old_rules_lem}).line text out).one;
        })
