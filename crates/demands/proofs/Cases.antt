-- Document 01's cases 1 to 12, each from its text: cases_stand.
--   Given, all_given    the text of each case is the text that is written for its expression, so it gives that
--   stand_all           with the answers that steady_laws computes, each case stands, under any rules
use Rattle.std.specs.Prelude.{if◌then◌else◌}
use Prim.Native.Nat.{ℕ, zero, suc, ◌+◌, ◌<◌, ◌≤◌}
use native.Mathlib.Omega.{arith}
use mathlib.Core.Path.{◌≡◌, refl, sym, ap, ◌∙◌}
use mathlib.Core.Bool.{Bool, true, false}
use mathlib.Core.List.{List, map}
use lib.ListN.{length, get_or, drop}
use Rattle.basics.specs.Text.{bytes}
use Rattle.basics.specs.Words.{all, greatest_of, sum_of, same}
use Rattle.basics.proofs.AllEntries.{All, none, more}
use Rattle.basics.proofs.Bools.{and_left, and_right}
use Rattle.basics.proofs.Entries.{same_sound}
use Rattle.alf.specs.declared.Rules.{Rules}
use Rattle.alf.specs.declared.Sort.TheVariants as sort
use Rattle.alf.specs.Names.{names_in, is_letter, is_decimal, starts_name, goes_on_name, is_name}
use Rattle.alf.specs.Names.{slot, until_zero, name_at, slot_of}
use Rattle.alf.specs.Names.{GoodSlot}
use Rattle.alf.specs.States.{H, Z}
use Rattle.alf.specs.Expressions.{literal, binary, choice, and, or, equals, changes, edge, join, while, on_right}
use Rattle.alf.specs.Expressions.{any_order, with, Boolean, Vector, Expression, boolean, vector}
use Rattle.alf.specs.Expressions.{Over, HalfKnown, EdgeKnown, VectorOver, ExpressionOver}
use Rattle.alf.specs.Bytes.{binary_byte, join_byte, half_number, edge_number, boolean_bytes, vector_bytes, bytes_of}
use Rattle.alf.specs.Alternatives.{each, padded, zipped, overlaid, conditioned, rewritten, alternatives, tests}
use Rattle.alf.specs.Alternatives.{over_limit}
use Rattle.alf.specs.Alternatives as named
use Rattle.alf.specs.Steady.{is_then, is_with, is_step_lem, is_changing, moves, has_edge_on, some_of, operands, row, run}
use Rattle.alf.specs.Steady.{is_steady, kept, steadied, filled_in, filled, meant}
use Rattle.steady_laws.specs.SteadyT.{read_as, steady_cases, cases_under}
use Rattle.steady_laws.proofs.SteadyCases.{cases_under_lem}
use Rattle.steady_laws.proofs.Meant.{meant_cases}
use Rattle.alf.specs.Refusals.{Passed}
use Rattle.alf.specs.Traces.{corrected}
use Rattle.alf.specs.TableT.{names, slots, A, B, C, rise, fall, settle, pulse}
use Rattle.alf.specs.TableT.{states, Case, answers, values, correction, cases, numbers, entries, holds, all_hold}
use Rattle.names.specs.Check.{Slots}
use Rattle.trees.specs.Brackets.{binary_level, join_level, level_of, bracketed, boolean_depth, vector_depth, depth_of}
use Rattle.acceptance.specs.Accepted.{sort_of_lem, over_size}
use Rattle.grammar.specs.Tokens.{table, kind_in, kind}
use Rattle.grammar.specs.Written.{fitted, written}
use Rattle.spelling.specs.Spelled.{half_byte, literal_spelled, pair_spelled, operators, marks, prefixes, sign_spelled}
use Rattle.spelling.specs.Spelled.{spelled, following, text_of_lem}
use Rattle.writer.specs.Trees.{join_code, boolean_tree, vector_tree, tree_of, text}
use Rattle.writer.specs.Writing.{Named}
use Rattle.reader.specs.Reading.{Gives}
use Rattle.text_laws.proofs.WrittenGives.{text_gives}
use Rattle.demands.specs.Cases.{Stands, AllStand}
use Rattle.demands.proofs.CaseNames.{slots_count, slots_named}

-- a text that is written for an expression over A, B, C gives it
written_given : (ρ : Rules) (x : Expression) {t : List ℕ} → text slots x ≡ t → ExpressionOver names x
    → length (bytes_of x) ≤ 256 → depth_of x ≤ 32 → over_size ρ x ≡ false
    → Gives ρ slots t (sort_of_lem x) x
written_given ρ x e o few shallow small =
    rw (sym e) (text_gives slots_named x (rw slots_count o) ρ few shallow small)

Given : Rules → Case → Type 0
Given ρ (answers t p ns) = Gives ρ slots t sort.Vector (vector p)
Given ρ (values t c vs) = Gives ρ slots t sort.Boolean (boolean c)
Given ρ (correction t p r new ns es) = Gives ρ slots t sort.Vector (vector p)

-- each expression is over A, B, C
rise_over : VectorOver names (edge rise A)
unfolding VectorOver EdgeKnown HalfKnown Over
rise_over = ((omega arith, omega arith), omega arith)

pulse_over : VectorOver names pulse
unfolding VectorOver EdgeKnown HalfKnown Over
pulse_over = (rise_over, ((omega arith, omega arith), omega arith))

-- within limit 8, as it is written and as it is filled, a pattern is within it under any rules
small : (ρ : Rules) (p : Vector) → over_limit (alternatives p) ≡ false → over_limit (alternatives (filled p)) ≡ false
    → over_size ρ (vector p) ≡ false
unfolding over_size
small ρ p h k = meant_cases ρ p (λ q. over_limit (alternatives q) ≡ false) h k

small_boolean : (ρ : Rules) (c : Boolean) → over_size ρ (boolean c) ≡ false
unfolding over_size
small_boolean ρ c = refl

-- the patterns of the cases, within limit 8
abbrev Small : Vector → Type 0
Small p = (over_limit (alternatives p) ≡ false) × (over_limit (alternatives (filled p)) ≡ false)

record AllSmall : Type 0 where
  rises : Small (edge rise A)
  pulses : Small pulse
  held : Small (while on_right pulse C)
  both : Small (edge rise (binary and A B))
  settles : Small (edge settle A)
  flips : Small (edge changes B)
  orders : Small (join any_order (edge rise A) (edge fall B))
  falls : Small (join with (edge fall C) pulse)

all_small : AllSmall
unfolding
    over_limit alternatives rewritten conditioned overlaid zipped padded each tests greatest_of sum_of is_then is_with is_step_lem
    is_changing moves has_edge_on some_of operands row run is_steady kept steadied filled_in all named.is_name
all_small =
    record {
      rises = (refl, refl);
      pulses = (refl, refl);
      held = (refl, refl);
      both = (refl, refl);
      settles = (refl, refl);
      flips = (refl, refl);
      orders = (refl, refl);
      falls = (refl, refl);
    }

module _ (ρ : Rules) where
  pattern_given : (p : Vector) {t : List ℕ} → text slots (vector p) ≡ t → VectorOver names p
      → length (bytes_of (vector p)) ≤ 256 → depth_of (vector p) ≤ 32 → Small p → Gives ρ slots t sort.Vector (vector p)
  unfolding sort_of_lem ExpressionOver
  pattern_given p e o few shallow (h, k) = written_given ρ (vector p) e o few shallow (small ρ p h k)

  formula_given : (c : Boolean) {t : List ℕ} → text slots (boolean c) ≡ t → Over names c
      → length (bytes_of (boolean c)) ≤ 256 → depth_of (boolean c) ≤ 32 → Gives ρ slots t sort.Boolean (boolean c)
  unfolding sort_of_lem ExpressionOver
  formula_given c e o few shallow = written_given ρ (boolean c) e o few shallow (small_boolean ρ c)

  -- 1, 2, 3
  first_given : Gives ρ slots (bytes "01 A") sort.Vector (vector (edge rise A))
      × Gives ρ slots (bytes "01 A -> 10 B") sort.Vector (vector pulse)
      × Gives ρ slots (bytes "( 01 A -> 10 B ) & C") sort.Vector (vector (while on_right pulse C))
  unfolding
      slots bytes slot_of slot until_zero text text_of_lem following spelled sign_spelled prefixes marks operators pair_spelled
      literal_spelled half_byte tree_of vector_tree boolean_tree join_code written fitted table kind_in kind binary_byte
      join_byte edge_number half_number boolean_bytes vector_bytes bytes_of binary_level join_level level_of bracketed
      boolean_depth vector_depth depth_of VectorOver Over
  first_given = (
    pattern_given (edge rise A) refl rise_over (omega arith) (omega arith) all_small.rises,
    pattern_given pulse refl pulse_over (omega arith) (omega arith) all_small.pulses,
    pattern_given (while on_right pulse C) refl (pulse_over, omega arith) (omega arith) (omega arith)
        all_small.held,
  )

  -- 4 to 12
  rest_given : All (Given ρ) (drop 3 cases)
  unfolding
      cases Given slots bytes slot_of slot until_zero text text_of_lem following spelled sign_spelled prefixes marks operators
      pair_spelled literal_spelled half_byte tree_of vector_tree boolean_tree join_code written fitted table kind_in kind
      binary_byte join_byte edge_number half_number boolean_bytes vector_bytes bytes_of binary_level join_level level_of bracketed
      boolean_depth vector_depth depth_of VectorOver Over EdgeKnown HalfKnown
  rest_given =
      -- 4
      more
      (pattern_given (edge rise (binary and A B)) refl ((omega arith, omega arith), (omega arith, omega arith))
      (omega arith) (omega arith) all_small.both)
      -- 5
      (more
      (pattern_given (edge settle A) refl ((omega arith, omega arith), omega arith) (omega arith) (omega arith)
      all_small.settles)
      -- 6
      (more (pattern_given (edge changes B) refl (tt, omega arith) (omega arith) (omega arith) all_small.flips)
      -- 7
      (more
      (pattern_given (join any_order (edge rise A) (edge fall B)) refl pulse_over (omega arith) (omega arith)
      all_small.orders)
      -- 8
      (more
      (formula_given (choice A C (literal Z)) refl (omega arith, omega arith, omega arith) (omega arith) (omega arith))
      -- 9
      (more
      (formula_given (binary equals C (literal H)) refl (omega arith, omega arith) (omega arith) (omega arith))
      -- 10
      (more (formula_given (binary or A B) refl (omega arith, omega arith) (omega arith) (omega arith))
      -- 11
      (more
      (pattern_given (join with (edge fall C) pulse) refl (((omega arith, omega arith), omega arith), pulse_over)
      (omega arith) (omega arith) all_small.falls)
      -- 12
      (more first_given.0 none))))))))

  plain_given : All (Given ρ) cases
  unfolding cases Given
  plain_given = let (a, b, c) = first_given in more a (more b (more c rest_given))

  steady_given : All (Given ρ) steady_cases
  unfolding steady_cases cases Given
  steady_given = let (a, b, c) = first_given in more a (more b (more c rest_given))

  all_given : All (Given ρ) (cases_under ρ)
  unfolding cases_under
  all_given = go ρ.steady_pins
    where
      go : (q : Bool) → All (Given ρ) (if q then steady_cases else cases)
      go true = steady_given
      go false = plain_given

stands_so : (ρ : Rules) (c : Case) → Given ρ c → holds ρ (read_as ρ c) ≡ true → Stands ρ c
unfolding Given Stands holds read_as
stands_so ρ (answers t p ns) g h = record { gives = g; answers_are = same_sound _ _ h }
stands_so ρ (values t c vs) g h = record { gives = g; values_are = same_sound _ _ h }
stands_so ρ (correction t p r new ns es) g h =
    let right = same (numbers ρ (corrected names states r new) (meant ρ p)) ns in
    let reached = same (entries (meant ρ p) r) es in
    record {
      gives = g;
      answers_are = same_sound _ _ (and_left right reached h);
      entries_are = same_sound _ _ (and_right right reached h);
    }

stand_all : (ρ : Rules) {cs : List Case} → All (Given ρ) cs → all_hold ρ (map (read_as ρ) cs) ≡ true → AllStand ρ cs
unfolding all_hold
stand_all ρ none h = none
stand_all ρ (more {x = c} g gs) h =
    more (stands_so ρ c g (and_left (holds ρ (read_as ρ c)) _ h))
    (stand_all ρ gs (and_right (holds ρ (read_as ρ c)) _ h))

pub cases_stand : (ρ : Rules) → AllStand ρ (cases_under ρ)
cases_stand ρ = stand_all ρ (all_given ρ) (cases_under_lem ρ)
