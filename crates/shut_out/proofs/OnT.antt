-- Table T is good input: its lists fit, its codes are codes, the patterns are accepted under any rules; and the trees
-- are the patterns, as the rules read them.
--   trace_good, times_good, rises_accepted, one_of_accepted, pulse_accepted
--   rises_is, one_of_is, pulse_is
use Prim.Native.Nat.{ℕ, zero, suc, ◌+◌, ◌^◌, ◌<◌}
use native.Mathlib.Omega.{arith}
use borrow.Author.Tests.{ltb-true}
use mathlib.Core.Path.{◌≡◌, refl, sym, ap, ◌∙◌}
use mathlib.Core.Bool.{Bool, true, false, ◌&&◌}
use mathlib.Core.List.{List, [], ◌∷◌}
use lib.Dec.{ltb}
use lib.ListN.{length, get_or}
use Rattle.alf.specs.declared.Rules.{Rules}
use Rattle.alf.specs.declared.Sort.TheVariants as sort
use Rattle.basics.specs.Words.{greatest_of, sum_of, all}
use Rattle.alf.specs.Names.{names_in, is_letter, is_decimal, starts_name, goes_on_name, is_name}
use Rattle.alf.specs.Names.{slot, until_zero, name_at, slot_of}
use Rattle.alf.specs.Names.{GoodSlot}
use Rattle.alf.specs.Expressions.{Vector, vector}
use Rattle.alf.specs.Bytes.{join_byte, half_number, edge_number, boolean_bytes, vector_bytes, bytes_of}
use Rattle.alf.specs.Decoder.{join_at, half_at, edge_at, leaf_at, pair_at, one_at, operation_at}
use Rattle.alf.specs.Decoder.{is_boolean, is_vector, top_boolean, top_vector, under, if_so, run, stack_at, Decodes}
use Rattle.alf.specs.Alternatives.{alternatives, rewritten, each, overlaid, padded, zipped, over_limit, tests}
use Rattle.alf.specs.Alternatives.{is_name as isEdgeOn}
use Rattle.alf.specs.Steady as steady
use Rattle.alf.specs.Steady.{is_then, is_with, is_step_lem, is_changing, moves, has_edge_on, some_of, operands, row, is_steady}
use Rattle.alf.specs.Steady.{kept, steadied, filled_in, meant}
use Rattle.alf.specs.TableT.{names, rows, times, states, pulse}
use Rattle.basics.proofs.Bools.{and_left, and_right}
use Rattle.names.specs.Check.{Slots}
use Rattle.trace_format.specs.Format.{Trace}
use Rattle.trees.specs.Brackets.{join_level, level_of, bracketed, boolean_depth, vector_depth, depth_of}
use Rattle.alf.proofs.FewNames.{decodes_encoded}
use Rattle.steady_laws.specs.Lone.{spaced, lone}
use Rattle.steady_laws.proofs.Meant.{meant_cases, meant_lone}
use Rattle.acceptance.specs.Accepted.{sort_of_lem, over_size, Accepted}
use Rattle.alf.specs.Refusals.{Rising}
use Rattle.states.specs.FirstBadCode.{Codes}
use Rattle.matching_calls.specs.Matching.{expression}
use Rattle.shut_out.specs.Asked.{asked, letters, rises, one_of}
use Rattle.shut_out.proofs.Refusing.{GoodNames}
use Rattle.shut_out.proofs.RefusingRows.{GoodTimes, GoodTrace}

unfoldable pub below : List ℕ → Bool
below [] = true
below (x ∷ l) = ltb x 8 && below l

pub codes_below : (l : List ℕ) → below l ≡ true → Codes l
unfolding below
codes_below [] h i k = absurd (omega arith)
codes_below (x ∷ l) h zero k = ltb-true x 8 (and_left (ltb x 8) (below l) h)
codes_below (x ∷ l) h (suc i) k = codes_below l (and_right (ltb x 8) (below l) h) i (omega arith)

pub trace_good : GoodTrace names rows states
unfolding states below
trace_good =
    record {
      lists =
          record { name_count_lem = (omega arith, omega arith); row_count = (omega arith, omega arith); all = refl };
      codes = codes_below states refl;
    }

pub times_good : GoodTimes rows times
unfolding times
times_good = record { all = refl; rising = above }
  where
    above : Rising times
    above zero h l = absurd (omega arith)
    above (suc zero) h l = omega arith
    above (suc (suc zero)) h l = omega arith
    above (suc (suc (suc zero))) h l = omega arith
    above (suc (suc (suc (suc zero)))) h l = omega arith
    above (suc (suc (suc (suc (suc zero))))) h l = omega arith
    above (suc (suc (suc (suc (suc (suc r)))))) h l = absurd (omega arith)

pub rises_meant : (ρ : Rules) → meant ρ rises ≡ rises
unfolding lone spaced is_step_lem operands is_then
rises_meant ρ = meant_lone ρ rises refl

pub rises_accepted : {ρ : Rules} → Accepted ρ names sort.Vector (asked rises)
unfolding
    half_number edge_number join_byte boolean_bytes vector_bytes bytes_of join_at half_at edge_at leaf_at pair_at one_at
    operation_at is_boolean is_vector top_boolean top_vector under if_so run stack_at Decodes sort_of_lem over_size over_limit
    alternatives
    rewritten each tests greatest_of sum_of join_level level_of bracketed boolean_depth vector_depth depth_of
rises_accepted {ρ} =
    record {
      expression = vector rises;
      encodes = decodes_encoded _ _ _ refl;
      sorted = refl;
      tokens = omega arith;
      brackets = omega arith;
      sized = ap (λ (p : Vector). over_limit (alternatives p)) (rises_meant ρ);
    }

pub rises_is : (ρ : Rules) → expression ρ (asked rises) names ≡ rises
unfolding
    half_number edge_number join_byte boolean_bytes vector_bytes bytes_of join_at half_at edge_at leaf_at pair_at one_at
    operation_at is_boolean is_vector top_boolean top_vector under if_so run stack_at
rises_is ρ = rises_meant ρ

one_of_meant : (ρ : Rules) → meant ρ one_of ≡ one_of
unfolding lone spaced is_step_lem operands is_then
one_of_meant ρ = meant_lone ρ one_of refl

pub one_of_accepted : {ρ : Rules} → Accepted ρ names sort.Vector (asked one_of)
unfolding
    half_number edge_number join_byte boolean_bytes vector_bytes bytes_of join_at half_at edge_at leaf_at pair_at one_at
    operation_at is_boolean is_vector top_boolean top_vector under if_so run stack_at Decodes sort_of_lem over_size over_limit
    alternatives
    rewritten each tests greatest_of sum_of join_level level_of bracketed boolean_depth vector_depth depth_of
one_of_accepted {ρ} =
    record {
      expression = vector one_of;
      encodes = decodes_encoded _ _ _ refl;
      sorted = refl;
      tokens = omega arith;
      brackets = omega arith;
      sized = ap (λ (p : Vector). over_limit (alternatives p)) (one_of_meant ρ);
    }

pub one_of_is : (ρ : Rules) → expression ρ (asked one_of) names ≡ one_of
unfolding
    half_number edge_number join_byte boolean_bytes vector_bytes bytes_of join_at half_at edge_at leaf_at pair_at one_at
    operation_at is_boolean is_vector top_boolean top_vector under if_so run stack_at
one_of_is ρ = one_of_meant ρ

-- with its steady pins it has four tests in place of two
pulse_small : (ρ : Rules) → over_limit (alternatives (meant ρ pulse)) ≡ false
unfolding
    is_then is_with is_step_lem is_changing moves has_edge_on some_of operands row steady.run is_steady kept steadied filled_in all
    isEdgeOn over_limit alternatives rewritten each overlaid padded zipped tests greatest_of sum_of
pulse_small ρ = meant_cases ρ pulse (λ p. over_limit (alternatives p) ≡ false) refl refl

pub pulse_accepted : {ρ : Rules} → Accepted ρ names sort.Vector (asked pulse)
unfolding
    half_number edge_number join_byte boolean_bytes vector_bytes bytes_of join_at half_at edge_at leaf_at pair_at one_at
    operation_at is_boolean is_vector top_boolean top_vector under if_so run stack_at Decodes sort_of_lem over_size over_limit
    alternatives
    rewritten each tests greatest_of sum_of join_level level_of bracketed boolean_depth vector_depth depth_of
pulse_accepted {ρ} =
    record {
      expression = vector pulse;
      encodes = decodes_encoded _ _ _ refl;
      sorted = refl;
      tokens = omega arith;
      brackets = omega arith;
      sized = pulse_small ρ;
    }

pub pulse_is : (ρ : Rules) → expression ρ (asked pulse) names ≡ meant ρ pulse
unfolding
    half_number edge_number join_byte boolean_bytes vector_bytes bytes_of join_at half_at edge_at leaf_at pair_at one_at
    operation_at is_boolean is_vector top_boolean top_vector under if_so run stack_at
pulse_is ρ = refl

-- The names, and T as a trace.
pub letters_length : length letters ≡ 96
unfolding slot_of
letters_length = refl

pub letters_count : names_in letters ≡ names
unfolding slot_of
letters_count = refl

first_byte : (k : ℕ) → k < names → get_or (name_at letters k) 0 0 ≡ 65 + k
unfolding slot_of slot until_zero
first_byte zero l = refl
first_byte (suc zero) l = refl
first_byte (suc (suc zero)) l = refl
first_byte (suc (suc (suc k))) l = absurd (omega arith)

letter_named : (k : ℕ) → k < names → is_name (name_at letters k) ≡ true
unfolding slot_of slot until_zero is_name starts_name is_letter is_decimal goes_on_name all
letter_named zero l = refl
letter_named (suc zero) l = refl
letter_named (suc (suc zero)) l = refl
letter_named (suc (suc (suc k))) l = absurd (omega arith)

letter_filled : (k : ℕ) → k < names → slot letters k ≡ slot_of (name_at letters k)
unfolding slot_of slot until_zero
letter_filled zero l = refl
letter_filled (suc zero) l = refl
letter_filled (suc (suc zero)) l = refl
letter_filled (suc (suc (suc k))) l = absurd (omega arith)

letter_good : (k : ℕ) → k < names → GoodSlot letters k
letter_good k l =
    record {
      named = letter_named k l;
      filled = letter_filled k l;
      new = λ j h e.
          let a = sym (first_byte j (omega arith)) ∙ (ap (λ (x : List ℕ). get_or x 0 0) e ∙ first_byte k l) in
          omega (arith, a, h);
    }

slots : Slots letters
unfolding slot_of
slots = record { whole = refl; some = omega arith; few = omega arith }

pub letters_good : GoodNames letters
letters_good = record { slots = slots; good = λ k l. letter_good k (omega (arith, l, letters_count)) }

stamps_rise : (r : ℕ) → suc r < rows → get_or times r 0 < get_or times (suc r) 0
unfolding times
stamps_rise zero l = omega arith
stamps_rise (suc zero) l = omega arith
stamps_rise (suc (suc zero)) l = omega arith
stamps_rise (suc (suc (suc zero))) l = omega arith
stamps_rise (suc (suc (suc (suc zero)))) l = omega arith
stamps_rise (suc (suc (suc (suc (suc r))))) l = absurd (omega arith)

stamps_small : (r : ℕ) → get_or times r 0 < 2 ^ 64
unfolding times
stamps_small zero = omega arith
stamps_small (suc zero) = omega arith
stamps_small (suc (suc zero)) = omega arith
stamps_small (suc (suc (suc zero))) = omega arith
stamps_small (suc (suc (suc (suc zero)))) = omega arith
stamps_small (suc (suc (suc (suc (suc zero))))) = omega arith
stamps_small (suc (suc (suc (suc (suc (suc r)))))) = omega arith

pub trace_T : Trace letters times states rows
unfolding times
trace_T =
    record {
      slots = slots;
      good = letters_good.good;
      lists =
          record {
            some = omega arith;
            few = omega arith;
            times_all = refl;
            states_all = rw letters_count trace_good.lists.all;
          };
      rising = stamps_rise;
      codes = λ i l. omega (arith, trace_good.codes i l);
      words = stamps_small;
    }
