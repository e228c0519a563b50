-- What is shut out of where a match began (document 02, [12]).
--   time_without_yes     a time with no, unknown or no event
--   time_elsewhere       another time than that of row i - k, k the steps of the alternative whose position is the
--                        number tried
--   mirror_start         `01 A -> 10 B | 10 B` at row 2 of T, without steady pins: the shorter alternative answers yes
--                        too, and begins at 10
-- Its mirror, `10 B | 01 A -> 10 B`, is in LongestStart.antt; the start of its match is computed here (`short_began`).
use Rattle.std.specs.Prelude.{Ok}
use Rattle.std.specs.Prelude.{None, Some}
use Prim.Native.Nat.{ℕ, ◌-◌, ◌<◌}
use native.Mathlib.Omega.{arith}
use mathlib.Core.Path.{◌≡◌, refl, ap, sym, ◌∙◌, subst}
use mathlib.Core.Bool.{false}
use mathlib.Core.List.{List, []}
use lib.ListN.{length, get_or}
use Rattle.alf.specs.declared.Rules.{Rules}
use Rattle.alf.specs.declared.Stamp.{Stamp}
use Rattle.alf.specs.Beginnings.{Began}
use Rattle.alf.specs.Expressions.{Vector, edge, join, or_else}
use Rattle.alf.specs.Answers.{number_of}
use Rattle.alf.specs.Decoder.{join_at, half_at, edge_at, leaf_at, pair_at, one_at, operation_at}
use Rattle.alf.specs.Decoder.{is_boolean, is_vector, top_boolean, top_vector, under, if_so, run, stack_at}
use Rattle.alf.specs.Values.{value, recorded_or, state, state_at}
use Rattle.alf.specs.States.{reduce}
use Rattle.alf.specs.Bytes.{half_number, edge_number, join_byte, boolean_bytes, vector_bytes, bytes_of}
use Rattle.alf.specs.Steady.{meant}
use Rattle.alf.specs.Windows.{edge_on, asked, digit_asked, letter_asked}
use Rattle.alf.specs.Alternatives.{alternatives, rewritten, each}
use Rattle.alf.specs.Alternatives.{at_row, steps_from, step_at, test_at}
use Rattle.alf.specs.Beginnings.{began_in, began, is_given, time_of_lem}
use Rattle.alf.specs.TableT.{names, rows, times, states, fall, pulse, B}
use Rattle.basics.specs.Words.{least_of}
use Rattle.steady_laws.proofs.Meant.{meant_off}
use Rattle.alf.proofs.Beginnings.{began_none, began_tries}
use Rattle.alf.proofs.RowsAreAlternatives.{same_answer}
use Rattle.beginnings.specs.declared.times.Dated.{Dated}
use Rattle.matching_calls.specs.Matching.{expression, Finds, RowMatch}
use Rattle.shut_out.specs.Asked as T

given_not : (t : Stamp) → None ≡ Some t → ⊥
unfolding is_given
given_not t e = omega (arith, ap is_given e)

-- whatever the tree, the times and the trace
module _ {ρ : Rules} {k n : ℕ} {tree stamps codes : List ℕ} {row : ℕ} (m : Dated)
    (w : RowMatch ρ k n tree stamps codes row (Ok m)) where
  pub time_without_yes : (number_of m.answer ≡ 1 → ⊥) → (t : Stamp) → m.began ≡ Some t → ⊥
  unfolding Finds
  time_without_yes other t e =
      let d = w.comes.1 in
      let st = state_at ρ k codes in
      let p = expression ρ tree k in
      given_not t
      (sym (began_none st stamps (alternatives p) row (λ y. other (d.is ∙ same_answer st p row ∙ y)))
      ∙ sym d.start ∙ e)

  pub time_elsewhere : number_of m.answer ≡ 1
      → (m.began
      ≡ Some (record {
        0 = get_or stamps (row - length (get_or (alternatives (expression ρ tree k)) (m.tries - 1) [])) 0;
      }) → ⊥) → ⊥
  unfolding Finds
  time_elsewhere said differ =
      let d = w.comes.1 in
      let st = state_at ρ k codes in
      let p = expression ρ tree k in
      let t = began_tries st stamps (alternatives p) row (sym (same_answer st p row) ∙ sym d.is ∙ said) in
      differ (rw d.count (d.start ∙ t.time))

-- on T, where the first alternative that answers yes is not the longest, and where it is
abbrev pub short_first : Vector
short_first = join or_else (edge fall B) pulse

abbrev pub long_first : Vector
long_first = join or_else pulse (edge fall B)

abbrev pub Begins : Rules → Vector → ℕ → Type 0
Begins ρ p t = began (state_at ρ names states) times (alternatives p) 2 ≡ Some (record { 0 = t })

pub short_began : (ρ : Rules) → Begins ρ short_first 10
unfolding states times alternatives rewritten each began began_in at_row steps_from step_at test_at least_of value
    recorded_or state edge_on asked digit_asked letter_asked reduce
short_began ρ = refl

long_began : (ρ : Rules) → Begins ρ long_first 0
unfolding states times alternatives rewritten each began began_in at_row steps_from step_at test_at least_of value
    recorded_or state edge_on asked digit_asked letter_asked reduce
long_began ρ = refl

pub short_is : (ρ : Rules) → expression ρ (T.asked short_first) names ≡ meant ρ short_first
unfolding
    half_number edge_number join_byte boolean_bytes vector_bytes bytes_of join_at half_at edge_at leaf_at pair_at one_at
    operation_at is_boolean is_vector top_boolean top_vector under if_so run stack_at
short_is ρ = refl

long_is : (ρ : Rules) → expression ρ (T.asked long_first) names ≡ meant ρ long_first
unfolding
    half_number edge_number join_byte boolean_bytes vector_bytes bytes_of join_at half_at edge_at leaf_at pair_at one_at
    operation_at is_boolean is_vector top_boolean top_vector under if_so run stack_at
long_is ρ = refl

module _ {ρ : Rules} (off : ρ.steady_pins ≡ false) (m : Dated) where
  pub mirror_start : RowMatch ρ names rows (T.asked long_first) times states 2 (Ok m)
      → m.began ≡ Some (record { 0 = 10 }) → ⊥
  unfolding Finds time_of_lem
  mirror_start w e =
      let d = rw (long_is ρ, meant_off ρ long_first off) at w.comes.1.start in
      omega (arith, ap time_of_lem (sym e ∙ d ∙ long_began ρ))
