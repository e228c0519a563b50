-- Shut out: a call that drops the rule of steady pins (document 02, [2]), and one that has it where it is off. On T,
-- row 5 of cases 2 and 3 is no with the rule on, and unknown with it off, which is computed (`cases_stand`). A contract
-- allows no other.
--   rule_dropped, rule_dropped_under      with the rule on, no call answers unknown there: case 2, case 3
--   rule_dropped_counted                  nor counts an unknown in case 2
--   rule_forced, rule_forced_under        with the rule off, no call answers no there
use Rattle.std.specs.Prelude.{Ok}
use Rattle.std.specs.Prelude.{if◌then◌else◌}
use Prim.Native.Nat.{ℕ, ◌<◌}
use native.Mathlib.Omega.{arith}
use mathlib.Core.Path.{◌≡◌, refl, sym, ap, ◌∙◌, subst}
use mathlib.Core.Bool.{true, false}
use mathlib.Core.List.{List, [], ◌∷◌}
use lib.Dec.{eqb}
use lib.ListN.{get_or}
use native.Mathlib.Nat.{zero-add}
use Rattle.basics.specs.Memory.{after}
use Rattle.basics.specs.Words.{listed, count}
use Rattle.basics.proofs.AllEntries.{All, more}
use Rattle.basics.proofs.Counts.{count_same}
use Rattle.basics.proofs.Listed.{listed_at}
use Rattle.alf.specs.declared.Rules.{Rules}
use Rattle.alf.specs.declared.Answer.{Answer}
use Rattle.alf.specs.declared.Answer.TheVariants.{No, Unknown}
use Rattle.alf.specs.Expressions.{Vector, while, on_right}
use Rattle.alf.specs.Values.{state_at}
use Rattle.alf.specs.Bytes.{join_byte, half_number, edge_number, boolean_bytes, vector_bytes, bytes_of}
use Rattle.alf.specs.Decoder.{join_at, half_at, edge_at, leaf_at, pair_at, one_at, operation_at}
use Rattle.alf.specs.Decoder.{is_boolean, is_vector, top_boolean, top_vector, under, if_so, run, stack_at}
use Rattle.alf.specs.Answers.{number_of}
use Rattle.alf.specs.Traces.{total}
use Rattle.alf.specs.Steady.{meant}
use Rattle.alf.specs.TableT.{C, names, rows, states, pulse, Case, cases, numbers}
use Rattle.steady_laws.specs.SteadyT.{steady_cases, cases_under}
use Rattle.matcher.specs.declared.tables.Total.{Total}
use Rattle.row_calls.specs.Written.{Tells}
use Rattle.matching_calls.specs.Matching.{expression, Finds, Counts, RowTotals}
use Rattle.demands.specs.Cases.{Stands, AllStand}
use Rattle.demands.proofs.Cases.{cases_stand}
use Rattle.shut_out.specs.Asked.{asked}
use Rattle.shut_out.specs.AtRow.{NeverAt}
use Rattle.shut_out.proofs.OnT.{pulse_is}
use Rattle.shut_out.proofs.Answering.{at}

-- case 3: ( 01 A -> 10 B ) & C
abbrev pub pulse_under : Vector
pulse_under = while on_right pulse C

under_is : (ρ : Rules) → expression ρ (asked pulse_under) names ≡ meant ρ pulse_under
unfolding
    half_number edge_number join_byte boolean_bytes vector_bytes bytes_of join_at half_at edge_at leaf_at pair_at one_at
    operation_at is_boolean is_vector top_boolean top_vector under if_so run stack_at
under_is ρ = refl

-- what is answered at row 5 of T is not another number
never_at : {ρ : Rules} {p : Vector} (a : Answer) (v : ℕ) → expression ρ (asked p) names ≡ meant ρ p
    → at ρ (meant ρ p) 5 ≡ v → (number_of a ≡ v → ⊥) → NeverAt ρ p 5 a
unfolding Tells Finds after listed
never_at {ρ} {p} a v e h differ =
    let right = ap (λ (q : Vector). at ρ q 5) e ∙ h in
    record {
      row_answer_lem = λ w. differ (w.comes.1 ∙ right);
      match_row_lem = λ t b w. differ (w.comes.1.is ∙ right);
      match_all = λ answers tried given began answers' tried' given' began' k w d.
          differ (sym d ∙ ap (λ (l : List ℕ). get_or l 5 0) w.answers_memory ∙ right);
    }

-- cases 2 and 3, of the cases that stand under some rules
two : {P : Case → Type 0} {a b c : Case} {cs : List Case} → All P (a ∷ b ∷ c ∷ cs) → P b × P c
two (more h₁ (more h₂ (more h₃ hs))) = (h₂, h₃)

stand_as : (ρ : Rules) {cs : List Case} → cases_under ρ ≡ cs → AllStand ρ cs
stand_as ρ e = subst (AllStand ρ) e (cases_stand ρ)

abbrev Answers : Rules → List ℕ → List ℕ → Type 0
Answers ρ l m = (numbers ρ states (meant ρ pulse) ≡ l) × (numbers ρ states (meant ρ pulse_under) ≡ m)

with_pins : (ρ : Rules) → ρ.steady_pins ≡ true
    → Answers ρ (3 ∷ 0 ∷ 1 ∷ 0 ∷ 0 ∷ 0 ∷ []) (3 ∷ 0 ∷ 2 ∷ 0 ∷ 0 ∷ 0 ∷ [])
unfolding cases_under steady_cases cases Stands
with_pins ρ on =
    let h = two {P = Stands ρ} (stand_as ρ {cs = steady_cases} (rw on refl)) in (h.0.answers_are, h.1.answers_are)

without : (ρ : Rules) → ρ.steady_pins ≡ false
    → Answers ρ (3 ∷ 0 ∷ 1 ∷ 0 ∷ 0 ∷ 2 ∷ []) (3 ∷ 0 ∷ 2 ∷ 0 ∷ 0 ∷ 2 ∷ [])
unfolding cases_under cases Stands
without ρ off =
    let h = two {P = Stands ρ} (stand_as ρ {cs = cases} (rw off refl)) in (h.0.answers_are, h.1.answers_are)

-- the answer at a row, and how often an answer is given, from the list of them
entry : (ρ : Rules) (p : Vector) {l : List ℕ} → numbers ρ states p ≡ l → (i : ℕ) → i < rows → at ρ p i ≡ get_or l i 0
entry ρ p e i h =
    sym (rw zero-add at (listed_at 0 rows i (at ρ p) 0 h)) ∙ ap (λ (l : List ℕ). get_or l i 0) e

counted : (ρ : Rules) (p : Vector) {l : List ℕ} → numbers ρ states p ≡ l → (a : ℕ)
    → total (state_at ρ names states) p rows a ≡ count rows (λ i. eqb (get_or l i 0) a)
unfolding total
counted ρ p e a = count_same rows _ _ (λ i h. ap (λ (x : ℕ). eqb x a) (entry ρ p e i h))

module _ {ρ : Rules} (on : ρ.steady_pins ≡ true) where
  pub rule_dropped : NeverAt ρ pulse 5 Unknown
  unfolding number_of
  rule_dropped = never_at Unknown 0 (pulse_is ρ) (entry ρ _ (with_pins ρ on).0 5 (omega arith)) (λ e. omega arith)

  pub rule_dropped_under : NeverAt ρ pulse_under 5 Unknown
  unfolding number_of
  rule_dropped_under =
      never_at Unknown 0 (under_is ρ) (entry ρ _ (with_pins ρ on).1 5 (omega arith)) (λ e. omega arith)

  pub rule_dropped_counted : (t : Total) → RowTotals ρ names rows (asked pulse) states (Ok t)
      → t.unknown ≡ 1 → ⊥
  unfolding Counts count
  rule_dropped_counted t w e =
      let c = rw (pulse_is ρ) at w.comes.1 in
      let n = c.unknowns ∙ counted ρ _ (with_pins ρ on).0 2 in
      omega (arith, n, e)

module _ {ρ : Rules} (off : ρ.steady_pins ≡ false) where
  pub rule_forced : NeverAt ρ pulse 5 No
  unfolding number_of
  rule_forced = never_at No 2 (pulse_is ρ) (entry ρ _ (without ρ off).0 5 (omega arith)) (λ e. omega arith)

  pub rule_forced_under : NeverAt ρ pulse_under 5 No
  unfolding number_of
  rule_forced_under = never_at No 2 (under_is ρ) (entry ρ _ (without ρ off).1 5 (omega arith)) (λ e. omega arith)
