-- Shut out: "a correction that changes nothing (demand 3, whose list may be junk)", and document 01's reading that
-- looks right, "Stopping a correction at row r". For every accepted tree, every good trace and every K:
--   leaves_junk           an entry from r to min(r+K, n-1) that is no answer is not left as it is
--   writes_elsewhere      an entry before r or behind min(r+K, n-1) is not changed
--   stores_nothing        the trace is not left as it is, where the new states are others
-- and on T, case 12, where the list was right before:
--   stops_at_row_3        the answer at row 4 does not stay unknown
-- What follows from `leaves_junk` for the list as a whole is in ChangingNothing.antt.
use Rattle.std.specs.Prelude.{Err, Ok}
use Prim.Native.Nat.{ℕ, ◌+◌, ◌-◌, ◌<◌, ◌≤◌}
use native.Mathlib.Omega.{arith}
use mathlib.Core.Path.{◌≡◌, refl, sym, ap, ◌∙◌, subst}
use mathlib.Core.Logic.{◌⊎◌}
use mathlib.Core.List.{List, [], ◌∷◌}
use lib.ListN.{length, get_or}
use Rattle.basics.specs.Refusing.{Outcome}
use Rattle.basics.specs.Words.{greatest}
use Rattle.alf.specs.declared.Rules.{Rules}
use Rattle.alf.specs.States.{reduce}
use Rattle.alf.specs.Expressions.{Vector}
use Rattle.alf.specs.Values.{value, recorded_or, state, state_at}
use Rattle.alf.specs.Windows.{asked, digit_asked, letter_asked, edge_on, answer, best, numbered, row_answer}
use Rattle.alf.proofs.Answers.{row_answer_small}
use Rattle.alf.specs.Alternatives.{steps_of}
use Rattle.alf.specs.Traces.{corrected, last_rewritten}
use Rattle.alf.specs.Refusals.{Comes}
use Rattle.alf.specs.TableT.{names, rows, states}
use Rattle.alf.proofs.TraceNearness.{steps_pos}
use Rattle.basics.specs.Memory.{after}
use Rattle.matching_calls.specs.Matching.{expression}
use Rattle.update_calls.specs.Correcting.{Correction}
use Rattle.call_laws.proofs.Theorems.{correction_reaches, correction_stays}
use Rattle.shut_out.specs.Asked as T
use Rattle.shut_out.specs.Asked.{rises}
use Rattle.shut_out.proofs.RefusingUpdates.{Correctable, correct}
use Rattle.shut_out.proofs.OnT.{trace_good, rises_accepted, rises_is, codes_below, below}

-- the last row whose answer is rewritten
abbrev last : Rules → ℕ → ℕ → List ℕ → ℕ → ℕ
last ρ k n tree r = last_rewritten (steps_of (expression ρ tree k)) n r

module _ {ρ : Rules} {k n : ℕ} {tree codes answers : List ℕ} {r : ℕ} {new codes' answers' : List ℕ}
    (g : Correctable ρ k n tree codes answers r new) where
  module _ (o : Outcome) (w : Correction ρ k n tree codes answers r new codes' answers' o) where
    done : Correction ρ k n tree codes answers r new codes' answers' (Ok 1)
    unfolding Comes
    done = go o w
      where
        go : (z : Outcome) → Correction ρ k n tree codes answers r new codes' answers' z
            → Correction ρ k n tree codes answers r new codes' answers' (Ok 1)
        go (Ok m) v =
            subst (λ (j : ℕ). Correction ρ k n tree codes answers r new codes' answers' (Ok j)) v.comes.1 v
        go (Err e) v = absurd ((correct ρ k n tree codes answers r new).no_refusal g e (codes', answers') v)

    pub leaves_junk : (i : ℕ) → r ≤ i → i ≤ last ρ k n tree r → 3 < get_or answers i 0
        → get_or answers' i 0 ≡ get_or answers i 0 → ⊥
    leaves_junk i a b junk_there same =
        omega (
          arith,
          junk_there,
          same,
          correction_reaches g.accepted done i a b,
          row_answer_small (state_at ρ k codes') (expression ρ tree k) i,
        )

    pub reached : r ≤ last ρ k n tree r
    unfolding last_rewritten
    reached = omega (arith, g.there)

    pub next_reached : r + 1 < n → r + 1 ≤ last ρ k n tree r
    unfolding last_rewritten
    next_reached h = omega (arith, h, steps_pos (expression ρ tree k))

    pub writes_elsewhere : (i : ℕ) → (i < r) ⊎ (last ρ k n tree r < i)
        → (get_or answers' i 0 ≡ get_or answers i 0 → ⊥) → ⊥
    writes_elsewhere i h differ = differ (correction_stays g.accepted done i h)

    pub stored : codes' ≡ corrected k codes r new
    unfolding after
    stored = done.states_memory

    pub stores_nothing : (corrected k codes r new ≡ codes → ⊥) → codes' ≡ codes → ⊥
    stores_nothing differ same = differ (sym stored ∙ same)

-- Case 12.
abbrev pub new_row : List ℕ
new_row = 0 ∷ 0 ∷ 1 ∷ []

pub correctable : {ρ : Rules} (answers : List ℕ) → length answers ≡ rows
    → Correctable ρ names rows (T.asked rises) states answers 3 new_row
unfolding below
correctable answers l =
    record {
      trace = trace_good;
      accepted = rises_accepted;
      room = l;
      full = refl;
      codes = codes_below new_row refl;
      there = omega arith;
    }

yes_then : (ρ : Rules) → row_answer (state_at ρ names (corrected names states 3 new_row)) rises 4 ≡ 1
unfolding states corrected row_answer numbered best answer greatest value recorded_or state edge_on asked digit_asked
    letter_asked reduce
yes_then ρ = refl

pub stops_at_row_3 : {ρ : Rules} {answers states' answers' : List ℕ} (o : Outcome) → length answers ≡ rows
    → Correction ρ names rows (T.asked rises) states answers 3 new_row states' answers' o → get_or answers' 4 0 ≡ 2 → ⊥
stops_at_row_3 {ρ} {answers} {states'} o l w same =
    let g = correctable {ρ = ρ} answers l in
    let e = correction_reaches rises_accepted (done g o w) 4 (omega arith) (next_reached g o w (omega arith)) in
    let s = ap (λ (z : List ℕ). row_answer (state_at ρ names z) (expression ρ (T.asked rises) names) 4)
    (stored g o w) in
    let p = ap (λ (p : Vector). row_answer (state_at ρ names (corrected names states 3 new_row)) p 4)
    (rises_is ρ) in
    omega (arith, same, e ∙ (s ∙ (p ∙ yes_then ρ)))
