-- What the correction's contract comes to.
--   correction_here       the answers r to min(r+K, n-1) are the corrected trace's, whatever the list held
--   correction_windows    so, of a vector expression, those on windows
--   correction_only       the others are as they were
--   elsewhere             and they are the corrected trace's, if they were the trace's
--   correction_right      so a list that was right is right afterwards
use mathlib.Core.Path.{◌≡◌, refl, ap, sym, ◌∙◌}
use mathlib.Core.List.{List}
use mathlib.Core.Logic.{◌⊎◌, inl, inr}
use Prim.Native.Nat.{ℕ, ◌+◌, ◌-◌, ◌<◌, ◌≤◌}
use native.Mathlib.Omega.{arith}
use lib.ListN.{length, get_or}
use Rattle.alf.specs.declared.Rules.{Rules}
use Rattle.alf.specs.Expressions.{Boolean, Vector, Over}
use Rattle.alf.specs.Values.{state_at}
use Rattle.alf.specs.Windows.{row_answer}
use Rattle.alf.specs.Alternatives.{Alternative, alternatives, answer_of}
use Rattle.alf.specs.Traces.{corrected, last_rewritten}
use Rattle.basics.proofs.Bools.{below?}
use Rattle.alf.proofs.Nearness.{Near, answers_near}
use Rattle.alf.proofs.Values.{state_same}
use Rattle.alf.proofs.TraceNearness.{corrected_other}
use Rattle.alternatives.specs.InMemory.{alternatives_of_lem}
use Rattle.matcher.proofs.Agreement.{answers_same}
use Rattle.basics.proofs.Listed.{ruled_inside, ruled_before, ruled_behind}
use Rattle.correction.specs.Corrections.{CorrectionAsked, Corrects}
use Rattle.alternatives.specs.InMemory.{longest_of}
use Rattle.correction.proofs.Correcting.{row_fits}
use Rattle.alternatives.proofs.Longest.{longest_within}
use Rattle.alternatives.proofs.OperandsOver.{lists_ask}

module _ {tree : List ℕ} {names : ℕ} {states steps tests edges operands : List ℕ} {n r : ℕ}
    {answers new : List ℕ}
    (c : CorrectionAsked tree names states steps tests edges operands n r answers new) where
  abbrev xs : List Alternative
  xs = alternatives_of_lem tree names steps tests edges operands

  abbrev last : ℕ
  last = last_rewritten (longest_of xs) n r

  abbrev old : Rules → Boolean → ℕ → ℕ
  old ρ = state_at ρ names states

  abbrev new_states : Rules → Boolean → ℕ → ℕ
  new_states ρ = state_at ρ names (corrected names states r new)

  -- the rows r to last
  reach : (r ≤ last) × (last < n) × (r + (last + 1 - r) ≡ last + 1)
  unfolding last_rewritten
  reach = omega (arith, c.there)

  beyond : (i : ℕ) → i < n → last < i → r + longest_of xs < i
  unfolding last_rewritten
  beyond i h l = omega arith

  fits : r + (last + 1 - r) ≤ length answers
  fits = let e = reach in omega (arith, c.room)

  module _ {ρ : Rules} {states' answers' : List ℕ}
      (k : Corrects ρ names xs n r states answers new states' answers') where
    pub correction_here : (i : ℕ) → r ≤ i → i ≤ last → get_or answers' i 0 ≡ answer_of (new_states ρ) xs i
    correction_here i a b =
        ap (λ (l : List ℕ). get_or l i 0) k.rewritten
        ∙ ruled_inside answers r (last + 1 - r) (answer_of (new_states ρ) xs) fits i a (omega arith)

    -- where the alternatives are those of a vector expression, they are its answers on windows
    pub correction_windows : (p : Vector) → xs ≡ alternatives p → (i : ℕ) → r ≤ i → i ≤ last
        → get_or answers' i 0 ≡ row_answer (new_states ρ) p i
    correction_windows p same i a b =
        correction_here i a b
        ∙ answers_same (new_states ρ) p same i

    pub correction_only : (i : ℕ) → (i < r) ⊎ (last < i) → get_or answers' i 0 ≡ get_or answers i 0
    correction_only i (inl l) =
        ap (λ (a : List ℕ). get_or a i 0) k.rewritten
        ∙ ruled_before answers r (last + 1 - r) (answer_of (new_states ρ) xs) fits i l
    correction_only i (inr l) =
        ap (λ (a : List ℕ). get_or a i 0) k.rewritten
        ∙ ruled_behind answers r (last + 1 - r) (answer_of (new_states ρ) xs) fits i (omega (arith, reach))

    -- with no alternative without a step
    module _ (some : 0 < longest_of xs) where
      near : (i : ℕ) → (i < r) ⊎ (r + longest_of xs < i) → Near (Over names) (new_states ρ) (old ρ) (longest_of xs) i i
      near i w =
          record {
            room = refl;
            agree =
                λ d h m b o.
                state_same names _ _
                (λ j l. corrected_other names states new r (row_fits c) c.full (i - d) j (apart w d h m) l) _ b o;
          }
        where
          apart : (i < r) ⊎ (r + longest_of xs < i) → (d : ℕ) → d ≤ longest_of xs → d ≤ i → i - d ≡ r
              → ⊥
          apart (inl l) d h m e = omega arith
          apart (inr l) d h m e = omega arith

      pub elsewhere : (i : ℕ) → (i < r) ⊎ (r + longest_of xs < i)
          → answer_of (new_states ρ) xs i ≡ answer_of (old ρ) xs i
      elsewhere i w =
          answers_near (Over names) (new_states ρ) (old ρ) (longest_of xs) i i xs some (near i w)
          (lists_ask steps tests c.asked.shape.known) (longest_within xs)

      pub correction_right : ((i : ℕ) → i < n → get_or answers i 0 ≡ answer_of (old ρ) xs i)
          → (i : ℕ) → i < n → get_or answers' i 0 ≡ answer_of (new_states ρ) xs i
      correction_right right i l = go (below? i r) (below? last i)
        where
          go : (i < r) ⊎ (r ≤ i) → (last < i) ⊎ (i ≤ last)
              → get_or answers' i 0 ≡ answer_of (new_states ρ) xs i
          go (inl a) b = correction_only i (inl a) ∙ right i l ∙ sym (elsewhere i (inl a))
          go (inr a) (inl b) =
              correction_only i (inr b) ∙ right i l ∙ sym (elsewhere i (inr (beyond i l b)))
          go (inr a) (inr b) = correction_here i a b
