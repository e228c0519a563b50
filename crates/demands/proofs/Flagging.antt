-- Contradictory alternatives of a question's pattern: they are flagged exactly, and never answer yes.
--   own_is       the alternatives that the calls speak of are the pattern's
--   flagged, never_yes
use Rattle.std.specs.Prelude.{Err, Ok}
use Rattle.std.specs.Prelude.{if◌then◌else◌}
use Prim.Native.Nat.{ℕ, ◌+◌, ◌*◌, ◌<◌, ◌≤◌}
use native.Mathlib.Omega.{arith}
use mathlib.Core.Path.{◌≡◌, refl, ap, ◌∙◌}
use mathlib.Core.Bool.{Bool, true, false}
use mathlib.Core.Logic.{◌⊎◌, inl, inr}
use mathlib.Core.List.{List, []}
use lib.ListN.{length, get_or, get_or-eq_default}
use Rattle.basics.specs.Refusing.{Outcome}
use Rattle.basics.proofs.Bools.{below?}
use Rattle.alf.specs.Expressions.{name}
use Rattle.alf.specs.Values.{recorded_or, state, state_at}
use Rattle.alf.specs.Windows.{YES}
use Rattle.alf.specs.Alternatives.{alternatives, at_row, contradictory, number_of_alternatives}
use Rattle.alf.specs.Refusals.{Passed, Comes}
use Rattle.alf.proofs.Outcomes.{refused_passed}
use Rattle.alf.proofs.Contradictions.{contradictory_row_not_yes}
use Rattle.states.specs.FirstBadCode.{Codes}
use Rattle.rewriting_calls.specs.Calls.{tree_order}
use Rattle.contradictions.specs.Calls.{own_at, flag_order, Contradicts}
use Rattle.contradictions.specs.Possible.{flag_of}
use Rattle.contradictions.proofs.Reporting.{contradicts_flag, flag_entries}
use Rattle.demands.specs.Questions.{Question, names_of, tree_of, meant_by}
use Rattle.demands.proofs.Asked.{lists_fit_lem, codes_good, tree_accepted, tree_is}

-- an entry of a list of codes, or none, is a code
code_at : (states : List ℕ) → Codes states → (i : ℕ) → get_or states i 0 < 8
code_at states s i = go (below? i (length states))
  where
    go : (i < length states) ⊎ (length states ≤ i) → get_or states i 0 < 8
    go (inl h) = s i h
    go (inr h) = rw (get_or-eq_default states 0 h) (omega arith)

flag_is : (b : Bool) → flag_of b ≡ (if b then 1 else 0)
unfolding flag_of
flag_is true = refl
flag_is false = refl

module _ {file text : List ℕ} (q : Question file text) where
  abbrev k : ℕ
  k = names_of q

  pub own_is : own_at q.rules (tree_of q) k ≡ alternatives (meant_by q)
  own_is = ap alternatives (tree_is q)

  flags_passed : (flags : List ℕ) → number_of_alternatives (meant_by q) ≤ length flags
      → Passed (tree_order q.rules k (tree_of q) (flag_order k (own_at q.rules (tree_of q) k) flags))
  unfolding Passed tree_order flag_order number_of_alternatives
  flags_passed flags l = (
    λ p x. x.given (lists_fit_lem q).name_count_lem,
    (
      λ p x. x.given (tree_accepted q),
      (λ p x. omega (arith, x.given, flag_entries k (own_at q.rules (tree_of q) k), ap length own_is, l), tt),
    ),
  )

  name_codes : (n r : ℕ) → n < k → state_at q.rules k q.states (name n) r < 8
  unfolding state recorded_or
  name_codes n r l = code_at q.states (codes_good q) (r * k + n)

  pub flagged : (flags flags' : List ℕ) (o : Outcome) → number_of_alternatives (meant_by q) ≤ length flags
      → Contradicts q.rules k (tree_of q) flags flags' o
      → (o ≡ Ok (number_of_alternatives (meant_by q)))
      × ((t : ℕ) → t < number_of_alternatives (meant_by q)
      → get_or flags' t 0 ≡ (if contradictory k (get_or (alternatives (meant_by q)) t []) then 1 else 0))
  unfolding Comes number_of_alternatives
  flagged flags flags' (Ok m) l w = (
    ap Ok (w.outcome.1 ∙ ap length own_is),
    λ t h. (rw own_is at (contradicts_flag q.rules k (tree_of q) flags w t (rw own_is h))) ∙ flag_is _,
  )
  flagged flags flags' (Err e) l w =
      absurd (refused_passed _ _ _ (flags_passed flags l) w.outcome.by)

  pub never_yes : (t i : ℕ) → contradictory k (get_or (alternatives (meant_by q)) t []) ≡ true
      → at_row (state_at q.rules k q.states) i (get_or (alternatives (meant_by q)) t []) ≡ YES → ⊥
  never_yes t i h y =
      contradictory_row_not_yes (state_at q.rules k q.states) k name_codes
      (get_or (alternatives (meant_by q)) t []) h i y
