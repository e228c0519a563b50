-- Document 02, [9], for patterns: what the choice of rule does to answers.
--   same_answer, same_tries   a pattern with no ternary answers alike under both rules, after as many tries
--   Sharper                   on the scale 0 no, 1 unknown, 2 yes: a no stays no, a yes stays yes
--   answer_sharper            on every window, where the states are resolved and the pattern is tame
--   answer_kept               so by the new rule a tame pattern's answer is the old one, or that was unknown
--   letter_turns, change_turns   not so where an edge asks a ternary for a letter, `?!` or `?-`: a yes becomes no
use Rattle.std.specs.Prelude.{if◌then◌else◌}
use mathlib.Core.Path.{◌≡◌, refl, ap, sym, ◌∙◌}
use mathlib.Core.Bool.{Bool, true, false, ◌&&◌, ◌||◌}
use mathlib.Core.List.{List, [], ◌∷◌}
use mathlib.Core.Logic.{◌⊎◌, inl, inr}
use Prim.Native.Nat.{ℕ, zero, suc, ◌+◌, ◌-◌, ◌<◌, ◌≤◌, min, max}
use native.Mathlib.Omega.{arith}
use lib.Dec.{eqb, ltb}
use borrow.Author.Tests.{ltb-true, eq-eqb, ne_eqb}
use Rattle.alf.specs.declared.Rules.{Rules}
use Rattle.basics.specs.Words.{greatest, least}
use Rattle.alf.specs.States.{X, H, Z, reduce}
use Rattle.alf.specs.Expressions.{Boolean, name, literal, choice, Half, any, the, Edge, pair, changes, stays}
use Rattle.alf.specs.Expressions.{Vector, edge, join, while}
use Rattle.alf.specs.Expressions.{Join, followed_by_join, either_order, with_or_then, any_order, with, or_else}
use Rattle.alf.specs.Values.{old_rules_lem, new_rules, unresolved, chosen, value, recorded_or, state, row_of, state_at}
use Rattle.alf.specs.Windows.{Window, is_digit, asked, digit_asked, letter_asked, edge_on, followed_by, either, together}
use Rattle.alf.specs.Windows.{certainty, held, joined, answer, best, numbered, row_answer}
use Rattle.alf.specs.Alternatives.{Alternative, alternatives, steps_of, tries}
use Rattle.basics.proofs.Bools.{never, and_left, and_right}
use Rattle.basics.proofs.AllEntries.{All}
use Rattle.alf.proofs.Steps.{asked_small, edge_small, asked_one}
use Rattle.alf.proofs.RowsAreAlternatives as rows
use Rattle.alf.proofs.Conditions.{Asked, Asks, alternatives_ask}
use Rattle.alf.proofs.Nearness.{Near, answers_near, tries_near}
use Rattle.alf.proofs.TraceNearness.{steps_pos, steps_within}
use Rattle.rule_laws.specs.Ternaries.{plain, apart, asks_digit, asks_digits, tame}
use Rattle.rule_laws.proofs.EqualBranches.{same_state, Resolved, same, opened, state_resolved}

abbrev pub NoTernary : Boolean → Type 0
NoTernary c = plain c ≡ true

-- "An expression with no ternary must be shown to answer alike under both"
module _ (ρ ρ' : Rules) (names : ℕ) (states : List ℕ) (p : Vector) (none : Asked NoTernary p) (i : ℕ) where
  near : Near NoTernary (state_at ρ names states) (state_at ρ' names states) (steps_of p) i i
  near = record { room = refl; agree = λ d h k c o. same_state ρ ρ' (row_of names states (i - d)) c o }

  asks : All (Asks NoTernary) (alternatives p)
  asks = alternatives_ask NoTernary p none

  pub same_answer : row_answer (state_at ρ names states) p i ≡ row_answer (state_at ρ' names states) p i
  same_answer =
      rows.same_answer (state_at ρ names states) p i
      ∙ answers_near _ _ _ (steps_of p) i i (alternatives p) (steps_pos p) near asks (steps_within p)
      ∙ sym (rows.same_answer (state_at ρ' names states) p i)

  pub same_tries :
      tries (state_at ρ names states) (alternatives p) i ≡ tries (state_at ρ' names states) (alternatives p) i
  same_tries = tries_near _ _ _ (steps_of p) i i (alternatives p) (steps_pos p) near asks (steps_within p)

-- x by the old rule, x' by the new one: no stays no, yes stays yes
pub record Sharper (x x' : ℕ) : Type 0 where
  pub yes_kept : x + x ≤ x' + 2
  pub no_kept : x' ≤ x + x
  pub small : x' ≤ 2

pub sharper_same : (x x' : ℕ) → x ≡ x' → x ≤ 2 → Sharper x x'
sharper_same x x' e l = record { yes_kept = omega arith; no_kept = omega arith; small = omega arith }

sharper_unknown : (x x' : ℕ) → x ≡ 1 → x' ≤ 2 → Sharper x x'
sharper_unknown x x' e l = record { yes_kept = omega arith; no_kept = omega arith; small = omega arith }

pub sharper_min : (x x' y y' : ℕ) → Sharper x x' → Sharper y y' → Sharper (min x y) (min x' y')
sharper_min x x' y y' s t =
    record {
      yes_kept = omega (arith, s.yes_kept, t.yes_kept);
      no_kept = omega (arith, s.no_kept, t.no_kept);
      small = omega (arith, s.small);
    }

sharper_max : (x x' y y' : ℕ) → Sharper x x' → Sharper y y' → Sharper (max x y) (max x' y')
sharper_max x x' y y' s t =
    record {
      yes_kept = omega (arith, s.yes_kept, t.yes_kept);
      no_kept = omega (arith, s.no_kept, t.no_kept);
      small = omega (arith, s.small, t.small);
    }

sharper_greatest : (n : ℕ) (f f' : ℕ → ℕ) → ((i : ℕ) → Sharper (f i) (f' i)) → Sharper (greatest n f) (greatest n f')
unfolding greatest
sharper_greatest zero f f' h = sharper_same 0 0 refl (omega arith)
sharper_greatest (suc n) f f' h = sharper_max _ _ _ _ (sharper_greatest n f f' h) (h n)

sharper_least : (n : ℕ) (f f' : ℕ → ℕ) → ((i : ℕ) → Sharper (f i) (f' i)) → Sharper (least n f) (least n f')
unfolding least
sharper_least zero f f' h = sharper_same 2 2 refl (omega arith)
sharper_least (suc n) f f' h = sharper_min _ _ _ _ (sharper_least n f f' h) (h n)

-- a digit asked of X is unknown
digit_unknown : (l : ℕ) → is_digit l ≡ true → asked (the l) X ≡ 1
unfolding asked digit_asked reduce
digit_unknown l h = rw (h, ne_eqb X l (λ e. omega (arith, ltb-true l 2 h))) refl

half_sharper : (h : Half) (s s' : ℕ) → asks_digit h ≡ true → Resolved s s' → Sharper (asked h s) (asked h s')
unfolding asks_digit
half_sharper h s s' d (same e) = sharper_same _ _ (ap (asked h) e) (asked_small h s)
half_sharper any s s' d (opened e) = sharper_same _ _ (unfold asked in refl) (asked_small any s)
half_sharper (the l) s s' d (opened e) =
    sharper_unknown _ _ (ap (asked (the l)) e ∙ digit_unknown l d) (asked_small (the l) s')

edge_sharper : (e : Edge) (x x' y y' : ℕ) → asks_digits e ≡ true → Resolved x x' → Resolved y y'
    → Sharper (edge_on e x y) (edge_on e x' y')
unfolding asks_digits edge_on
edge_sharper (pair f t) x x' y y' d r u =
    sharper_min _ _ _ _ (half_sharper f x x' (and_left (asks_digit f) (asks_digit t) d) r)
    (half_sharper t y y' (and_right (asks_digit f) (asks_digit t) d) u)
edge_sharper changes x x' y y' d r u = never d
edge_sharper stays x x' y y' d r u = never d

certainty_sharper : (s s' : ℕ) → Resolved s s' → Sharper (certainty s) (certainty s')
certainty_sharper s s' r = rw (← asked_one s, ← asked_one s') (half_sharper (the 1) s s' digit r)
  where
    digit : asks_digit (the 1) ≡ true
    digit = unfold asks_digit in refl

or_cases : (p q : Bool) {R : Type 0} → (p || q) ≡ true → (p ≡ true → R) → (q ≡ true → R) → R
or_cases true q h f g = f refl
or_cases false q h f g = g h

-- one answers sharper than the other on every window
abbrev SharperWindow : Window → Window → Type 0
SharperWindow P P' = (a b : ℕ) → Sharper (P a b) (P' a b)

module _ (P P' Q Q' : Window) (p : SharperWindow P P') (q : SharperWindow Q Q') where
  followed_sharper : SharperWindow (followed_by P Q) (followed_by P' Q')
  unfolding followed_by
  followed_sharper a b =
      sharper_greatest _ _ _ (λ i. sharper_min _ _ _ _ (p a (a + 1 + i)) (q (a + 1 + i) b))

  either_sharper : SharperWindow (either P Q) (either P' Q')
  unfolding either
  either_sharper a b = sharper_max _ _ _ _ (p a b) (q a b)

  together_sharper : SharperWindow (together P Q) (together P' Q')
  unfolding together
  together_sharper a b =
      sharper_greatest _ _ _
      (λ i. sharper_max _ _ _ _ (sharper_min _ _ _ _ (p a b) (q (a + i) b))
      (sharper_min _ _ _ _ (p (a + i) b) (q a b)))

joined_sharper : (j : Join) (P P' Q Q' : Window) → SharperWindow P P' → SharperWindow Q Q'
    → SharperWindow (joined j P Q) (joined j P' Q')
unfolding joined
joined_sharper followed_by_join P P' Q Q' p q = followed_sharper P P' Q Q' p q
joined_sharper either_order P P' Q Q' p q =
    either_sharper _ _ _ _ (followed_sharper P P' Q Q' p q) (followed_sharper Q Q' P P' q p)
joined_sharper with_or_then P P' Q Q' p q =
    either_sharper _ _ _ _ (together_sharper P P' Q Q' p q) (followed_sharper P P' Q Q' p q)
joined_sharper any_order P P' Q Q' p q =
    either_sharper _ _ _ _
    (either_sharper _ _ _ _ (followed_sharper P P' Q Q' p q) (together_sharper P P' Q Q' p q))
    (followed_sharper Q Q' P P' q p)
joined_sharper with P P' Q Q' p q = together_sharper P P' Q Q' p q
joined_sharper or_else P P' Q Q' p q = either_sharper P P' Q Q' p q

-- over any two readings of the boolean expressions that agree on those with no ternary, and resolve those apart
module _ (st st' : Boolean → ℕ → ℕ)
    (agree : (c : Boolean) (i : ℕ) → plain c ≡ true → st c i ≡ st' c i)
    (resolve : (c : Boolean) (i : ℕ) → apart c ≡ true → Resolved (st c i) (st' c i)) where
  pub test_sharper : (e : Edge) (c : Boolean) (a b : ℕ) → (plain c || asks_digits e && apart c) ≡ true
      → Sharper (edge_on e (st c a) (st c b)) (edge_on e (st' c a) (st' c b))
  test_sharper e c a b t =
      or_cases (plain c) (asks_digits e && apart c) t
      (λ h. let u = agree c a h in
      let v = agree c b h in
      sharper_same _ _ (λ i. edge_on e (u i) (v i)) (edge_small e (st c a) (st c b)))
      (λ h. edge_sharper e _ _ _ _ (and_left (asks_digits e) (apart c) h)
      (resolve c a (and_right (asks_digits e) (apart c) h)) (resolve c b (and_right (asks_digits e) (apart c) h)))

  pub answer_sharper : (p : Vector) → tame p ≡ true → SharperWindow (answer st p) (answer st' p)
  unfolding tame answer held
  answer_sharper (edge e c) t a b = go (eqb b (a + 1))
    where
      go : (q : Bool)
          → Sharper (if q then edge_on e (st c a) (st c b) else 0) (if q then edge_on e (st' c a) (st' c b) else 0)
      go true = test_sharper e c a b t
      go false = sharper_same 0 0 refl (omega arith)
  answer_sharper (join j p q) t a b =
      joined_sharper j _ _ _ _ (answer_sharper p (and_left (tame p) (tame q) t))
      (answer_sharper q (and_right (tame p) (tame q) t)) a b
  answer_sharper (while s p c) t a b =
      sharper_min _ _ _ _ (answer_sharper p (and_left (tame p) (apart c) t) a b)
      (sharper_least _ _ _ (λ i. certainty_sharper _ _ (resolve c (a + i) (and_right (tame p) (apart c) t))))

  pub best_sharper : (p : Vector) → tame p ≡ true → (i : ℕ) → Sharper (best st p i) (best st' p i)
  unfolding best
  best_sharper p t i = sharper_greatest _ _ _ (λ a. answer_sharper p t a i)

-- the answer of a tame pattern by the new rule is that by the old one, or that was unknown
numbered_sharper : (x x' : ℕ) → Sharper x x' → (numbered x ≡ 2) ⊎ (numbered x' ≡ numbered x)
unfolding numbered
numbered_sharper zero zero s = inr refl
numbered_sharper zero (suc x') s = absurd (omega (arith, s.no_kept))
numbered_sharper (suc zero) x' s = inl refl
numbered_sharper (suc (suc x)) zero s = absurd (omega (arith, s.yes_kept))
numbered_sharper (suc (suc x)) (suc zero) s = absurd (omega (arith, s.yes_kept))
numbered_sharper (suc (suc x)) (suc (suc x')) s = inr refl

pub answer_kept : (names : ℕ) (states : List ℕ) (p : Vector) → tame p ≡ true → (i : ℕ)
    → (row_answer (state_at old_rules_lem names states) p i ≡ 2)
    ⊎ (row_answer (state_at new_rules names states) p i ≡ row_answer (state_at old_rules_lem names states) p i)
unfolding row_answer
answer_kept names states p t zero = inr refl
answer_kept names states p t (suc i) =
    numbered_sharper _ _
    (best_sharper (state_at old_rules_lem names states) (state_at new_rules names states)
    (λ c j h. same_state old_rules_lem new_rules (row_of names states j) c h)
    (λ c j h. state_resolved (row_of names states j) c h)
    p t (suc i))

-- Where a pattern is not tame, a yes may become no: 'bX'bX ( A ? 1 : 1 ) on A = X, X, and ?! ( A ? 1 : 1 ) on A = X, 1
abbrev sure : Boolean
sure = choice (name 0) (literal 1) (literal 1)

abbrev on : Rules → List ℕ → Edge → ℕ
on ρ states e = row_answer (state_at ρ 1 states) (edge e sure) 1

pub letter_turns : (on old_rules_lem (X ∷ X ∷ []) (pair (the X) (the X)) ≡ 1) ×
    (on new_rules (X ∷ X ∷ []) (pair (the X) (the X)) ≡ 0)
unfolding row_answer numbered best answer greatest edge_on asked digit_asked letter_asked state value recorded_or chosen
    unresolved reduce
letter_turns = (refl, refl)

pub change_turns : (on old_rules_lem (X ∷ 1 ∷ []) changes ≡ 1) × (on new_rules (X ∷ 1 ∷ []) changes ≡ 0)
unfolding row_answer numbered best answer greatest edge_on asked digit_asked letter_asked state value recorded_or chosen
    unresolved reduce
change_turns = (refl, refl)
