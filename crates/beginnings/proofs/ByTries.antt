-- The time that is found from the answer and the number tried is the one of document 02, [12].
--   steps_are          alternative k has as many steps as the list says
--   Listed             alternatives with a list of their numbers of steps
--   by_tries           at a row
--   date_asked, dated  what is asked where a row is matched, and what is told then
--   marks-asked, marked     the same of all rows
--   dates_unique       two results that are allowed coincide
use Prim.Native.Nat.{ℕ, ◌-◌, ◌<◌}
use native.Mathlib.Omega.{arith}
use native.Mathlib.Nat.{zero-add}
use mathlib.Core.Path.{◌≡◌, ap, sym, ◌∙◌}
use mathlib.Core.Logic.{◌⊎◌, inl, inr}
use mathlib.Core.List.{List, []}
use lib.Dec.{eqb}
use lib.ListN.{length, get_or}
use borrow.Author.Tests.{eq-eqb, ne_eqb}
use Rattle.basics.specs.Words.{listed}
use Rattle.basics.proofs.Bools.{equal?}
use Rattle.basics.proofs.Listed.{listed_at, listed_same}
use Rattle.alf.specs.declared.Answer.{Answer}
use Rattle.alf.specs.Beginnings.{Began}
use Rattle.alf.specs.Expressions.{Boolean}
use Rattle.alf.specs.Answers.{number_of}
use Rattle.alf.specs.Alternatives.{Alternative, answer_of, tries}
use Rattle.alf.specs.Beginnings.{began, is_given, time_of_lem}
use Rattle.alf.proofs.Beginnings as laws
use Rattle.matcher.specs.Answers.{Matches}
use Rattle.matcher.proofs.Unique.{matches_unique}
use Rattle.beginnings.specs.Times.{began_by, Took, DateAsked, Dating, began_of, Marks}
use Rattle.beginnings.specs.Dated.{Dates, flags_on, times_on}

-- alternatives with a list of their numbers of steps
pub record Counted (xs : List Alternative) (steps : List ℕ) : Type 0 where
  pub long : length steps ≡ length xs
  pub each : (k : ℕ) → k < length xs → get_or steps k 0 ≡ length (get_or xs k [])

module _ (st : Boolean → ℕ → ℕ) (times : List ℕ) {xs : List Alternative} {steps : List ℕ} (s : Counted xs steps) where
  module _ (i : ℕ) (e : answer_of st xs i ≡ 1) where
    took_laws : laws.Took st times xs i
    took_laws = laws.began_tries st times xs i e

    took_steps_lem : get_or steps (tries st xs i - 1) 0 ≡ laws.took_steps st times xs i
    took_steps_lem = let t = took_laws in s.each _ (omega (arith, t.some, t.there))

    took : Took steps i (tries st xs i)
    took =
        let t = took_laws in
        record {
          some = t.some;
          there = omega (arith, t.there, s.long);
          room = omega (arith, t.room, took_steps_lem);
        }

  -- at a row
  pub by_tries : (i : ℕ) → began_by times steps i (eqb (answer_of st xs i) 1) (tries st xs i) ≡ began st times xs i
  unfolding began_by
  by_tries i = go (equal? (answer_of st xs i) 1)
    where
      go : (answer_of st xs i ≡ 1) ⊎ (answer_of st xs i ≡ 1 → ⊥)
          → began_by times steps i (eqb (answer_of st xs i) 1) (tries st xs i) ≡ began st times xs i
      go (inl e) = rw (eq-eqb _ 1 e, took_steps_lem i e) (sym (took_laws i e).time)
      go (inr n) = rw (ne_eqb _ 1 n) (sym (laws.began_none st times xs i n))

  module _ {i : ℕ} {a : Answer} {t : ℕ} (m : Matches st xs i a t) where
    pub date_asked : i < length times → DateAsked times steps i a t
    date_asked h = record { there = h; took = λ e. rw m.count (took i (sym m.is ∙ e)) }

    pub dated : {a' : Answer} {t' : ℕ} {b : Began} → Dating times steps i a t a' t' b
        → Dates st times xs i a' t' b
    dated d =
        record {
          matches = record { is = ap number_of d.same ∙ m.is; count = d.count ∙ m.count };
          since = d.since ∙ rw (m.is, m.count) (by_tries i);
        }

  module _ {n : ℕ} {answers tried : List ℕ} (a : answers ≡ listed 0 n (answer_of st xs))
      (t : tried ≡ listed 0 n (tries st xs)) where
    answer_at : (r : ℕ) → r < n → get_or answers r 0 ≡ answer_of st xs r
    answer_at r h = ap (λ (l : List ℕ). get_or l r 0) a ∙ listed_at 0 n r (answer_of st xs) 0 h ∙ ap (answer_of st xs)
        (zero-add r)

    tried_at : (r : ℕ) → r < n → get_or tried r 0 ≡ tries st xs r
    tried_at r h = ap (λ (l : List ℕ). get_or l r 0) t ∙ listed_at 0 n r (tries st xs) 0 h ∙ ap (tries st xs) (zero-add r)

    pub marks_took : (r : ℕ) → r < n → get_or answers r 0 ≡ 1 → Took steps r (get_or tried r 0)
    marks_took r h e = rw (tried_at r h) (took r (sym (answer_at r h) ∙ e))

    began_at_lem : (r : ℕ) → r < n → began_of times steps answers tried r ≡ began st times xs r
    began_at_lem r h = rw (answer_at r h, tried_at r h) (by_tries r)

    pub marked_flags : {given began' : List ℕ} → Marks times steps n answers tried given began'
        → given ≡ listed 0 n (flags_on st times xs)
    marked_flags m = m.flags ∙ listed_same _ _ 0 n (λ r h. ap is_given (began_at_lem r (omega arith)))

    pub marked_times : {given began' : List ℕ} → Marks times steps n answers tried given began'
        → began' ≡ listed 0 n (times_on st times xs)
    marked_times m = m.stamps ∙ listed_same _ _ 0 n (λ r h. ap time_of_lem (began_at_lem r (omega arith)))

pub dates_unique : {st : Boolean → ℕ → ℕ} {times : List ℕ} {xs : List Alternative} {i : ℕ} {a b : Answer} {t u : ℕ}
    {s r : Began}
    → Dates st times xs i a t s → Dates st times xs i b u r
    → (a ≡ b) × (t ≡ u) × (s ≡ r)
dates_unique d e =
    let m = matches_unique d.matches e.matches in
    (m.0, m.1, d.since ∙ sym e.since)
