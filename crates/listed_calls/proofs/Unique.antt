-- Any two results that the contract of a call over alternatives handed in allows coincide, and so does the memory lent
-- at exit, refused or not.
--   listed_match_unique, listed_all_unique, listed_totals_unique, listed_push_unique
use Rattle.std.specs.Prelude.{Err, Ok}
use mathlib.Core.Path.{◌≡◌, sym, ap, ◌∙◌}
use mathlib.Core.List.{List}
use Prim.Native.Nat.{ℕ}
use Rattle.basics.specs.Refusing.{Outcome}
use Rattle.alf.specs.declared.Rules.{Rules}
use Rattle.alf.proofs.Outcomes.{refused_passed, refused_by_unique}
use Rattle.alf.specs.Refusals.{Order}
use Rattle.matcher.proofs.Unique.{totals_unique}
use Rattle.beginnings.proofs.ByTries.{dates_unique}
use Rattle.timed_queue.specs.declared.queues.Queue.{Queue}
use Rattle.timed_queue.proofs.Unique.{pushes_unique}
use Rattle.matching_calls.specs.Matching.{Matching}
use Rattle.matching_calls.specs.Matching.{Counting}
use Rattle.call_laws.proofs.Unique.{codes_fixed, timed_fixed, timed_row_fixed, push_fixed}
use Rattle.call_laws.proofs.Unique.{outcome_unique, finds_unique, counts_unique}
use Rattle.basics.proofs.Memory.{after_unique}
use Rattle.listed_calls.specs.Listed.{ListedMatch, ListedAll, ListedTotals, ListedPush, push_order, Takes}

module _ {names n : ℕ} {tree steps tests edges operands states : List ℕ} where
  pub listed_match_unique : {ρ : Rules} {times : List ℕ} {row : ℕ} {a b : Matching}
      → ListedMatch ρ names n tree steps tests edges operands states times row a
      → ListedMatch ρ names n tree steps tests edges operands states times row b → a ≡ b
  listed_match_unique {ρ} {times} {row} x y =
      finds_unique _ _ (timed_row_fixed _ _ states times n row) (λ a b t u c d p q. dates_unique p q) _ _ x.comes
      y.comes

  pub listed_all_unique : {ρ : Rules} {times answers tried given began a t g s b u h r : List ℕ} {x y : Outcome}
      → ListedAll ρ names n tree steps tests edges operands states times answers tried given began a t g s x
      → ListedAll ρ names n tree steps tests edges operands states times answers tried given began b u h r y
      → (x ≡ y) × (a ≡ b) × (t ≡ u) × (g ≡ h) × (s ≡ r)
  listed_all_unique {ρ} {times} {answers} {tried} {given} {began} x y =
      let e = outcome_unique _ _ (timed_fixed _ _ states times) _ _ x.comes y.comes in (
        e,
        after_unique _ answers e x.answers_memory y.answers_memory,
        after_unique _ tried e x.tried_memory y.tried_memory,
        after_unique _ given e x.given_memory y.given_memory,
        after_unique _ began e x.began_memory y.began_memory,
      )

  pub listed_totals_unique : {ρ : Rules} {a b : Counting}
      → ListedTotals ρ names n tree steps tests edges operands states a
      → ListedTotals ρ names n tree steps tests edges operands states b → a ≡ b
  listed_totals_unique x y =
      counts_unique _ _ (codes_fixed _ _ states) (λ a b c d e f p q. totals_unique p q) _ _ x.comes y.comes

module _ (names : ℕ) (tree steps tests edges operands : List ℕ) (q : Queue) (time : ℕ) (row : List ℕ) where
  abbrev orders : Order
  orders = push_order names tree steps tests edges operands q time row

  takes_unique : (ρ : Rules) (x y : Matching) (p r : Queue)
      → Takes ρ names tree steps tests edges operands q time row x p
      → Takes ρ names tree steps tests edges operands q time row y r → (x ≡ y) × (p ≡ r)
  unfolding Takes
  takes_unique ρ (Ok m) (Ok k) p r a b =
      let e = pushes_unique a.1 b.1 in
      (λ i. Ok (record { answer = e.0 i; tries = e.1 i; began = e.2 i }), e.3)
  takes_unique ρ (Ok m) (Err s) p r a b = absurd (refused_passed orders _ _ a.0 b.0.by)
  takes_unique ρ (Err s) (Ok k) p r a b = absurd (refused_passed orders _ _ b.0 a.0.by)
  takes_unique ρ (Err s) (Err t) p r a b =
      (ap Err (refused_by_unique orders (push_fixed _ _ q time row) a.0 b.0), a.1 ∙ sym b.1)

pub listed_push_unique : {ρ : Rules} {names : ℕ} {tree steps tests edges operands : List ℕ} {q : Queue} {time : ℕ}
    {row : List ℕ} {x y : Matching} {p r : Queue}
    → ListedPush ρ names tree steps tests edges operands q time row x p
    → ListedPush ρ names tree steps tests edges operands q time row y r → (x ≡ y) × (p ≡ r)
listed_push_unique a b = takes_unique _ _ _ _ _ _ _ _ _ _ _ _ _ _ a.comes b.comes
