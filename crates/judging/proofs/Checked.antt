-- What the functions that check come to, case by case: 18, 10, 15, 19, or good.
--   test_fails, test_passes         a test
--   codes_15, codes_good            15 of a trace
--   place_19, place_good            19
--   trace_18, trace_10, trace_15, row_refused, row_19     verdicts one after the other
--   checks_row, checks_rows         by what the tests decide
--   lent_as                         by what is decided of the lists lent
use Rattle.std.specs.Prelude.{Err, Ok}
use mathlib.Core.Path.{◌≡◌, refl}
use mathlib.Core.Bool.{Bool, true}
use mathlib.Core.Logic.{inl}
use mathlib.Core.List.{List, ◌++◌}
use Prim.Native.Nat.{ℕ, ◌<◌, ◌≤◌}
use native.Mathlib.Omega.{arith}
use lib.ListN.{length}
use Rattle.basics.specs.declared.Refusal.{Refusal}
use Rattle.basics.specs.Refusing.{refusal}
use Rattle.alf.specs.declared.Rules.{Rules}
use Rattle.alf.specs.declared.Sort.{Sort}
use Rattle.alf.specs.Refusals.{RefusedWith, Passed}
use Rattle.alf.proofs.Orders.{plainly}
use Rattle.acceptance.specs.Accepted.{Accepted}
use Rattle.basics.specs.Deciding.{Decides}
use Rattle.states.specs.FirstBadCode.{FirstBad}
use Rattle.states.proofs.BadCodes.{bad_given, bad_never}
use Rattle.states.specs.FirstBadCode.{Codes}
use Rattle.judging.specs.Orders.{Verdict}
use Rattle.judging.specs.Orders.{Rows, test, codes, place, rows_order, Judged, passes, refuses}
use Rattle.judging.specs.Orders.{JudgesTrace, JudgesRow, ChecksRow, ChecksRows}
use Rattle.basics.proofs.Deciding.{told, tells}
use Rattle.judging.proofs.Verdicts.{judged_as, lists_as, judged_stop, judged_go, judged_facts}

-- a test, 15, 19
module _ (number : ℕ) {good : Bool} where
  pub test_fails : {r : Refusal} → (good ≡ true → ⊥) → r ≡ refusal number 0
      → Judged (test number good) (good ≡ true) (Err r)
  unfolding RefusedWith
  test_fails h e = rw e (refuses (plainly _ _ 0 (inl (refl, record { given = h; there = refl }))))

  pub test_passes : good ≡ true → Judged (test number good) (good ≡ true) (Ok tt)
  unfolding Passed
  test_passes h = passes (λ p a. a.given h, tt) h

module _ {states : List ℕ} {bad : ℕ} (b : FirstBad states bad) where
  pub codes_15 : {r : Refusal} → bad < length states → r ≡ refusal 15 bad
      → Judged (codes states) (Codes states) (Err r)
  unfolding RefusedWith
  codes_15 h e = rw e (refuses (plainly _ 15 bad (inl (refl, bad_given b h))))

  pub codes_good : length states ≤ bad → Judged (codes states) (Codes states) (Ok tt)
  unfolding Passed
  codes_good h = passes (bad_never b (omega (arith, b.within)), tt) (λ i l. b.before i (omega arith))

module _ (n row : ℕ) where
  pub place_19 : {r : Refusal} → n ≤ row → r ≡ refusal 19 0 → Judged (place n row) (row < n) (Err r)
  unfolding RefusedWith
  place_19 h e = rw e (refuses (plainly _ _ 0 (inl (refl, record { given = h; there = refl }))))

  pub place_good : row < n → Judged (place n row) (row < n) (Ok tt)
  unfolding Passed
  place_good h = passes (λ p a. omega (arith, a.given), tt) h

-- verdicts one after the other
module _ {fits good : Bool} {states : List ℕ} {a : Verdict} (x : Judged (test 18 fits) (fits ≡ true) a) where
  pub trace_18 : {r : Refusal} → a ≡ Err r → JudgesTrace fits good states (Err r)
  trace_18 e =
      record {
        is = judged_facts (λ (f, (g, h)). (f, g, h))
            (judged_stop (test 10 good ++ codes states) {G = (good ≡ true) × Codes states} x e);
      }

  module _ (d : a ≡ (Ok tt)) {b : Verdict} (y : Judged (test 10 good) (good ≡ true) b) where
    pub trace_10 : {r : Refusal} → b ≡ Err r → JudgesTrace fits good states (Err r)
    trace_10 e =
        record {
          is = judged_facts (λ (f, (g, h)). (f, g, h))
              (judged_go x d (judged_stop (codes states) {G = Codes states} y e));
        }

    pub trace_15 : b ≡ (Ok tt) → {c : Verdict} → Judged (codes states) (Codes states) c → JudgesTrace fits good states c
    trace_15 e z = record { is = judged_facts (λ (f, (g, h)). (f, g, h)) (judged_go x d (judged_go y e z)) }

module _ {fits good : Bool} {states : List ℕ} {n row : ℕ} {a : Verdict} (x : JudgesTrace fits good states a) where
  pub row_refused : {r : Refusal} → a ≡ Err r → JudgesRow fits good states n row (Err r)
  row_refused e =
      record {
        is = judged_facts (λ ((f, g, h), k). (f, g, (h, k))) (judged_stop (place n row) {G = row < n} x.is e);
      }

  pub row_19 : a ≡ (Ok tt) → {b : Verdict} → Judged (place n row) (row < n) b → JudgesRow fits good states n row b
  row_19 d y = record { is = judged_facts (λ ((f, g, h), k). (f, g, (h, k))) (judged_go x.is d y) }

-- of a tree and a trace
module _ (ρ : Rules) (names n : ℕ) (tree : List ℕ) (sort : Sort) (states : List ℕ) (fits good : Bool)
    (g : Decides good (Accepted ρ names sort tree)) {v : Verdict} where
  pub checks_row : {row : ℕ} → Decides fits (Rows names n (length states)) → JudgesRow fits good states n row v
      → ChecksRow ρ names n tree sort states row v
  checks_row f j = record { is = judged_as fits good _ _ f (λ x. g) _ j.is }

  pub checks_rows : (lent : Bool) → Decides fits ((lent ≡ true) × Rows names n (length states))
      → JudgesTrace fits good states v → ChecksRows ρ names n lent tree sort states v
  checks_rows lent f j = record { is = judged_as fits good _ _ f (λ x. g) _ j.is }

-- by what is decided of the lists lent
pub lent_as : (ρ : Rules) (names n : ℕ) (tree : List ℕ) (sort : Sort) (states : List ℕ) (lent : Bool) (P : Type 0)
    → Decides lent P → {v : Verdict} → ChecksRows ρ names n lent tree sort states v
    → Judged (rows_order ρ names n P tree sort states)
    ((P × Rows names n (length states)) × Accepted ρ names sort tree × Codes states) v
lent_as ρ names n tree sort states lent P d c =
    lists_as (λ (x, l). (told lent d x, l)) (λ (x, l). (tells lent d x, l)) c.is
