-- What the functions that check times come to, case by case: 13, or good.
--   Looking, looking_first, -next, -end, early_found     the first row whose time is not above the last row's
--   early_13, early_good            13 of the times
--   judges_timed, judges_timed_row  verdicts put together
--   checks_timed, checks_timed_row  by what the tests decide
--   timed_as                        by what is decided of the lists lent
use Rattle.std.specs.Prelude.{Err, Ok}
use mathlib.Core.Path.{◌≡◌, refl}
use mathlib.Core.Bool.{Bool, true}
use mathlib.Core.Logic.{◌⊎◌, inl, inr}
use mathlib.Core.List.{List}
use Prim.Native.Nat.{ℕ, ◌+◌, ◌-◌, ◌<◌, ◌≤◌}
use native.Mathlib.Omega.{arith}
use lib.Dec.{eqb}
use lib.ListN.{length, get_or}
use Rattle.basics.specs.declared.Refusal.{Refusal}
use Rattle.basics.specs.Refusing.{refusal}
use Rattle.basics.specs.Deciding.{Decides}
use Rattle.basics.proofs.Bools.{equal?}
use Rattle.basics.proofs.Deciding.{told, tells, eqb_decides}
use Rattle.alf.specs.declared.Rules.{Rules}
use Rattle.alf.specs.declared.Sort.TheVariants.{Vector}
use Rattle.alf.specs.Refusals.{RefusedWith, Passed, Rising}
use Rattle.alf.proofs.Orders.{plainly}
use Rattle.acceptance.specs.Accepted.{Accepted}
use Rattle.states.specs.FirstBadCode.{Codes}
use Rattle.judging.specs.Orders.{Verdict}
use Rattle.judging.specs.Orders.{Rows, place, Judged, passes, refuses, JudgesTrace}
use Rattle.judging.specs.TimedOrders.{FirstEarly, rises, timed_order, JudgesTimed, JudgesTimedRow}
use Rattle.judging.specs.TimedOrders.{ChecksTimed, ChecksTimedRow}
use Rattle.judging.proofs.Verdicts.{judged_as, lists_as, judged_stop, judged_go, judged_facts}

-- the rows from 1 to those before i are above the last
pub record Looking (times : List ℕ) (i : ℕ) : Type 0 where
  pub some : 0 < i
  pub before : (r : ℕ) → 0 < r → r < i → get_or times (r - 1) 0 < get_or times r 0

module _ {times : List ℕ} where
  pub looking_first : Looking times 1
  looking_first = record { some = omega arith; before = λ r h l. omega arith }

  module _ {i : ℕ} (g : Looking times i) where
    pub looking_next : get_or times (i - 1) 0 < get_or times i 0 → Looking times (i + 1)
    looking_next u = record { some = omega arith; before = λ r h l. go r h l (equal? r i) }
      where
        go : (r : ℕ) → 0 < r → r < i + 1 → (r ≡ i) ⊎ (r ≡ i → ⊥) → get_or times (r - 1) 0 < get_or times r 0
        go r h l (inl e) = rw e u
        go r h l (inr n) = g.before r h (omega arith)

    pub looking_end : length times ≤ i → FirstEarly times (length times)
    looking_end h =
        record {
          within = omega arith;
          before = λ r k l. g.before r k (omega arith);
          there = λ l. absurd (omega arith);
        }

    pub early_found : i < length times → get_or times i 0 ≤ get_or times (i - 1) 0 → FirstEarly times i
    early_found h u = record { within = omega arith; before = g.before; there = λ l. (g.some, u) }

-- 13
module _ {times : List ℕ} {early : ℕ} (b : FirstEarly times early) where
  pub early_13 : {r : Refusal} → early < length times → r ≡ refusal 13 early
      → Judged (rises times) (Rising times) (Err r)
  unfolding RefusedWith
  early_13 h e =
      rw e
      (refuses (plainly _ 13 early
      (inl (refl, record { given = (h, b.there h); before = λ i l (m, (k, u)). omega (arith, u, b.before i k l) }))))

  pub early_good : length times ≤ early → Judged (rises times) (Rising times) (Ok tt)
  unfolding Passed
  early_good h =
      passes
      (λ p a. let (m, (k, u)) = a.given in omega (arith, u, b.before p k (omega arith)), tt)
      (λ r k l. b.before r k (omega arith))

-- verdicts one after the other
module _ {fits good : Bool} {states times : List ℕ} {a : Verdict} (x : JudgesTrace fits good states a) where
  pub timed_refused : {r : Refusal} → a ≡ Err r → JudgesTimed fits good states times (Err r)
  timed_refused e =
      record {
        is = judged_facts (λ ((f, g, h), k). (f, g, (h, k)))
            (judged_stop (rises times) {G = Rising times} x.is e);
      }

  pub timed_13 : a ≡ (Ok tt) → {b : Verdict} → Judged (rises times) (Rising times) b
      → JudgesTimed fits good states times b
  timed_13 d y = record { is = judged_facts (λ ((f, g, h), k). (f, g, (h, k))) (judged_go x.is d y) }

module _ {fits good : Bool} {states times : List ℕ} {n row : ℕ} {a : Verdict}
    (x : JudgesTimed fits good states times a) where
  pub timed_row_refused : {r : Refusal} → a ≡ Err r → JudgesTimedRow fits good states times n row (Err r)
  timed_row_refused e =
      record {
        is = judged_facts (λ ((f, g, (h, k)), l). (f, g, (h, k, l)))
            (judged_stop (place n row) {G = row < n} x.is e);
      }

  pub timed_row_19 : a ≡ (Ok tt) → {b : Verdict} → Judged (place n row) (row < n) b
      → JudgesTimedRow fits good states times n row b
  timed_row_19 d y = record { is = judged_facts (λ ((f, g, (h, k)), l). (f, g, (h, k, l))) (judged_go x.is d y) }

-- of a tree and a trace
module _ (ρ : Rules) (names n : ℕ) (tree times states : List ℕ) (fits good lent : Bool)
    (f : Decides fits ((lent ≡ true) × Rows names n (length states)))
    (g : Decides good (Accepted ρ names Vector tree)) {v : Verdict} where
  pub checks_timed : JudgesTimed fits good states times v → ChecksTimed ρ names n lent tree times states v
  checks_timed j = record { is = judged_as fits good _ _ f (λ x. g) _ j.is }

  pub checks_timed_row : {row : ℕ} → lent ≡ eqb (length times) n → JudgesTimedRow fits good states times n row v
      → ChecksTimedRow ρ names n tree times states row v
  checks_timed_row e j =
      let d : Decides lent (length times ≡ n) = rw e (eqb_decides (length times) n) in
      record {
        is =
            lists_as (λ (x, l). (told lent d x, l)) (λ (x, l). (tells lent d x, l))
            (judged_as fits good _ _ f (λ x. g) _ j.is);
      }

-- by what is decided of the lists lent
pub timed_as : (ρ : Rules) (names n : ℕ) (tree times states : List ℕ) (lent : Bool) (P : Type 0)
    → Decides lent P → {v : Verdict} → ChecksTimed ρ names n lent tree times states v
    → Judged (timed_order ρ names n P tree times states)
    ((P × Rows names n (length states)) × Accepted ρ names Vector tree × (Codes states × Rising times)) v
timed_as ρ names n tree times states lent P d c =
    lists_as (λ (x, l). (told lent d x, l)) (λ (x, l). (tells lent d x, l)) c.is
