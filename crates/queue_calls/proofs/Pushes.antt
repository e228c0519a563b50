-- What a push comes to, case by case.
--   steps_over, steps_within, few_steps   K is counted, and at most 16
--   queue_many, queue_tree, queue_kept    whether a queue may be handed in with a tree
--   push_asked; push_good, push_refused, push_told
use Rattle.std.specs.Prelude.{Err, Ok}
use Rattle.std.specs.Prelude.{None, Some}
use mathlib.Core.Path.{◌≡◌, refl, ap, sym, ◌∙◌}
use mathlib.Core.Bool.{Bool, true, false}
use mathlib.Core.List.{List}
use Prim.Native.Nat.{ℕ, ◌<◌, ◌≤◌}
use native.Mathlib.Omega.{arith}
use lib.Dec.{ltb}
use lib.ListN.{length}
use borrow.Author.Tests.{ltb-false}
use Rattle.basics.specs.declared.Refusal.{Refusal}
use Rattle.alf.specs.declared.Rules.{Rules}
use Rattle.alf.specs.declared.Sort.TheVariants.{Vector}
use Rattle.alf.specs.Expressions as expressions
use Rattle.alf.specs.Alternatives.{alternatives, steps_of, over_limit}
use Rattle.basics.proofs.Bools.{never, or_left, or_right}
use Rattle.acceptance.specs.declared.sizes.Size.{Size}
use Rattle.acceptance.specs.Sizes.{Measured}
use Rattle.acceptance.specs.Sizes.{measured}
use Rattle.acceptance.specs.Accepted.{Accepted}
use Rattle.basics.specs.Deciding.{Decides}
use Rattle.beginnings.specs.declared.times.Dated.{Dated}
use Rattle.timed_queue.specs.declared.queues.Queue.{Queue}
use Rattle.states.specs.FirstBadCode.{Codes}
use Rattle.queue.specs.Queues.{PushAsked}
use Rattle.alternatives.specs.declared.lists.Lists.{Lists}
use Rattle.rewriting.specs.Lists.{StandFor}
use Rattle.rewriting.proofs.Bounds.{accepted_limited}
use Rattle.judging.specs.Orders.{Verdict}
use Rattle.matching_calls.specs.Matching.{Matching}
use Rattle.judging.specs.Orders.{Judged}
use Rattle.matching_calls.specs.Matching.{expression}
use Rattle.queue_calls.specs.Pushing.{RowFits, Keeps, Early, Handed, push_order}
use Rattle.queue_calls.specs.Pushing.{PushesTree, Takes, Push, DecidesQueue, JudgesPush}
use Rattle.queue_calls.specs.Pushing.{TreePush}
use Rattle.basics.proofs.Deciding.{same_decided}
use Rattle.judging.proofs.Verdicts.{judged_as, judged_good, judged_not}
use Rattle.matching_calls.proofs.ByAlternatives.{longest_steps}

-- K of an accepted tree
steps_in : Measured → ℕ
steps_in None = 0
steps_in (Some s) = s.steps

is_over : Measured → Bool
is_over None = true
is_over (Some s) = false

module _ (p : expressions.Vector) (h : over_limit (alternatives p) ≡ false) {m : Measured} (e : m ≡ measured p) where
  pub steps_over : m ≡ None → 0 ≡ steps_of p
  unfolding measured is_over
  steps_over f = never (sym (ap is_over (sym f ∙ e) ∙ rw h refl))

  pub steps_within : {s : Size} → m ≡ Some s → s.steps ≡ steps_of p
  unfolding measured steps_in
  steps_within f = ap steps_in (sym f ∙ e) ∙ rw h refl

pub few_steps : (p : expressions.Vector) → over_limit (alternatives p) ≡ false → steps_of p ≤ 16
unfolding over_limit steps_of
few_steps p h = ltb-false 16 _ (or_left _ _ (or_right (ltb 64 (length (alternatives p))) _ h))

-- whether a queue may be handed in with a tree
module _ (ρ : Rules) (names : ℕ) (tree : List ℕ) (q : Queue) where
  pub queue_many : 32 < names → DecidesQueue ρ names tree q false
  queue_many h = record { is = λ l. absurd (omega (arith, h, l)) }

  pub queue_tree : (Accepted ρ names Vector tree → ⊥) → DecidesQueue ρ names tree q false
  unfolding Decides
  queue_tree n = record { is = λ l s. n s.accepted }

  pub queue_kept : {k : ℕ} (r : Bool) → Accepted ρ names Vector tree → k ≡ steps_of (expression ρ tree names)
      → Decides r (Keeps names k q) → DecidesQueue ρ names tree q r
  queue_kept {k} r a e d =
      record {
        is = λ l.
            same_decided (Keeps names k q) (Handed ρ names tree q) r
            (λ s. record { accepted = a; kept = rw e at s }) (λ s. rw e s.kept) d;
      }

-- a tree, a queue and a row that fit, as the queue asks for them
pub push_asked : {ρ : Rules} {names : ℕ} {tree : List ℕ} {q : Queue} {row : List ℕ} {ls : Lists}
    → TreePush ρ names tree q row
    → StandFor ρ tree names ls
    → PushAsked tree names ls.steps.now ls.tests.now
    ls.edges.now ls.operands.now q.rows row
push_asked {ρ} {names} {tree} {q} t h =
    let k = longest_steps h in
    let few = few_steps (expression ρ tree names) (accepted_limited tree names t.handed.accepted) in
    record {
      shape = h.shape;
      room =
          record {
            some = t.fits.name_count_lem.0;
            most = t.fits.name_count_lem.1;
            few = omega (arith, k);
            kept = omega (arith, k, t.handed.kept.kept.few);
            codes = t.handed.kept.kept.codes;
          };
      full = t.fits.full;
      codes = t.codes;
    }

module _ {ρ : Rules} {names : ℕ} {tree : List ℕ} {q : Queue} {row : List ℕ} {fits good : Bool} {v : Verdict}
    (f : Decides fits (RowFits names (length row))) (g : DecidesQueue ρ names tree q good)
    {time : ℕ} (j : JudgesPush fits good q time row v) where
  as_push : Judged (push_order ρ names tree q time row)
      (RowFits names (length row) × Handed ρ names tree q × (Codes row × (Early q time → ⊥))) v
  as_push = judged_as fits good _ _ f (λ x. g.is x.name_count_lem.1) _ j.is

  pub push_good : v ≡ (Ok tt) → TreePush ρ names tree q row
  push_good e = let (l, h, (s, t)) = (judged_good as_push e).1 in record { handed = h; fits = l; codes = s }

  pub push_refused : {r : Refusal} → v ≡ Err r → Push ρ names tree q time row (Err r) q
  unfolding Takes
  push_refused e = record { comes = (judged_not as_push e, refl) }

  pub push_told : {m : Dated} {p q' : Queue} {told : Matching} → v ≡ (Ok tt)
      → PushesTree ρ names tree q time row m.answer m.tries m.began p
      → told ≡ Ok m → q' ≡ p
      → Push ρ names tree q time row told q'
  unfolding Takes
  push_told e p d f = rw (d, f) (record { comes = ((judged_good as_push e).0, p) })
