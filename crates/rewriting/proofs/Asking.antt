-- What holds of each operand of an expression holds of the operand of each test of its alternatives.
-- Main names: Asks, alternatives_ask; all_joined.
use Prim.Native.Nat.{ℕ, zero, suc, ◌-◌}
use mathlib.Core.List.{List, ◌++◌}
use lib.ListN.{length}
use Rattle.alf.specs.Expressions.{Boolean, Edge, Vector}
use Rattle.alf.specs.Expressions.{Join, followed_by_join, either_order, with_or_then, any_order, with, or_else}
use Rattle.alf.specs.Alternatives.{Test, test, Alternative, padded, zipped, overlaid, conditioned}
use Rattle.alf.specs.Alternatives.{rewritten, alternatives}
use Rattle.basics.proofs.AllEntries.{All, none, more, all_append, all_map}
use Rattle.alf.proofs.EachAll.{all_each}
use Rattle.rewriting.specs.Lists.{joined}
use Rattle.step_tests.proofs.Places.{Each, of_edge, of_join, of_while}

pub all_joined : {A : Type 0} {P : A → Type 0} {xs : List (List A)} → All (All P) xs → All P (joined xs)
unfolding joined
all_joined none = none
all_joined (more h s) = all_append h (all_joined s)

module _ (P : Boolean → Type 0) where
  pub data Asks : Test → Type 0 where
    asks : {e : Edge} {c : Boolean} → P c → Asks (test e c)

  abbrev Good : Alternative → Type 0
  Good = All (All Asks)

  padded_ask : (k : ℕ) {x : Alternative} → Good x → Good (padded k x)
  unfolding padded
  padded_ask zero h = h
  padded_ask (suc k) h = more none (padded_ask k h)

  zipped_ask : {x y : Alternative} → Good x → Good y → Good (zipped x y)
  unfolding zipped
  zipped_ask none t = t
  zipped_ask (more h s) none = more h s
  zipped_ask (more h s) (more k t) = more (all_append h k) (zipped_ask s t)

  overlaid_ask : (x y : Alternative) → Good x → Good y → Good (overlaid x y)
  unfolding overlaid
  overlaid_ask x y h k = zipped_ask (padded_ask (length y - length x) h) (padded_ask (length x - length y) k)

  chained_ask : (x y : Alternative) → Good x → Good y → Good (x ++ y)
  chained_ask x y h k = all_append h k

  conditioned_ask : (c : Boolean) → P c → (x : Alternative) → Good x → Good (conditioned c x)
  unfolding conditioned
  conditioned_ask c p x h = all_map _ (λ s g. all_append g (more (asks p) none)) h

  rewritten_ask : (j : Join) {xs ys : List Alternative} → All Good xs → All Good ys → All Good (rewritten j xs ys)
  unfolding rewritten
  rewritten_ask followed_by_join h k = all_each ◌++◌ chained_ask h k
  rewritten_ask either_order h k = all_append (all_each ◌++◌ chained_ask h k) (all_each ◌++◌ chained_ask k h)
  rewritten_ask with_or_then h k = all_append (all_each overlaid overlaid_ask h k) (all_each ◌++◌ chained_ask h k)
  rewritten_ask any_order h k =
      all_append (all_append (all_each ◌++◌ chained_ask h k) (all_each overlaid overlaid_ask h k))
      (all_each ◌++◌ chained_ask k h)
  rewritten_ask with h k = all_each overlaid overlaid_ask h k
  rewritten_ask or_else h k = all_append h k

  pub alternatives_ask : {p : Vector} → Each P p → All Good (alternatives p)
  unfolding alternatives
  alternatives_ask (of_edge h) = more (more (more (asks h) none) none) none
  alternatives_ask (of_join {j = j} h k) = rewritten_ask j (alternatives_ask h) (alternatives_ask k)
  alternatives_ask (of_while {c = c} h k) = all_map (conditioned c) (conditioned_ask c k) (alternatives_ask h)
