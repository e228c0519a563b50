-- The boolean expressions that a vector expression asks about, and that its alternatives ask about, are the same.
--   Asked Q p         Q holds of each boolean operand in p
--   Asks Q x          Q holds of the operand of each test of the alternative x
--   alternatives_ask  if p's operands have a property, those of its alternatives' tests have it
--   over_asked        an expression over n names has operands over n names
use mathlib.Core.List.{List, [], ◌∷◌, ◌++◌}
use Prim.Native.Nat.{ℕ, zero, suc, ◌-◌}
use lib.ListN.{length, replicate}
use Rattle.alf.specs.Expressions.{Boolean, the, pair, Vector, edge, join, while, Over, VectorOver}
use Rattle.alf.specs.Expressions.{Join, followed_by_join, either_order, with_or_then, any_order, with, or_else}
use Rattle.alf.specs.Alternatives.{Test, test, Alternative, padded, zipped, overlaid, conditioned}
use Rattle.alf.specs.Alternatives.{chained, overlapped, rewritten, alternatives}
use Rattle.basics.proofs.AllEntries.{All, none, more, all_append, all_map}
use Rattle.alf.proofs.EachAll.{all_each}

module _ (Q : Boolean → Type 0) where
  abbrev pub Asked : Vector → Type 0
  Asked (edge e c) = Q c
  Asked (join j p q) = Asked p × Asked q
  Asked (while s p c) = Asked p × Q c

  abbrev pub AsksTest : Test → Type 0
  AsksTest (test e c) = Q c

  abbrev pub Asks : Alternative → Type 0
  Asks = All (All AsksTest)

  asks_replicate : (k : ℕ) → Asks (replicate k [])
  asks_replicate zero = none
  asks_replicate (suc k) = more none (asks_replicate k)

  asks_zipped : (x y : Alternative) → Asks x → Asks y → Asks (zipped x y)
  unfolding zipped
  asks_zipped [] y s t = t
  asks_zipped (u ∷ x) [] s t = s
  asks_zipped (u ∷ x) (v ∷ y) (more h s) (more k t) = more (all_append h k) (asks_zipped x y s t)

  asks_overlaid : (x y : Alternative) → Asks x → Asks y → Asks (overlaid x y)
  unfolding overlaid padded
  asks_overlaid x y s t =
      asks_zipped _ _
      (all_append (asks_replicate (length y - length x)) s)
      (all_append (asks_replicate (length x - length y)) t)

  asks_conditioned : (c : Boolean) (x : Alternative) → Q c → Asks x → Asks (conditioned c x)
  unfolding conditioned
  asks_conditioned c x q s = all_map _ (λ u h. all_append h (more {x = test (pair (the 1) (the 1)) c} q none)) s

  abbrev AllAsk : List Alternative → Type 0
  AllAsk = All Asks

  chained_ask : {xs ys : List Alternative} → AllAsk xs → AllAsk ys → AllAsk (chained xs ys)
  chained_ask = all_each ◌++◌ (λ x y s t. all_append s t)

  overlapped_ask : {xs ys : List Alternative} → AllAsk xs → AllAsk ys → AllAsk (overlapped xs ys)
  overlapped_ask = all_each overlaid asks_overlaid

  rewritten_ask : (j : Join) {xs ys : List Alternative} → AllAsk xs → AllAsk ys → AllAsk (rewritten j xs ys)
  unfolding rewritten
  rewritten_ask followed_by_join s t = chained_ask s t
  rewritten_ask either_order s t = all_append (chained_ask s t) (chained_ask t s)
  rewritten_ask with_or_then s t = all_append (overlapped_ask s t) (chained_ask s t)
  rewritten_ask any_order s t = all_append (all_append (chained_ask s t) (overlapped_ask s t)) (chained_ask t s)
  rewritten_ask with s t = overlapped_ask s t
  rewritten_ask or_else s t = all_append s t

  pub alternatives_ask : (p : Vector) → Asked p → AllAsk (alternatives p)
  unfolding alternatives
  alternatives_ask (edge e c) q = more {x = (test e c ∷ []) ∷ []} (more (more {x = test e c} q none) none) none
  alternatives_ask (join j p q) h = rewritten_ask j (alternatives_ask p h.0) (alternatives_ask q h.1)
  alternatives_ask (while s p c) h =
      all_map (conditioned c) (λ x. asks_conditioned c x h.1) (alternatives_ask p h.0)

pub over_asked : (n : ℕ) (p : Vector) → VectorOver n p → Asked (Over n) p
unfolding VectorOver
over_asked n (edge e c) h = h.1
over_asked n (join j p q) h = (over_asked n p h.0, over_asked n q h.1)
over_asked n (while s p c) h = (over_asked n p h.0, h.1)
