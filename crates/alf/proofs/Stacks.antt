-- All that bytes leave on a stack is over the names. Main names: AllOver, stack_over.
use Prim.Native.Nat.{ℕ, zero, suc}
use native.Mathlib.Omega.{arith}
use mathlib.Core.List.{List}
use lib.ListN.{get_or}
use Rattle.alf.specs.Expressions.{Over, VectorOver, ExpressionOver}
use Rattle.alf.specs.Decoder.{Stack, empty, broken, push, stack_at}
use Rattle.alf.proofs.Made.{Made, a_name, a_literal, a_negation, a_binary, a_choice, an_edge, a_join}
use Rattle.alf.proofs.Made.{a_condition, a_condition_before, nothing, made}
use Rattle.alf.proofs.OperatorBytes.{edge_known}

unfoldable pub AllOver : ℕ → Stack → Type 0
AllOver names empty = Unit {0}
AllOver names broken = Unit {0}
AllOver names (push e s) = ExpressionOver names e × AllOver names s

-- one byte more
made_over : (names b : ℕ) {s s' : Stack} → Made names b s s' → AllOver names s → AllOver names s'
unfolding AllOver ExpressionOver Over VectorOver
made_over names b (a_name l u) o = (u, o)
made_over names b (a_literal l u) o = (omega arith, o)
made_over names b (a_negation k e) o = rw e at o
made_over names b (a_binary l u e) o = let (y, (x, r)) = rw e at o in ((x, y), r)
made_over names b (a_choice k e) o = let (z, (y, (x, r))) = rw e at o in ((x, y, z), r)
made_over names b (an_edge l u e) o = let (x, r) = rw e at o in ((edge_known _ (omega arith), x), r)
made_over names b (a_join l u e) o = let (y, (x, r)) = rw e at o in ((x, y), r)
made_over names b (a_condition k e) o = let (y, (x, r)) = rw e at o in ((x, y), r)
made_over names b (a_condition_before k e) o = let (x, (y, r)) = rw e at o in ((x, y), r)
made_over names b nothing o = tt

pub stack_over : (t : List ℕ) (names n : ℕ) → AllOver names (stack_at t names n)
unfolding stack_at AllOver
stack_over t names zero = tt
stack_over t names (suc n) =
    made_over names (get_or t n 0) (made names (get_or t n 0) (stack_at t names n)) (stack_over t names n)
